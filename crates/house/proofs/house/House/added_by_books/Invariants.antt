-- What the slots add is what was added so far and what the slots from here on add.
use Rattle.std.proofs.Common.{◌≡◌, ◌-◌, ◌*◌, ◌≤◌, ◌+ℤ◌, nat_abs}
use Rattle.house.specs.View.{view}
use Rattle.house.proofs.Adding.{slots_add}
use Rattle.house.proofs.house.House.added_by_books.Given as goal

abbrev pub invariant-loop-slot : goal.invariant-loop-slot
invariant-loop-slot g l =
    (nat_abs l.total ≤ 148800000000000000 * l.slot)
    × (slots_add (g.R.MarginRule.units l.rule) (view l.self) l.member 0 (17 * l.years) ≡ l.total +ℤ slots_add (g.R.MarginRule.units l.rule) (view l.self) l.member l.slot (17 * l.years - l.slot))
