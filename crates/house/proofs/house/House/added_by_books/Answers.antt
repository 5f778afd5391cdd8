use Rattle.std.proofs.Common.{◌≡◌, ◌+◌, ◌-◌, ◌*◌, ◌<◌, ◌≤◌, ◌+ℤ◌, sym, ap, ◌∙◌, arith}
use borrow.Author.Differences.{ints}
use Rattle.market.specs.Calendar.{in_house, contract_at}
use Rattle.market.proofs.Slots.{slots_held}
use Rattle.history.specs.BooksCover.{contract_adds}
use Rattle.house.specs.View.{view}
use Rattle.house.proofs.Adding.{slots_add, slots_all, slots_next, slots_none, more_128}
use Rattle.house.proofs.house.House.added_by_books.Goals as goal

pub adds-total-requires : goal.adds-total-requires
adds-total-requires g c =
    let years = c.args.self.now.books.years in
    let own = (slots_held years c.loop-slot.slot (omega (arith, c.loop-slot-test.true, c.count-slot-end.ensures))).0 in
    record { member = c.requires; contract = ap (in_house years) c.contract_at.ensures ∙ own }

pub loop-slot-preserved : goal.loop-slot-preserved
loop-slot-preserved g c =
    let h = c.args.self.now in
    let units = g.R.MarginRule.units c.args.rule.now in
    let at = c.loop-slot.slot in
    let few = h.books.few in
    let below : at < 17 * h.books.years = omega (arith, c.loop-slot-test.true, c.count-slot-end.ensures) in
    let room : 148800000000000000 * at + 148800000000000000 ≤ 100000000000000000000 = omega (arith, few, below) in
    let is : c.adds-total.result ≡ contract_adds units (view h) c.args.member (contract_at h.books.years at) = c.adds-total.ensures.is ∙ ap (contract_adds units (view h) c.args.member) c.contract_at.ensures in
    let next = slots_next units (view h) c.args.member at (17 * h.books.years) below ∙ ap (λ z. z +ℤ slots_add units (view h) c.args.member (at + 1) (17 * h.books.years - (at + 1))) (sym is) in
    let more = more_128 _ c.adds-total.result _ _ _ (148800000000000000 * at) 148800000000000000 c.loop-slot.invariant.0 c.adds-total.ensures.bound room c.loop-slot.invariant.1 next in
    let low = more.0 in
    (omega arith, more.1)

pub returns : goal.returns
returns g c =
    let h = c.args.self.now in
    let units = g.R.MarginRule.units c.args.rule.now in
    let few = h.books.few in
    let none = slots_none units (view h) c.args.member c.loop-slot.slot (17 * h.books.years) (omega (arith, c.loop-slot-test.false, c.count-slot-end.ensures)) in
    let all = slots_all units (view h) c.args.member in
    let i0 = c.loop-slot.invariant.0 in
    let i1 = c.loop-slot.invariant.1 in
    let end = c.loop-slot.auto.slot-end in let same = c.count-slot-end.ensures in
    record { is = omega (arith, ints); bound = omega (arith, i0, few, end) }
