-- What an arrival does, in the words of the trade: to what its member has open, to its money, and to all others.
use Rattle.std.specs.Prelude.{◌≡◌, ℕ, ◌+◌, ◌*◌, ◌<◌, ◌≤◌, false, List, ℤ, pos, ◌+ℤ◌, ◌-ℤ◌, filter, ◌≢◌, unsigned_abs}
use Rattle.market.specs.declared.records.Side.TheVariants.{Buy, Sell}
use Rattle.market.specs.declared.records.Lot.{Lot}
use Rattle.lots.specs.Lots.{held_by}
use Rattle.lots.specs.Sums.{net, value, gross, open_from, money, weight}

-- a member's lots in a contract stay as they are
pub record Unmoved (member contract : ℕ) (before after : List Lot) : Type 0 where
  pub same_lots : filter (held_by member contract) after ≡ filter (held_by member contract) before
  pub same_net : net member contract after ≡ net member contract before
  pub same_value : value member contract after ≡ value member contract before
  pub same_gross : gross member contract after ≡ gross member contract before

-- a bought quantity raises the net by itself, and lowers the money by quantity × price
pub record Bought (l : Lot) (before after : List Lot) (result-before result-after : ℤ) : Type 0 where
  pub net_rises : net l.member l.contract after ≡ net l.member l.contract before +ℤ pos l.quantity
  pub money_falls : money l.member l.contract result-after after ≡ money l.member l.contract result-before before -ℤ pos (l.quantity * l.price)

-- a sold quantity lowers the net by itself, and raises the money by quantity × price
pub record Sold (l : Lot) (before after : List Lot) (result-before result-after : ℤ) : Type 0 where
  pub net_falls : net l.member l.contract after ≡ net l.member l.contract before -ℤ pos l.quantity
  pub money_rises : money l.member l.contract result-after after ≡ money l.member l.contract result-before before +ℤ pos (l.quantity * l.price)

-- of no trade but the arriving one more is open than before
abbrev pub NoneGrows : Lot → List Lot → List Lot → Type 0
NoneGrows l before after = (tape : ℕ) → (tape ≢ l.tape) → open_from l.member l.contract tape after ≤ open_from l.member l.contract tape before

-- where something from a trade was closed, nothing from an older trade is open, but for the arriving one
abbrev pub OldestFirst : Lot → List Lot → List Lot → Type 0
OldestFirst l before after = (older newer : ℕ) → older < newer → (older ≢ l.tape) → open_from l.member l.contract newer after < open_from l.member l.contract newer before → open_from l.member l.contract older after ≡ 0

-- the laws of an arrival: the lot, the lots before and after, and its member's result in its contract before and after
pub record Booked (l : Lot) (before after : List Lot) (result-before result-after : ℤ) : Type 0 where
  pub bought : l.side ≡ Buy → Bought l before after result-before result-after
  pub sold : l.side ≡ Sell → Sold l before after result-before result-after
  pub others : (member contract : ℕ) → held_by member contract l ≡ false → Unmoved member contract before after
  pub one_side : (member contract : ℕ) → gross member contract after ≡ unsigned_abs (net member contract after)
  pub none_grows : NoneGrows l before after
  pub oldest_first : OldestFirst l before after
  pub bound : weight l.member l.contract result-after after ≤ weight l.member l.contract result-before before + 4000000 * l.quantity
