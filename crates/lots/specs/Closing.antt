-- What an arriving lot makes of the lots in line.
-- An arriving lot is a bought or sold quantity with its tape number and price: it closes opposite lots of its member in its contract, from the front of the line, and what is left of it becomes a lot.
-- What is earned is in kuruş a gas day.
use Rattle.std.specs.Prelude.{ℕ, ◌-◌, min, cond, List, [], ◌∷◌, ℤ, pos, ◌+ℤ◌, ◌-ℤ◌, ◌*ℤ◌, ◌==◌}
use Rattle.line.specs.Lines.{entered}
use Rattle.market.specs.declared.records.Side.{Side}
use Rattle.market.specs.declared.records.Side.TheVariants.{Free, Buy, Sell}
use Rattle.market.specs.declared.records.Lot.{Lot}
use Rattle.market.specs.Places.{lot_place}
use Rattle.lots.specs.Lots.{opposes}

-- a lot with another quantity
abbrev pub with_quantity : Lot → ℕ → Lot
with_quantity l quantity = record { contract = l.contract; member = l.member; tape = l.tape; side = l.side; quantity = quantity; price = l.price }

-- how much of a lot is closed by an arriving lot of which a quantity is left
abbrev pub closes : Lot → ℕ → Lot → ℕ
closes arriving left l = cond (opposes arriving l) (min left l.quantity) 0

-- a quantity × (sold price less bought price)
abbrev pub difference : ℕ → ℕ → ℕ → ℤ
difference quantity sold bought = pos quantity *ℤ (pos sold -ℤ pos bought)

-- what closing a quantity earns: the side and the first price are those of the arriving lot, the second price is that of the lot closed
abbrev pub earns : Side → ℕ → ℕ → ℕ → ℤ
earns Free quantity price closed = pos 0
earns Buy quantity price closed = difference quantity closed price
earns Sell quantity price closed = difference quantity price closed

-- what closing leads to: the lots that stay, what is left of the arriving quantity, and what was earned
pub record Closed : Type 0 where
  pub lots : List Lot
  pub left : ℕ
  pub earned : ℤ

-- a lot of which a quantity is left, in front of others; it is taken out where nothing is left
abbrev pub staying : Lot → ℕ → List Lot → List Lot
staying l quantity ls = cond (quantity == 0) ls (with_quantity l quantity ∷ ls)

-- a quantity of the first lot closed, and what closing led to behind it
abbrev pub closed_first : Lot → Lot → ℕ → Closed → Closed
closed_first arriving l quantity behind =
    record {
      lots = staying l (l.quantity - quantity) behind.lots;
      left = behind.left;
      earned = earns arriving.side quantity arriving.price l.price +ℤ behind.earned;
    }

-- an arriving lot of which a quantity is left closes opposite lots, from the front
abbrev pub closing : Lot → ℕ → List Lot → Closed
closing arriving left [] = record { lots = []; left = left; earned = pos 0 }
closing arriving left (l ∷ ls) = closed_first arriving l (closes arriving left l) (closing arriving (left - closes arriving left l) ls)

-- the same with an amount earned before
abbrev pub with_earned : ℤ → Closed → Closed
with_earned amount c = record { lots = c.lots; left = c.left; earned = amount +ℤ c.earned }

-- the line with a lot put where it belongs, if it has a quantity
abbrev pub rested : Lot → List Lot → List Lot
rested l ls = cond (l.quantity == 0) ls (entered lot_place l ls)

-- the lots after an arrival
unfoldable pub arrived : Lot → List Lot → List Lot
arrived arriving ls = rested (with_quantity arriving (closing arriving arriving.quantity ls).left) (closing arriving arriving.quantity ls).lots

-- what an arrival earns
unfoldable pub earnings : Lot → List Lot → ℤ
earnings arriving ls = (closing arriving arriving.quantity ls).earned
