-- What a member holds in a contract: sums over its lots.
-- net: bought less sold quantity. value: sold less bought quantity × price, in kuruş a gas day. gross: the quantity of all its lots.
use Rattle.std.specs.Prelude.{ℕ, ◌+◌, ◌*◌, Bool, true, false, cond, ◌&&◌, List, [], ◌∷◌, ℤ, pos, ◌+ℤ◌, neg_ℤ, ◌==◌, unsigned_abs}
use Rattle.market.specs.declared.records.Side.{Side}
use Rattle.market.specs.declared.records.Side.TheVariants.{Free, Buy, Sell}
use Rattle.market.specs.declared.records.Lot.{Lot}
use Rattle.lots.specs.Lots.{held_by}

-- bought counts up, sold counts down
abbrev pub signed : Side → ℕ → ℤ
signed Free n = pos 0
signed Buy n = pos n
signed Sell n = neg_ℤ (pos n)

-- a figure where it counts, and else 0
abbrev pub counted : Bool → ℤ → ℤ
counted true figure = figure
counted false figure = pos 0

-- the sum of a figure over the lots of a member in a contract
abbrev pub sum_of : (Lot → ℤ) → ℕ → ℕ → List Lot → ℤ
sum_of figure member contract [] = pos 0
sum_of figure member contract (l ∷ ls) = counted (held_by member contract l) (figure l) +ℤ sum_of figure member contract ls

-- what a lot adds to the net quantity
abbrev pub lot_net : Lot → ℤ
lot_net l = signed l.side l.quantity

-- what a lot adds to the value
abbrev pub lot_value : Lot → ℤ
lot_value l = neg_ℤ (signed l.side (l.quantity * l.price))

-- the bought less the sold quantity of a member in a contract
abbrev pub net : ℕ → ℕ → List Lot → ℤ
net member contract ls = sum_of lot_net member contract ls

-- the sold less the bought quantity × price of a member in a contract
abbrev pub value : ℕ → ℕ → List Lot → ℤ
value member contract ls = sum_of lot_value member contract ls

-- the quantity of the lots that pass a test
abbrev pub quantity_of : (Lot → Bool) → List Lot → ℕ
quantity_of test [] = 0
quantity_of test (l ∷ ls) = cond (test l) l.quantity 0 + quantity_of test ls

-- the quantity of all lots of a member in a contract
abbrev pub gross : ℕ → ℕ → List Lot → ℕ
gross member contract ls = quantity_of (held_by member contract) ls

-- whether a lot is one of a member in a contract, and comes from a trade
abbrev pub comes_from : ℕ → ℕ → ℕ → Lot → Bool
comes_from member contract tape l = held_by member contract l && l.tape == tape

-- the quantity that a member has open in a contract from a trade
abbrev pub open_from : ℕ → ℕ → ℕ → List Lot → ℕ
open_from member contract tape ls = quantity_of (comes_from member contract tape) ls

-- a result with the value of the lots beside it, in kuruş a gas day
abbrev pub money : ℕ → ℕ → ℤ → List Lot → ℤ
money member contract result ls = result +ℤ value member contract ls

-- how far a result can still go: itself, and the lots at the highest price
abbrev pub weight : ℕ → ℕ → ℤ → List Lot → ℕ
weight member contract result ls = unsigned_abs result + 4000000 * gross member contract ls
