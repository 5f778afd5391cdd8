-- The cover that a member's position in a contract asks: collateral, loss and adjustment.
-- Quantities are in thousand Sm³ a gas day, prices and units in kuruş per thousand Sm³, results and values in kuruş per gas day, cover in kuruş.
-- net: bought less sold lots. value: sold less bought quantity × price of the lots. opening: the contract's opening price.
use Rattle.std.specs.Prelude.{◌≡◌, ℕ, ◌+◌, ◌*◌, max, List, [], ◌∷◌, ℤ, pos, negsuc, ◌+ℤ◌, ◌-ℤ◌, ◌*ℤ◌, neg_ℤ, unsigned_abs}
use Rattle.market.specs.declared.records.Lot.{Lot}
use Rattle.market.specs.declared.records.Side.{Side}
use Rattle.market.specs.declared.records.Side.TheVariants.{Free, Buy, Sell}
use Rattle.margin.specs.declared.position.Position.{Position}
use Rattle.margin.specs.Units.{Units, gas_units}

-- a number itself, or 0 where it is negative
abbrev pub positive_part : ℤ → ℕ
positive_part (pos n) = n
positive_part (negsuc n) = 0

-- what a member is long once all its resting buys have traded
abbrev pub long_side : Position → ℕ
long_side position = positive_part (position.net +ℤ pos position.buys)

-- what it is short once all its resting sells have traded
abbrev pub short_side : Position → ℕ
short_side position = positive_part (pos position.sells -ℤ position.net)

-- the collateral: the larger of long side × long unit and short side × short unit, for each gas day
unfoldable pub collateral : Units → ℕ → ℕ → ℕ → Position → ℕ
collateral units opening rate gas_days position =
    gas_days * max (long_side position * units.long opening rate) (short_side position * units.short opening rate)

-- the loss: what the result is below 0, for each gas day
unfoldable pub loss : ℕ → Position → ℕ
loss gas_days position = gas_days * positive_part (neg_ℤ position.result)

-- the adjustment: less the value and less the net at the opening price, for each gas day
unfoldable pub adjustment : ℕ → ℕ → Position → ℤ
adjustment opening gas_days position = pos gas_days *ℤ (neg_ℤ position.value -ℤ pos opening *ℤ position.net)

-- what a position in a listed contract adds to the requirement
unfoldable pub added : Units → ℕ → ℕ → ℕ → Position → ℤ
added units opening rate gas_days position =
    pos (collateral units opening rate gas_days position + loss gas_days position) +ℤ adjustment opening gas_days position

-- what a position adds for each gas day is at most this, either way, at prices of at most 4,000,000 and units of at most 8,000,000
abbrev pub weight : Position → ℕ
weight position =
    8000000 * (unsigned_abs position.net + max position.buys position.sells) + unsigned_abs position.result
    + (unsigned_abs position.value + 4000000 * unsigned_abs position.net)

-- the sum over a list of what each of it counts
abbrev pub sum_over : {X : Type 0} → (X → ℤ) → List X → ℤ
sum_over count [] = pos 0
sum_over count (x ∷ xs) = count x +ℤ sum_over count xs

-- a number counted up where it is bought and down where it is sold
abbrev pub bought_less_sold : Side → ℕ → ℤ
bought_less_sold Free n = pos 0
bought_less_sold Buy n = pos n
bought_less_sold Sell n = neg_ℤ (pos n)

-- the net of some lots
abbrev pub lots_net : List Lot → ℤ
lots_net lots = sum_over (λ lot. bought_less_sold lot.side lot.quantity) lots

-- the value of some lots
abbrev pub lots_value : List Lot → ℤ
lots_value lots = sum_over (λ lot. neg_ℤ (bought_less_sold lot.side (lot.quantity * lot.price))) lots

-- what a lot was bought above the opening price or sold below it, for each thousand Sm³
abbrev pub worse_by : ℕ → Side → ℕ → ℤ
worse_by opening Free price = pos 0
worse_by opening Buy price = pos price -ℤ pos opening
worse_by opening Sell price = pos opening -ℤ pos price

-- what some lots were bought above the opening price or sold below it, in all
abbrev pub lots_adjustment : ℕ → List Lot → ℤ
lots_adjustment opening lots = sum_over (λ lot. pos lot.quantity *ℤ worse_by opening lot.side lot.price) lots

-- a position's net and value are those of these lots
pub record LotsOf (position : Position) (lots : List Lot) : Type 0 where
  pub net : position.net ≡ lots_net lots
  pub value : position.value ≡ lots_value lots

-- three bought lots at 1,020,000, after closings that earned 80,000
abbrev pub three_lots : Position
three_lots = record { net = pos 3; buys = 0; sells = 0; result = pos 80000; value = neg_ℤ (pos 3060000) }

-- the figures of that position in a month of 31 gas days, at the opening price 1,000,000 and the rate 500, under the gas rule
pub record CoverFigures : Type 0 where
  pub collateral_asked : collateral gas_units 1000000 500 31 three_lots ≡ 9532500
  pub loss_asked : loss 31 three_lots ≡ 0
  pub adjustment_asked : adjustment 1000000 31 three_lots ≡ pos 1860000
  pub added_in_all : added gas_units 1000000 500 31 three_lots ≡ pos 11392500
