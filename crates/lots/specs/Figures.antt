-- Worked figures: bought 10 at 1,000,000, then 5 at 1,020,000, then sold 12 at 1,010,000, by one member in one contract.
use Rattle.std.specs.Prelude.{◌≡◌, ℕ, List, [], ◌∷◌, pos, neg_ℤ}
use Rattle.market.specs.declared.records.Side.{Side}
use Rattle.market.specs.declared.records.Side.TheVariants.{Buy, Sell}
use Rattle.market.specs.declared.records.Lot.{Lot}
use Rattle.lots.specs.Closing.{arrived, earnings}
use Rattle.lots.specs.Sums.{net, value}

-- a lot of member 0 in contract 0
abbrev pub a_lot : ℕ → Side → ℕ → ℕ → Lot
a_lot tape side quantity price = record { contract = 0; member = 0; tape = tape; side = side; quantity = quantity; price = price }

-- the lots after the two buys
abbrev pub after_buys : List Lot
after_buys = arrived (a_lot 2 Buy 5 1020000) (arrived (a_lot 1 Buy 10 1000000) [])

-- the lots after the sale too
abbrev pub after_sale : List Lot
after_sale = arrived (a_lot 3 Sell 12 1010000) after_buys

-- what the sale earns, what stays open, and its net quantity and value
pub record Worked : Type 0 where
  pub first_earns : earnings (a_lot 1 Buy 10 1000000) [] ≡ pos 0
  pub second_earns : earnings (a_lot 2 Buy 5 1020000) (arrived (a_lot 1 Buy 10 1000000) []) ≡ pos 0
  pub two_lots : after_buys ≡ a_lot 1 Buy 10 1000000 ∷ a_lot 2 Buy 5 1020000 ∷ []
  pub sale_earns : earnings (a_lot 3 Sell 12 1010000) after_buys ≡ pos 80000
  pub lot_left : after_sale ≡ a_lot 2 Buy 3 1020000 ∷ []
  pub net_left : net 0 0 after_sale ≡ pos 3
  pub value_left : value 0 0 after_sale ≡ neg_ℤ (pos 3060000)
