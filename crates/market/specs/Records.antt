-- What stands at a free place of a lent table, and what is said of sides.
use Rattle.std.specs.Prelude.{ℕ, Bool, true, false}
use Rattle.market.specs.declared.records.Side.{Side}
use Rattle.market.specs.declared.records.Side.TheVariants.{Free, Buy, Sell}
use Rattle.market.specs.declared.records.Order.{Order}
use Rattle.market.specs.declared.records.Lot.{Lot}
use Rattle.market.specs.declared.records.Trade.{Trade}
use Rattle.market.specs.declared.records.MarginCall.{MarginCall}

-- the number that stands for a side in a script and in a print
abbrev pub side_number : Side → ℕ
side_number Free = 0
side_number Buy = 1
side_number Sell = 2

-- whether a side is bought or sold
abbrev pub is_sided : Side → Bool
is_sided Free = false
is_sided Buy = true
is_sided Sell = true

-- a free place of a table of orders
abbrev pub no_order : Order
no_order = record { number = 0; member = 0; contract = 0; side = Free; quantity = 0; price = 0 }

-- a free place of a table of lots
abbrev pub no_lot : Lot
no_lot = record { contract = 0; member = 0; tape = 0; side = Free; quantity = 0; price = 0 }

-- a free place of a table of trades
abbrev pub no_trade : Trade
no_trade = record { contract = 0; buyer = 0; seller = 0; quantity = 0; price = 0 }

-- a free place of a list of margin calls
abbrev pub no_call : MarginCall
no_call = record { member = 0; shortfall = 0 }
