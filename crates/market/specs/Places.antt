-- Where the records of the lent tables stand in line.
-- Orders stand by contract, buys before sells, best price, order number; lots by contract, member, tape number; margin calls by largest shortfall, then member.
use Rattle.std.specs.Prelude.{ℕ, List, [], ◌∷◌}
use Rattle.line.specs.Places.{Rank, rising, falling}
use Rattle.market.specs.declared.records.Side.{Side}
use Rattle.market.specs.declared.records.Side.TheVariants.{Free, Buy, Sell}
use Rattle.market.specs.declared.records.Order.{Order}
use Rattle.market.specs.declared.records.Lot.{Lot}
use Rattle.market.specs.declared.records.MarginCall.{MarginCall}

-- buys come before sells
abbrev pub side_rank : Side → Rank
side_rank Free = rising 2
side_rank Buy = rising 0
side_rank Sell = rising 1

-- the best price comes first: of buys the highest, of sells the lowest
abbrev pub price_rank : Side → ℕ → Rank
price_rank Free price = rising price
price_rank Buy price = falling price
price_rank Sell price = rising price

-- the place of an order
abbrev pub order_place : Order → List Rank
order_place o = rising o.contract ∷ side_rank o.side ∷ price_rank o.side o.price ∷ rising o.number ∷ []

-- the place of a lot
abbrev pub lot_place : Lot → List Rank
lot_place l = rising l.contract ∷ rising l.member ∷ rising l.tape ∷ []

-- the place of a margin call
abbrev pub call_place : MarginCall → List Rank
call_place c = falling c.shortfall ∷ rising c.member ∷ []
