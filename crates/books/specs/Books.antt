-- The books of a house: the lots that its members hold open, and what their closings earned.
-- result: what a member's closings in a contract earned. money: a result with the value of the lots beside it. weight: how far a result can still go, itself and the lots at the highest price.
-- Results, moneys and weights are in kuruş a gas day, quantities in thousand Sm³ a gas day.
use Rattle.std.specs.Prelude.{ℕ, suc, ◌+◌, ◌*◌, List, [], ◌∷◌, ℤ, pos, ◌+ℤ◌, slice_index_or, slice_set}
use Rattle.line.specs.Tables.{records}
use Rattle.line.specs.declared.table.Table.{Table}
use Rattle.market.specs.Calendar.{slot, contract_number, quarter_of, year_of}
use Rattle.market.specs.declared.calendar.Contract.{Contract}
use Rattle.market.specs.declared.calendar.Contract.TheVariants.{Month}
use Rattle.market.specs.declared.records.Side.TheVariants.{Buy, Sell}
use Rattle.market.specs.declared.records.Lot.{Lot}
use Rattle.market.specs.declared.records.Trade.{Trade}
use Rattle.lots.specs.Closing.{arrived, earnings}
use Rattle.lots.specs.Sums.{net, money, weight}

-- the lots in line, and the results
pub record Books : Type 0 where
  pub lots : List Lot
  pub results : List ℤ

-- the books that two tables hold
abbrev pub books_in : Table Lot → Table ℤ → Books
books_in lots results = record { lots = records lots; results = records results }

-- where a member's result in a contract stands among the results of a house of this many years: member by member, each by slot
abbrev pub result_index : ℕ → ℕ → Contract → ℕ
result_index years member c = member * (17 * years) + slot years c

-- a member's result in a contract
abbrev pub result_in : ℕ → Books → ℕ → Contract → ℤ
result_in years b member c = slice_index_or b.results (result_index years member c) (pos 0)

-- a member's bought less sold quantity in a contract
unfoldable pub net_in : Books → ℕ → Contract → ℤ
net_in b member c = net member (contract_number c) b.lots

-- a member's money in a contract: its result, and the sold less bought quantity × price of its lots
unfoldable pub money_in : ℕ → Books → ℕ → Contract → ℤ
money_in years b member c = money member (contract_number c) (result_in years b member c) b.lots

-- the weight of a member's books in a contract
unfoldable pub weight_in : ℕ → Books → ℕ → Contract → ℕ
weight_in years b member c = weight member (contract_number c) (result_in years b member c) b.lots

-- a figure of the contracts that cover a month, added up: the month itself, its quarter and its year
abbrev pub over_month : (Contract → ℤ) → ℕ → ℤ
over_month figure m = figure (Month m) +ℤ (figure (quarter_of m) +ℤ figure (year_of m))

-- a member's net quantity and money in the contracts that cover a month, and their weight
abbrev pub month_net : Books → ℕ → ℕ → ℤ
month_net b member m = over_month (net_in b member) m

abbrev pub month_money : ℕ → Books → ℕ → ℕ → ℤ
month_money years b member m = over_month (money_in years b member) m

abbrev pub month_weight : ℕ → Books → ℕ → ℕ → ℕ
month_weight years b member m = weight_in years b member (Month m) + (weight_in years b member (quarter_of m) + weight_in years b member (year_of m))

-- a lot arrives in a contract: it closes opposite lots of its member there, what is left of it becomes a lot, and what it earned is added to the member's result
unfoldable pub arrival : ℕ → Contract → Lot → Books → Books
arrival years c l b = record {
  lots = arrived l b.lots;
  results = slice_set b.results (result_index years l.member c) (result_in years b l.member c +ℤ earnings l b.lots);
}

-- what a trade with its number on the tape brings its buyer, and its seller
abbrev pub bought_lot : ℕ → Trade → Lot
bought_lot number t = record { contract = t.contract; member = t.buyer; tape = number; side = Buy; quantity = t.quantity; price = t.price }

abbrev pub sold_lot : ℕ → Trade → Lot
sold_lot number t = record { contract = t.contract; member = t.seller; tape = number; side = Sell; quantity = t.quantity; price = t.price }

-- a trade in a contract is booked: the buyer's quantity arrives, and then the seller's
abbrev pub booked : ℕ → Contract → ℕ → Trade → Books → Books
booked years c number t b = arrival years c (sold_lot number t) (arrival years c (bought_lot number t) b)

-- trades in a contract are booked one after the other, with numbers on the tape from the first on
unfoldable pub booked_from : ℕ → Contract → ℕ → List Trade → Books → Books
booked_from years c number [] b = b
booked_from years c number (t ∷ ts) b = booked_from years c (suc number) ts (booked years c number t b)
