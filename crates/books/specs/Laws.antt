-- What booking trades does, in the words of the trade, and what it asks of the trades and of the tables.
use Rattle.std.specs.Prelude.{◌≡◌, ℕ, ◌+◌, ◌*◌, ◌<◌, ◌≤◌, true, List, length, ◌+ℤ◌}
use Rattle.std.specs.List.{AllByRecursion}
use Rattle.market.specs.Calendar.{contract_number, in_house}
use Rattle.market.specs.declared.calendar.Contract.{Contract}
use Rattle.market.specs.declared.records.Lot.{Lot}
use Rattle.market.specs.declared.records.Trade.{Trade}
use Rattle.books.specs.Books.{Books, net_in, money_in, weight_in, month_weight}
use Rattle.books.specs.Given.{net_given, money_given}

-- a trade that can be booked in a contract of a house of so many members and years: it is of that contract, its figures are in range, and two different members made it
pub record Bookable (members : ℕ) (c : Contract) (t : Trade) : Type 0 where
  pub contract : t.contract ≡ contract_number c
  pub buyer : t.buyer < members
  pub seller : t.seller < members
  pub apart : t.buyer ≡ t.seller → ⊥
  pub some : 1 ≤ t.quantity
  pub most : t.quantity ≤ 2500
  pub priced : 1 ≤ t.price
  pub dear : t.price ≤ 4000000

-- trades can be booked from a number on the tape on: the lots come from trades before it
abbrev pub Ready : ℕ → List Lot → Type 0
Ready number lots = AllByRecursion (λ l. l.tape < number) lots

-- no member's books in a contract weigh more than a bound
abbrev pub WeighAtMost : ℕ → ℕ → ℕ → Contract → Books → Type 0
WeighAtMost bound members years c b = (member : ℕ) → member < members → weight_in years b member c ≤ bound

-- no member's books in a contract weigh more than before and a bound
abbrev pub WeighMore : ℕ → ℕ → Contract → Books → Books → Type 0
WeighMore bound years c before after = (member : ℕ) → weight_in years after member c ≤ weight_in years before member c + bound

-- the laws of booking trades: every member's quantity and money in every contract of the house change by what the trades give, and no month's weight grows by more than the trades can bring
pub record TradesBooked (years : ℕ) (ts : List Trade) (before after : Books) : Type 0 where
  pub nets : (member : ℕ) (d : Contract) → in_house years d ≡ true → net_in after member d ≡ net_in before member d +ℤ net_given ts member d
  pub moneys : (member : ℕ) (d : Contract) → in_house years d ≡ true → money_in years after member d ≡ money_in years before member d +ℤ money_given ts member d
  pub weights : (member month : ℕ) → month < 12 * years → month_weight years after member month ≤ month_weight years before member month + 10000000000 * length ts
