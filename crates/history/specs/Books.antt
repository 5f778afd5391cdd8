-- The books of a house, and what each member holds by them.
use Rattle.std.specs.Prelude.{ℕ}
use Rattle.market.specs.Calendar.{contract_number}
use Rattle.market.specs.declared.calendar.Contract.{Contract}
use Rattle.margin.specs.declared.position.Position.{Position}
use Rattle.lots.specs.Sums.{net, value}
use Rattle.books.specs.Books.{Books, result_in}
use Rattle.history.specs.State.{State}

-- the books of a state: the lots in line, and the results
abbrev pub books_of : State → Books
books_of s = record { lots = s.lots.records; results = s.results.records }

-- a member's position in a contract; as long as there are no orders, none rest
unfoldable pub position : State → ℕ → Contract → Position
position s member c = record {
  net = net member (contract_number c) s.lots.records;
  buys = 0;
  sells = 0;
  result = result_in s.years (books_of s) member c;
  value = value member (contract_number c) s.lots.records;
}
