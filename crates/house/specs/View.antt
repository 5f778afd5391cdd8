-- What a house means: its state, as the rules speak of it.
use Rattle.std.specs.Prelude.{◌≡◌, false, List, [], map}
use Rattle.line.specs.Tables.{Held, held}
use Rattle.market.specs.Phases.{is_open}
use Rattle.market.specs.declared.phase.Phase.{Phase}
use Rattle.market.specs.declared.opening.Opening.{Opening}
use Rattle.history.specs.State.{State, Price}
use Rattle.market.specs.declared.state.ContractState.{ContractState}
use Rattle.house.specs.declared.house.House.{House}
use Rattle.house.specs.declared.house.Standing.{Standing}

-- the price and the rate in a price record
abbrev pub price_in : Opening → Price
price_in o = record { price = o.price; rate = o.rate }

-- the state of a contract, and its price record
abbrev pub state_in : Standing → ContractState
state_in k = k.state

abbrev pub terms_in : Standing → Price
terms_in k = price_in k.opening

-- the state of a house
abbrev pub view : House → State
view h = record {
  phase = h.phase;
  members = h.books.members;
  first_year = h.first_year;
  years = h.books.years;
  next_number = h.next_number;
  states = map state_in h.contracts;
  prices = map terms_in h.contracts;
  orders = held h.orders.table;
  lots = held h.books.lots.line.table;
  tape = held h.tape;
  results = held h.books.results;
}

-- what a view shows of a table: its records, and nothing before the opening
pub record Shows {X : Type 0} (shown : List X) (table : Held X) (p : Phase) : Type 0 where
  pub shows : shown ≡ table.records
  pub unopened : is_open p ≡ false → shown ≡ []
