-- The contracts of a house: their states and price records, and what lies inside a contract.
use Rattle.std.specs.Prelude.{ℕ, Bool, false, not, ◌||◌, List, [], ◌∷◌, ◌++◌, map, replicate, is_some, Some, None, Option, slice_index_or, slice_set}
use Rattle.market.specs.Calendar.{contract_of, slot, parts, months_of}
use Rattle.market.specs.States.{is_past}
use Rattle.market.specs.declared.calendar.Contract.{Contract}
use Rattle.market.specs.declared.calendar.Contract.TheVariants.{Month, Quarter, Year}
use Rattle.market.specs.declared.state.ContractState.{ContractState}
use Rattle.market.specs.declared.state.ContractState.TheVariants.{Unlisted}
use Rattle.history.specs.State.{State, Price}

-- what stands for the price record of a contract that was never listed
abbrev pub no_price : Price
no_price = record { price = 1; rate = 1 }

-- the states of a house whose contracts are all unlisted
abbrev pub all_unlisted : List ContractState
all_unlisted = replicate 68 Unlisted

-- its price records
abbrev pub no_prices : List Price
no_prices = replicate 68 no_price

-- the state of a contract
abbrev pub state_of : State → Contract → ContractState
state_of s c = slice_index_or s.states (slot s.years c) Unlisted

-- its price record
abbrev pub price_of : State → Contract → Price
price_of s c = slice_index_or s.prices (slot s.years c) no_price

-- a house in which a contract has another state and price record
abbrev pub with_contract : State → Contract → ContractState → Price → State
with_contract s c state price = record {
  phase = s.phase;
  members = s.members;
  first_year = s.first_year;
  years = s.years;
  next_number = s.next_number;
  states = slice_set s.states (slot s.years c) state;
  prices = slice_set s.prices (slot s.years c) price;
  orders = s.orders;
  lots = s.lots;
  tape = s.tape;
  results = s.results;
}

-- a house in which a contract has another state
abbrev pub with_state : State → Contract → ContractState → State
with_state s c state = record {
  phase = s.phase;
  members = s.members;
  first_year = s.first_year;
  years = s.years;
  next_number = s.next_number;
  states = slice_set s.states (slot s.years c) state;
  prices = s.prices;
  orders = s.orders;
  lots = s.lots;
  tape = s.tape;
  results = s.results;
}

-- no contract of the house has this number
abbrev pub no_such_contract : State → ℕ → Bool
no_such_contract s number = not (is_some (contract_of number s.years))

-- a condition of a contract, where there is one
abbrev pub of_contract : Option Contract → (Contract → Bool) → Bool
of_contract None test = false
of_contract (Some c) test = test c

-- a change of a house by a contract, where there is one
abbrev pub by_contract : Option Contract → State → (Contract → State) → State
by_contract None s change = s
by_contract (Some c) s change = change c

-- the quarters and months inside a contract, itself left out
abbrev pub inside : Contract → List Contract
inside (Month m) = []
inside (Quarter q) = parts (Quarter q)
inside (Year n) = parts (Year n) ++ map Month (months_of (Year n))

-- whether one of some contracts has a state that passes a test
abbrev pub any_state : State → (ContractState → Bool) → List Contract → Bool
any_state s test [] = false
any_state s test (c ∷ cs) = test (state_of s c) || any_state s test cs

-- a month or a quarter inside the contract is delivering or ended
abbrev pub past_inside : State → Contract → Bool
past_inside s c = any_state s is_past (inside c)
