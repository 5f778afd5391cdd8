-- What cover a member would owe by its books, in kuruş. No call asks for it yet.
use Rattle.std.specs.Prelude.{ℕ, ◌+◌, ℤ, pos}
use Rattle.market.specs.Calendar.{gas_days, contracts_of}
use Rattle.market.specs.declared.calendar.Contract.{Contract}
use Rattle.market.specs.declared.state.ContractState.{ContractState}
use Rattle.market.specs.declared.state.ContractState.TheVariants.{Unlisted, Trading, Halted, Delivering, Ended}
use Rattle.margin.specs.Cover.{added, loss, positive_part, sum_over}
use Rattle.margin.specs.Units.{Units}
use Rattle.margin.specs.declared.position.Position.{Position}
use Rattle.history.specs.State.{State, Price}
use Rattle.history.specs.Standing.{state_of, price_of}
use Rattle.history.specs.Books.{position}

-- what a position adds in a contract of this state: a listed one its collateral, loss and adjustment, a delivering one its loss only, any other nothing
abbrev pub adds_by_state : ContractState → Units → Price → ℕ → Position → ℤ
adds_by_state Unlisted units price gas_days p = pos 0
adds_by_state Trading units price gas_days p = added units price.price price.rate gas_days p
adds_by_state Halted units price gas_days p = added units price.price price.rate gas_days p
adds_by_state Delivering units price gas_days p = pos (loss gas_days p)
adds_by_state Ended units price gas_days p = pos 0

-- what a contract adds to a member's requirement
unfoldable pub contract_adds : Units → State → ℕ → Contract → ℤ
contract_adds units s member c = adds_by_state (state_of s c) units (price_of s c) (gas_days s.first_year c) (position s member c)

-- what all contracts of the house add to it
unfoldable pub added_by_books : Units → State → ℕ → ℤ
added_by_books units s member = sum_over (contract_adds units s member) (contracts_of s.years)

-- what a member's requirement would be by its books: the fixed part, and what the contracts add, or nothing more where that is negative
unfoldable pub required_by_books : Units → State → ℕ → ℕ
required_by_books units s member = 15000000 + positive_part (added_by_books units s member)
