-- Listing, halting and resuming a contract.
use Rattle.std.specs.Prelude.{ℕ, Bool, not, ◌&&◌, List, [], ◌∷◌, ◌++◌}
use Rattle.market.specs.Calendar.{contract_of}
use Rattle.market.specs.Opening.{from_one_to}
use Rattle.market.specs.States.{state_takes}
use Rattle.market.specs.declared.phase.Event.{Event}
use Rattle.market.specs.declared.phase.Event.TheVariants as event
use Rattle.market.specs.declared.refusal.Refusal.{Refusal}
use Rattle.market.specs.declared.refusal.Refusal.TheVariants as no
use Rattle.market.specs.declared.state.ContractState.TheVariants.{Trading, Halted}
use Rattle.vault.specs.Checks.{first_that_holds}
use Rattle.history.specs.State.{State}
use Rattle.history.specs.Standing.{state_of, price_of, with_contract, with_state, no_such_contract, of_contract, by_contract, past_inside}
use Rattle.history.specs.Calls.{Outcome, unless_refused, not_taken}

-- the state of the contract of this number does not take the event
abbrev pub wrong_state : State → Event → ℕ → Bool
wrong_state s e number = of_contract (contract_of number s.years) (λ c. not (state_takes e (state_of s c)))

-- why a call that names a contract is refused before its own conditions
abbrev pub contract_refusals : State → Event → ℕ → List (Refusal × Bool)
contract_refusals s e number =
    (no.Phase, not_taken s e)
    ∷ (no.Contract, no_such_contract s number)
    ∷ (no.State, wrong_state s e number)
    ∷ []

-- a price out of the range of prices
abbrev pub wrong_price : ℕ → Bool
wrong_price price = not (from_one_to 4000000 price)

-- a base price or a rate out of its range
abbrev pub wrong_base : ℕ → ℕ → Bool
wrong_base price rate = not (from_one_to 4000000 price && from_one_to 2000 rate)

-- ---- listing

-- why listing a contract is refused
abbrev pub listing_refusals : State → ℕ → ℕ → ℕ → List (Refusal × Bool)
listing_refusals s number price rate =
    contract_refusals s event.List number
    ++ (no.BasePrice, wrong_base price rate)
    ∷ (no.PastInside, of_contract (contract_of number s.years) (past_inside s))
    ∷ []

-- an unlisted contract trades, with a base price and a rate
abbrev pub listed : State → ℕ → ℕ → ℕ → State
listed s number price rate = by_contract (contract_of number s.years) s (λ c. with_contract s c Trading (record { price = price; rate = rate }))

-- listing a contract
abbrev pub listing : State → ℕ → ℕ → ℕ → Outcome State
listing s number price rate = unless_refused (first_that_holds (listing_refusals s number price rate)) s (listed s number price rate)

-- ---- halting

-- a trading contract is halted
abbrev pub halted : State → ℕ → State
halted s number = by_contract (contract_of number s.years) s (λ c. with_state s c Halted)

-- halting a contract
abbrev pub halting : State → ℕ → Outcome State
halting s number = unless_refused (first_that_holds (contract_refusals s event.Halt number)) s (halted s number)

-- ---- resuming

-- why resuming a contract is refused
abbrev pub resuming_refusals : State → ℕ → ℕ → List (Refusal × Bool)
resuming_refusals s number price = contract_refusals s event.Resume number ++ (no.BasePrice, wrong_price price) ∷ []

-- a halted contract trades again, with a new base price and its old rate
abbrev pub resumed : State → ℕ → ℕ → State
resumed s number price = by_contract (contract_of number s.years) s (λ c. with_contract s c Trading (record { price = price; rate = (price_of s c).rate }))

-- resuming a contract
abbrev pub resuming : State → ℕ → ℕ → Outcome State
resuming s number price = unless_refused (first_that_holds (resuming_refusals s number price)) s (resumed s number price)
