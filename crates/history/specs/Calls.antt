-- What each call does: when it is refused, and otherwise what it leaves.
-- Checks run by rising number, that of the phase first of all; a refused call leaves everything as it was.
use Rattle.std.specs.Prelude.{◌≡◌, ℕ, ◌*◌, Bool, cond, not, ◌||◌, List, [], ◌∷◌, ℤ, pos, is_some, is_ok, Some, None, Ok, Err, Option, Result, nat_le, nat_lt}
use Rattle.std.specs.Option.{unwrap_or}
use Rattle.line.specs.Tables.{places, all_blank}
use Rattle.market.specs.Phases.{next_phase}
use Rattle.market.specs.Records.{no_order, no_lot, no_trade}
use Rattle.market.specs.declared.calendar.Contract.{Contract}
use Rattle.market.specs.declared.phase.Event.{Event}
use Rattle.market.specs.declared.phase.Event.TheVariants as event
use Rattle.market.specs.declared.phase.Phase.{Phase}
use Rattle.market.specs.declared.phase.Phase.TheVariants.{Unopened, Evening}
use Rattle.market.specs.declared.records.Order.{Order}
use Rattle.market.specs.declared.records.Lot.{Lot}
use Rattle.market.specs.declared.records.Trade.{Trade}
use Rattle.market.specs.declared.refusal.Refusal.{Refusal}
use Rattle.market.specs.declared.refusal.Refusal.TheVariants as no
use Rattle.vault.specs.Checks.{first_that_holds}
use Rattle.vault.specs.Cash.{Moved, balance, credited, debited}
use Rattle.margin.specs.Units.{Units}
use Rattle.history.specs.State.{State, Now, beside}
use Rattle.history.specs.Standing.{all_unlisted, no_prices}
use Rattle.history.specs.Cover.{requirement, leaves_too_little}

-- a call's answer, and what it leaves
pub record Outcome (X : Type 0) : Type 0 where
  pub answer : Result (Unit {0}) Refusal
  pub left : X

-- an answer, with what is left
abbrev pub outcome : {X : Type 0} → Result (Unit {0}) Refusal → X → Outcome X
outcome r x = record { answer = r; left = x }

-- a refusal leaves what was before, an acceptance what comes after
abbrev pub unless_refused : {X : Type 0} → Option Refusal → X → X → Outcome X
unless_refused (Some e) before after = outcome (Err e) before
unless_refused None before after = outcome (Ok tt) after

-- the same of a question, which leaves nothing changed and answers a figure
abbrev pub answer_unless : {X : Type 0} → Option Refusal → X → Result X Refusal
answer_unless (Some e) figure = Err e
answer_unless None figure = Ok figure

-- a check answers the first reason that holds, or, where none does, something of which a fact holds
abbrev pub Admits : {X : Type 0} → Result X Refusal → Option Refusal → (X → Type 0) → Type 0
Admits (Ok x) why P = (why ≡ None) × P x
Admits (Err e) why P = why ≡ Some e

-- the refusal in an answer, if it is one
abbrev pub refusal : {X : Type 0} → Result X Refusal → Option Refusal
refusal (Ok x) = None
refusal (Err e) = Some e

-- the phase does not take the event
abbrev pub not_taken : State → Event → Bool
not_taken s e = not (is_some (next_phase s.phase e))

-- the phase that an event leads to, the present one where it is not taken
abbrev pub phase_after : State → Event → Phase
phase_after s e = unwrap_or (next_phase s.phase e) s.phase

-- the phase that an event leads to, or the refusal
abbrev pub led_or_refused : Option Phase → Result Phase Refusal
led_or_refused (Some p) = Ok p
led_or_refused None = Err no.Phase

-- the contract of a number, or the refusal
abbrev pub found_or_refused : Option Contract → Result Contract Refusal
found_or_refused (Some c) = Ok c
found_or_refused None = Err no.Contract

-- there is no member of this number
abbrev pub no_such_member : State → ℕ → Bool
no_such_member s m = nat_le s.members m

-- refuses a number that is no member's
abbrev pub known_or_refused : State → ℕ → Result (Unit {0}) Refusal
known_or_refused s m = cond (no_such_member s m) (Err no.Member) (Ok tt)

-- ---- opening

-- a number lies outside a range
abbrev pub outside : ℕ → ℕ → ℕ → Bool
outside low high n = nat_lt n low || nat_lt high n

-- how many figures the results hold: for each member one for each month, quarter and year
abbrev pub figures : ℕ → ℕ → ℕ
figures members years = members * (17 * years)

-- a lent table is too short or too long
abbrev pub wrong_lengths : State → ℕ → ℕ → Bool
wrong_lengths s members years =
    outside 1 256 (places s.orders)
    || (outside 1 8192 (places s.lots) || (outside 1 4096 (places s.tape) || nat_lt (places s.results) (figures members years)))

-- why an opening is refused
abbrev pub opening_refusals : State → ℕ → ℕ → ℕ → List (Refusal × Bool)
opening_refusals s members first_year years =
    (no.Phase, not_taken s event.Open)
    ∷ (no.MemberCount, outside 1 64 members)
    ∷ (no.Calendar, outside 2020 2090 first_year || outside 1 4 years)
    ∷ (no.TableLength, wrong_lengths s members years)
    ∷ []

-- a house that is not open yet: its tables as they were lent, with no record in them
abbrev pub unopened : List Order → List Lot → List Trade → List ℤ → State
unopened orders lots tape results = record {
  phase = Unopened;
  members = 0;
  first_year = 0;
  years = 0;
  next_number = 1;
  states = all_unlisted;
  prices = no_prices;
  orders = record { records = []; behind = orders };
  lots = record { records = []; behind = lots };
  tape = record { records = []; behind = tape };
  results = record { records = []; behind = results };
}

-- a house just opened over the same tables: it is evening, and every place is blank
abbrev pub newly_opened : State → ℕ → ℕ → ℕ → State
newly_opened s members first_year years = record {
  phase = Evening;
  members = members;
  first_year = first_year;
  years = years;
  next_number = 1;
  states = all_unlisted;
  prices = no_prices;
  orders = all_blank no_order 0 (places s.orders);
  lots = all_blank no_lot 0 (places s.lots);
  tape = all_blank no_trade 0 (places s.tape);
  results = all_blank (pos 0) (figures members years) (places s.results);
}

-- opening a house
abbrev pub opening : State → ℕ → ℕ → ℕ → Outcome State
opening s members first_year years =
    unless_refused (first_that_holds (opening_refusals s members first_year years)) s (newly_opened s members first_year years)

-- ---- step

-- a house in another phase
abbrev pub with_phase : State → Phase → State
with_phase s p = record {
  phase = p;
  members = s.members;
  first_year = s.first_year;
  years = s.years;
  next_number = s.next_number;
  states = s.states;
  prices = s.prices;
  orders = s.orders;
  lots = s.lots;
  tape = s.tape;
  results = s.results;
}

-- why a step is refused
abbrev pub step_refusals : State → List (Refusal × Bool)
step_refusals s = (no.Phase, not_taken s event.Step) ∷ []

-- the day steps on
abbrev pub stepping : State → Outcome State
stepping s = unless_refused (first_that_holds (step_refusals s)) s (with_phase s (phase_after s event.Step))

-- ---- deposit and withdraw

-- the vault refuses a movement
abbrev pub vault_refuses : Moved → Bool
vault_refuses m = not (is_ok m.answer)

-- why a deposit is refused
abbrev pub deposit_refusals : Now → ℕ → ℕ → List (Refusal × Bool)
deposit_refusals n member amount =
    (no.Phase, not_taken n.state event.Deposit)
    ∷ (no.Member, no_such_member n.state member)
    ∷ (no.Vault, vault_refuses (credited n.cash member amount))
    ∷ []

-- a deposit credits the member's account
abbrev pub depositing : Now → ℕ → ℕ → Outcome Now
depositing n member amount =
    unless_refused (first_that_holds (deposit_refusals n member amount)) n (beside n.state (credited n.cash member amount).cash)

-- why a withdrawal is refused
abbrev pub withdrawal_refusals : Units → Now → ℕ → ℕ → List (Refusal × Bool)
withdrawal_refusals units n member amount =
    (no.Phase, not_taken n.state event.Withdraw)
    ∷ (no.Member, no_such_member n.state member)
    ∷ (no.Cover, leaves_too_little (balance n.cash member) amount (requirement units n.state member))
    ∷ (no.Vault, vault_refuses (debited n.cash member amount))
    ∷ []

-- a withdrawal debits the member's account
abbrev pub withdrawing : Units → Now → ℕ → ℕ → Outcome Now
withdrawing units n member amount =
    unless_refused (first_that_holds (withdrawal_refusals units n member amount)) n (beside n.state (debited n.cash member amount).cash)

-- ---- the question of a member's requirement

-- why the question is refused
abbrev pub requirement_refusals : State → ℕ → List (Refusal × Bool)
requirement_refusals s member = (no.Phase, not_taken s event.Question) ∷ (no.Member, no_such_member s member) ∷ []

-- the answer
abbrev pub asked_requirement : Units → State → ℕ → Result ℕ Refusal
asked_requirement units s member = answer_unless (first_that_holds (requirement_refusals s member)) (requirement units s member)
