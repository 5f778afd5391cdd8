-- Histories: the calls made of one house and one vault since the opening, refused ones among them.
use Rattle.std.specs.Prelude.{◌≡◌, ℕ, ◌+◌, cond, List, [], ◌∷◌, pos, is_ok, ◌==◌}
use Rattle.line.specs.Tables.{places, all_blank}
use Rattle.market.specs.Records.{no_order, no_lot, no_trade}
use Rattle.market.specs.declared.phase.Phase.TheVariants.{Evening}
use Rattle.vault.specs.Cash.{Cash, Whole}
use Rattle.margin.specs.Units.{Units}
use Rattle.history.specs.State.{State, Now, beside}
use Rattle.history.specs.Standing.{all_unlisted}
use Rattle.history.specs.Calls.{Outcome, outcome, figures, stepping, depositing, withdrawing}
use Rattle.history.specs.Listing.{listing, halting, resuming}

-- the kinds of call that change something, with their arguments; a call that needs cover names its margin rule by its units
pub data Call : Type 0 where
  step : Call
  deposit : (member amount : ℕ) → Call
  withdraw : Units → (member amount : ℕ) → Call
  list : (contract price rate : ℕ) → Call
  halt : (contract : ℕ) → Call
  resume : (contract price : ℕ) → Call

-- a state's outcome beside a cash that it does not touch
abbrev pub cash_untouched : Cash → Outcome State → Outcome Now
cash_untouched c o = outcome o.answer (beside o.left c)

-- what a call answers and leaves
abbrev pub act : Now → Call → Outcome Now
act n step = cash_untouched n.cash (stepping n.state)
act n (deposit member amount) = depositing n member amount
act n (withdraw units member amount) = withdrawing units n member amount
act n (list contract price rate) = cash_untouched n.cash (listing n.state contract price rate)
act n (halt contract) = cash_untouched n.cash (halting n.state contract)
act n (resume contract price) = cash_untouched n.cash (resuming n.state contract price)

infixl 20 ◌then◌
-- no call yet, or the calls so far and then one more
pub data History : Type 0 where
  opened : History
  ◌then◌ : History → Call → History

-- where a history leads from a start, each call made upon what those before it left
abbrev pub led_to : Now → History → Now
led_to start opened = start
led_to start (calls then call) = (act (led_to start calls) call).left

-- a house as an accepted opening leaves it, beside a whole cash
pub record Fresh (n : Now) : Type 0 where
  pub evening : n.state.phase ≡ Evening
  pub first : n.state.next_number ≡ 1
  pub states : n.state.states ≡ all_unlisted
  pub orders : n.state.orders ≡ all_blank no_order 0 (places n.state.orders)
  pub lots : n.state.lots ≡ all_blank no_lot 0 (places n.state.lots)
  pub tape : n.state.tape ≡ all_blank no_trade 0 (places n.state.tape)
  pub results : n.state.results ≡ all_blank (pos 0) (figures n.state.members n.state.years) (places n.state.results)
  pub cash : Whole n.cash

-- from a fresh start, the history leads to this
pub record Leads (start : Now) (calls : History) (n : Now) : Type 0 where
  pub fresh : Fresh start
  pub comes : led_to start calls ≡ n

-- the calls of a history that were accepted, the latest first
abbrev pub accepted : Now → History → List Call
accepted start opened = []
accepted start (calls then call) =
    cond (is_ok (act (led_to start calls) call).answer) (call ∷ accepted start calls) (accepted start calls)

-- an amount, where the account is meant
abbrev pub if_account : ℕ → ℕ → ℕ → ℕ
if_account account member amount = cond (member == account) amount 0

-- what the deposits among some calls bring to an account, in kuruş
abbrev pub deposits : ℕ → List Call → ℕ
deposits account [] = 0
deposits account (step ∷ calls) = deposits account calls
deposits account (deposit member amount ∷ calls) = if_account account member amount + deposits account calls
deposits account (withdraw units member amount ∷ calls) = deposits account calls
deposits account (list contract price rate ∷ calls) = deposits account calls
deposits account (halt contract ∷ calls) = deposits account calls
deposits account (resume contract price ∷ calls) = deposits account calls

-- what the withdrawals among some calls take from an account, in kuruş
abbrev pub withdrawals : ℕ → List Call → ℕ
withdrawals account [] = 0
withdrawals account (step ∷ calls) = withdrawals account calls
withdrawals account (deposit member amount ∷ calls) = withdrawals account calls
withdrawals account (withdraw units member amount ∷ calls) = if_account account member amount + withdrawals account calls
withdrawals account (list contract price rate ∷ calls) = withdrawals account calls
withdrawals account (halt contract ∷ calls) = withdrawals account calls
withdrawals account (resume contract price ∷ calls) = withdrawals account calls
