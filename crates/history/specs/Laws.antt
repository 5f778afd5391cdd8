-- What holds of every history.
use Rattle.std.specs.Prelude.{◌≡◌, ℕ, ◌+◌, ◌≤◌, [], Ok, Err, Result}
use Rattle.market.specs.declared.refusal.Refusal.{Refusal}
use Rattle.vault.specs.Cash.{Cash, Whole, balance}
use Rattle.history.specs.State.{State, Now, beside}
use Rattle.history.specs.History.{Call, History, opened, ◌then◌, Leads, accepted, deposits, withdrawals}

-- the laws of a history that leads from a start to where things stand now
pub record Laws (start : Now) (calls : History) (n : Now) : Type 0 where
  -- the balance of every account is the first, plus accepted deposits, less accepted withdrawals
  pub balances : (account : ℕ) → balance n.cash account + withdrawals account (accepted start calls) ≡ balance start.cash account + deposits account (accepted start calls)
  -- an account that is no member's keeps its balance
  pub strangers : (account : ℕ) → n.state.members ≤ account → balance n.cash account ≡ balance start.cash account
  -- there are 64 accounts, and no balance passes the ceiling
  pub whole : Whole n.cash
  -- the members and the calendar are those of the opening
  pub members : n.state.members ≡ start.state.members
  pub first_year : n.state.first_year ≡ start.state.first_year
  pub years : n.state.years ≡ start.state.years
  -- no call trades yet: nothing waits, nothing is open, nothing is on the tape, and no result has moved
  pub orders : n.state.orders ≡ start.state.orders
  pub lots : n.state.lots ≡ start.state.lots
  pub tape : n.state.tape ≡ start.state.tape
  pub results : n.state.results ≡ start.state.results
  pub no_orders : n.state.orders.records ≡ []
  pub no_lots : n.state.lots.records ≡ []
  pub no_trades : n.state.tape.records ≡ []

-- the laws hold wherever a history leads
abbrev pub EveryHistoryKeepsTheLaws : Type 0
EveryHistoryKeepsTheLaws = (start : Now) (calls : History) (n : Now) → Leads start calls n → Laws start calls n

-- a history leads here, and its laws hold
pub record Stands (start : Now) (calls : History) (n : Now) : Type 0 where
  pub leads : Leads start calls n
  pub laws : Laws start calls n

-- an accepted opening begins a history, beside any whole cash
abbrev pub Begins : Result (Unit {0}) Refusal → State → Type 0
Begins (Ok x) s = (c : Cash) → Whole c → Stands (beside s c) opened (beside s c)
Begins (Err e) s = Unit {0}

-- a call made where a history leads is one more call of that history, which leads to what the call leaves, and the laws hold there
abbrev pub Continues : Now → Call → Now → Type 0
Continues before call after = (start : Now) (calls : History) → Leads start calls before → Stands start (calls then call) after
