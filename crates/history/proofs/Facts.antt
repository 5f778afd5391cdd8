-- The laws, call by call: each call keeps them, and so does every history.
use Rattle.std.proofs.Common.{◌≡◌, ℕ, ◌+◌, ◌-◌, ◌<◌, ◌≤◌, Bool, true, cond, ◌≢◌, List, [], ◌∷◌, is_ok, Some, None, Option, sym, refl, ap, ◌∙◌, subst, ⊎_elim, arith}
use Rattle.std.proofs.lemmas.Bool.{cases_eq}
use Rattle.std.proofs.lemmas.Bool.Decides.{nat_tests}
use Rattle.market.specs.declared.phase.Phase.{Phase}
use Rattle.market.specs.declared.refusal.Refusal.{Refusal}
use Rattle.vault.specs.Checks.{first_that_holds}
use Rattle.vault.specs.Cash.{Cash, Whole, balance, moved, credited, debited}
use Rattle.margin.specs.Units.{Units}
use Rattle.market.specs.Calendar.{contract_of}
use Rattle.market.specs.declared.calendar.Contract.{Contract}
use Rattle.market.specs.declared.state.ContractState.{ContractState}
use Rattle.market.specs.declared.state.ContractState.TheVariants.{Trading, Halted}
use Rattle.history.specs.State.{State, Price, Now, beside}
use Rattle.history.specs.Standing.{price_of, with_contract, with_state, by_contract}
use Rattle.history.specs.Calls.{unless_refused, with_phase, step_refusals, deposit_refusals, withdrawal_refusals}
use Rattle.history.specs.History.{Call, step, deposit, withdraw, list, halt, resume, History, opened, ◌then◌, act, led_to, Fresh, Leads, accepted, if_account, deposits, withdrawals}
use Rattle.history.specs.Laws.{Laws, Stands}
use Rattle.history.proofs.Cash.{credit_taken, debit_taken, moved_here, moved_elsewhere, moved_whole, counts, counts_not}

-- what the laws say of the accepted calls, whatever the refused ones were
pub record Facts (start : Now) (taken : List Call) (n : Now) : Type 0 where
  pub balances : (account : ℕ) → balance n.cash account + withdrawals account taken ≡ balance start.cash account + deposits account taken
  pub strangers : (account : ℕ) → n.state.members ≤ account → balance n.cash account ≡ balance start.cash account
  pub whole : Whole n.cash
  pub members : n.state.members ≡ start.state.members
  pub first_year : n.state.first_year ≡ start.state.first_year
  pub years : n.state.years ≡ start.state.years
  pub orders : n.state.orders ≡ start.state.orders
  pub lots : n.state.lots ≡ start.state.lots
  pub tape : n.state.tape ≡ start.state.tape
  pub results : n.state.results ≡ start.state.results

-- two states that differ at most in the phase, the contracts and the next order number
record Same (s t : State) : Type 0 where
  pub members : t.members ≡ s.members
  pub first_year : t.first_year ≡ s.first_year
  pub years : t.years ≡ s.years
  pub orders : t.orders ≡ s.orders
  pub lots : t.lots ≡ s.lots
  pub tape : t.tape ≡ s.tape
  pub results : t.results ≡ s.results

same_phase : (s : State) (p : Phase) → Same s (with_phase s p)
same_phase s p = record { members = refl; first_year = refl; years = refl; orders = refl; lots = refl; tape = refl; results = refl }

same_contract : (s : State) (o : Option Contract) (state : ContractState) (price : Contract → Price) → Same s (by_contract o s (λ c. with_contract s c state (price c)))
same_contract s None state price = record { members = refl; first_year = refl; years = refl; orders = refl; lots = refl; tape = refl; results = refl }
same_contract s (Some c) state price = record { members = refl; first_year = refl; years = refl; orders = refl; lots = refl; tape = refl; results = refl }

same_state : (s : State) (o : Option Contract) (state : ContractState) → Same s (by_contract o s (λ c. with_state s c state))
same_state s None state = record { members = refl; first_year = refl; years = refl; orders = refl; lots = refl; tape = refl; results = refl }
same_state s (Some c) state = record { members = refl; first_year = refl; years = refl; orders = refl; lots = refl; tape = refl; results = refl }

-- the calls so far, with one more where it was accepted
abbrev more : Bool → Call → List Call → List Call
more ok call taken = cond ok (call ∷ taken) taken

module _ (start : Now) (taken : List Call) (n : Now) (f : Facts start taken n) where
  -- a call that moves no cash and leaves the tables and the house's size
  quiet : (t : State) (call : Call) → Same n.state t → ((a : ℕ) → deposits a (call ∷ taken) ≡ deposits a taken) → ((a : ℕ) → withdrawals a (call ∷ taken) ≡ withdrawals a taken)
      → Facts start (call ∷ taken) (beside t n.cash)
  quiet t call same d w = record {
    balances = λ a. ap (λ k. balance n.cash a + k) (w a) ∙ f.balances a ∙ ap (λ k. balance start.cash a + k) (sym (d a));
    strangers = λ a h. f.strangers a (subst (λ (k : ℕ). k ≤ a) same.members h);
    whole = f.whole;
    members = same.members ∙ f.members;
    first_year = same.first_year ∙ f.first_year;
    years = same.years ∙ f.years;
    orders = same.orders ∙ f.orders;
    lots = same.lots ∙ f.lots;
    tape = same.tape ∙ f.tape;
    results = same.results ∙ f.results;
  }

  -- such a call, refused or not
  after_quiet : (t : State) (call : Call) → Same n.state t → ((a : ℕ) → deposits a (call ∷ taken) ≡ deposits a taken) → ((a : ℕ) → withdrawals a (call ∷ taken) ≡ withdrawals a taken)
      → (why : Option Refusal) → let o = unless_refused why n.state t in Facts start (more (is_ok o.answer) call taken) (beside o.left n.cash)
  after_quiet t call same d w (Some e) = f
  after_quiet t call same d w None = quiet t call same d w

  -- an accepted deposit
  deposited : (member amount : ℕ) → first_that_holds (deposit_refusals n member amount) ≡ None
      → Facts start (deposit member amount ∷ taken) (beside n.state (credited n.cash member amount).cash)
  deposited member amount none =
      let known : member < n.state.members = grind (arith, nat_tests) in
      let taken' : is_ok (credited n.cash member amount).answer ≡ true = grind (arith, nat_tests) in
      let c = credit_taken n.cash member amount taken' in
      let after = moved n.cash member (balance n.cash member + amount) in
      let here = moved_here n.cash member (balance n.cash member + amount) f.whole c.account in
      let is : (credited n.cash member amount).cash ≡ after = c.is in
      subst (λ (x : Cash). Facts start (deposit member amount ∷ taken) (beside n.state x)) (sym is) (record {
        balances = λ a. ⊎_elim
            (λ (e : member ≡ a). subst
            (λ (k : ℕ). balance after k + withdrawals k taken ≡ balance start.cash k + (if_account k member amount + deposits k taken)) e
            (omega (arith, here, f.balances member, counts member member amount refl)))
            (λ (e : member ≢ a). omega (arith, moved_elsewhere n.cash member a (balance n.cash member + amount) (λ q. e (sym q)), f.balances a, counts_not a member amount e))
            (cases_eq member a);
        strangers = λ a h. let e : a ≢ member = omega arith in moved_elsewhere n.cash member a (balance n.cash member + amount) e ∙ f.strangers a h;
        whole = moved_whole n.cash member (balance n.cash member + amount) f.whole c.account c.room;
        members = f.members;
        first_year = f.first_year;
        years = f.years;
        orders = f.orders;
        lots = f.lots;
        tape = f.tape;
        results = f.results;
      })

  -- an accepted withdrawal
  withdrawn : (units : Units) (member amount : ℕ) → first_that_holds (withdrawal_refusals units n member amount) ≡ None
      → Facts start (withdraw units member amount ∷ taken) (beside n.state (debited n.cash member amount).cash)
  withdrawn units member amount none =
      let known : member < n.state.members = grind (arith, nat_tests) in
      let taken' : is_ok (debited n.cash member amount).answer ≡ true = grind (arith, nat_tests) in
      let c = debit_taken n.cash member amount taken' in
      let after = moved n.cash member (balance n.cash member - amount) in
      let here = moved_here n.cash member (balance n.cash member - amount) f.whole c.account in
      let room = c.room in
      let top : balance n.cash member - amount ≤ 100000000000000000 = omega (arith, f.whole.low member) in
      let is : (debited n.cash member amount).cash ≡ after = c.is in
      subst (λ (x : Cash). Facts start (withdraw units member amount ∷ taken) (beside n.state x)) (sym is) (record {
        balances = λ a. ⊎_elim
            (λ (e : member ≡ a). subst
            (λ (k : ℕ). balance after k + (if_account k member amount + withdrawals k taken) ≡ balance start.cash k + deposits k taken) e
            (omega (arith, here, f.balances member, counts member member amount refl)))
            (λ (e : member ≢ a). omega (arith, moved_elsewhere n.cash member a (balance n.cash member - amount) (λ q. e (sym q)), f.balances a, counts_not a member amount e))
            (cases_eq member a);
        strangers = λ a h. let e : a ≢ member = omega arith in moved_elsewhere n.cash member a (balance n.cash member - amount) e ∙ f.strangers a h;
        whole = moved_whole n.cash member (balance n.cash member - amount) f.whole c.account top;
        members = f.members;
        first_year = f.first_year;
        years = f.years;
        orders = f.orders;
        lots = f.lots;
        tape = f.tape;
        results = f.results;
      })

  -- a deposit, refused or not
  after_deposit : (member amount : ℕ) (why : Option Refusal) → first_that_holds (deposit_refusals n member amount) ≡ why
      → let o = unless_refused why n (beside n.state (credited n.cash member amount).cash) in Facts start (more (is_ok o.answer) (deposit member amount) taken) o.left
  after_deposit member amount (Some e) h = f
  after_deposit member amount None h = deposited member amount h

  -- a withdrawal, refused or not
  after_withdrawal : (units : Units) (member amount : ℕ) (why : Option Refusal) → first_that_holds (withdrawal_refusals units n member amount) ≡ why
      → let o = unless_refused why n (beside n.state (debited n.cash member amount).cash) in Facts start (more (is_ok o.answer) (withdraw units member amount) taken) o.left
  after_withdrawal units member amount (Some e) h = f
  after_withdrawal units member amount None h = withdrawn units member amount h

  -- any call
  after : (call : Call) → Facts start (more (is_ok (act n call).answer) call taken) (act n call).left
  after step = after_quiet _ step (same_phase n.state _) (λ a. refl) (λ a. refl) (first_that_holds (step_refusals n.state))
  after (deposit member amount) = after_deposit member amount _ refl
  after (withdraw units member amount) = after_withdrawal units member amount _ refl
  after (list contract price rate) =
      after_quiet _ (list contract price rate) (same_contract n.state (contract_of contract n.state.years) Trading (λ c. record { price = price; rate = rate })) (λ a. refl) (λ a. refl) _
  after (halt contract) = after_quiet _ (halt contract) (same_state n.state (contract_of contract n.state.years) Halted) (λ a. refl) (λ a. refl) _
  after (resume contract price) =
      after_quiet _ (resume contract price) (same_contract n.state (contract_of contract n.state.years) Trading (λ c. record { price = price; rate = (price_of n.state c).rate })) (λ a. refl) (λ a. refl) _

-- a fresh house, before any call
at_first : (start : Now) → Fresh start → Facts start [] start
at_first start f = record {
  balances = λ a. refl;
  strangers = λ a h. refl;
  whole = f.cash;
  members = refl;
  first_year = refl;
  years = refl;
  orders = refl;
  lots = refl;
  tape = refl;
  results = refl;
}

-- every history
along : (start : Now) (calls : History) → Fresh start → Facts start (accepted start calls) (led_to start calls)
along start opened f = at_first start f
along start (calls then call) f = after start (accepted start calls) (led_to start calls) (along start calls f) call

-- the facts are the laws
laws_from : (start : Now) (calls : History) (n : Now) → Fresh start → Facts start (accepted start calls) n → Laws start calls n
laws_from start calls n f g = record {
  balances = g.balances;
  strangers = g.strangers;
  whole = g.whole;
  members = g.members;
  first_year = g.first_year;
  years = g.years;
  orders = g.orders;
  lots = g.lots;
  tape = g.tape;
  results = g.results;
  no_orders = ap (λ h. h.records) (g.orders ∙ f.orders);
  no_lots = ap (λ h. h.records) (g.lots ∙ f.lots);
  no_trades = ap (λ h. h.records) (g.tape ∙ f.tape);
}

pub every_history : (start : Now) (calls : History) (n : Now) → Leads start calls n → Laws start calls n
every_history start calls n l =
    laws_from start calls n l.fresh (subst (Facts start (accepted start calls)) l.comes (along start calls l.fresh))

-- a fresh house begins a history
pub begins : (start : Now) → Fresh start → Stands start opened start
begins start f =
    let leads : Leads start opened start = record { fresh = f; comes = refl } in
    record { leads = leads; laws = every_history start opened start leads }

-- a call whose equation stands goes on from every history that leads to where it was made
pub goes_on : (before after : Now) (call : Call) → after ≡ (act before call).left
    → (start : Now) (calls : History) → Leads start calls before → Stands start (calls then call) after
goes_on before after call e start calls l =
    let leads : Leads start (calls then call) after = record { fresh = l.fresh; comes = ap (λ (m : Now). (act m call).left) l.comes ∙ sym e } in
    record { leads = leads; laws = every_history start (calls then call) after leads }
