-- What an accepted movement of a vault says of the balances.
use Rattle.std.proofs.Common.{◌≡◌, ℕ, ◌+◌, ◌-◌, ◌≤◌, Bool, true, cond, ◌≢◌, is_ok, sym, ap, ◌∙◌, subst, ⊎_elim, arith, length-set}
use Rattle.std.proofs.lemmas.List.{get_or-set_same, get_or-set_other}
use Rattle.std.proofs.lemmas.Bool.{cases_eq, eq-eqb, ne_eqb}
use Rattle.std.proofs.lemmas.Bool.Decides.{nat_tests}
use Rattle.vault.specs.Cash.{Cash, Whole, ceiling, balance, moved, credited, debited}
use Rattle.history.specs.History.{if_account}

-- an accepted credit
pub record Credited (c : Cash) (a n : ℕ) : Type 0 where
  pub account : a ≤ 63
  pub room : balance c a + n ≤ 100000000000000000
  pub is : (credited c a n).cash ≡ moved c a (balance c a + n)

pub credit_taken : (c : Cash) (a n : ℕ) → is_ok (credited c a n).answer ≡ true → Credited c a n
credit_taken c a n h = record { account = grind (arith, nat_tests); room = grind (arith, nat_tests); is = grind (arith, nat_tests) }

-- an accepted debit
pub record Debited (c : Cash) (a n : ℕ) : Type 0 where
  pub account : a ≤ 63
  pub room : n ≤ balance c a
  pub is : (debited c a n).cash ≡ moved c a (balance c a - n)

pub debit_taken : (c : Cash) (a n : ℕ) → is_ok (debited c a n).answer ≡ true → Debited c a n
debit_taken c a n h = record { account = grind (arith, nat_tests); room = grind (arith, nat_tests); is = grind (arith, nat_tests) }

-- the balance of the account that moved, and of the others
pub moved_here : (c : Cash) (a v : ℕ) → Whole c → a ≤ 63 → balance (moved c a v) a ≡ v
moved_here c a v w h = get_or-set_same c.balances a v 0 (omega (arith, w.accounts))

pub moved_elsewhere : (c : Cash) (a b v : ℕ) → b ≢ a → balance (moved c a v) b ≡ balance c b
moved_elsewhere c a b v h = get_or-set_other c.balances a b v 0 h

-- a cash stays whole where the new balance is none above the ceiling
pub moved_whole : (c : Cash) (a v : ℕ) → Whole c → a ≤ 63 → v ≤ 100000000000000000 → Whole (moved c a v)
moved_whole c a v w h top = record {
  accounts = length-set c.balances a v ∙ w.accounts;
  low = λ b. ⊎_elim
      (λ (e : b ≡ a). subst (λ (k : ℕ). balance (moved c a v) k ≤ ceiling) (sym e) (subst (λ (k : ℕ). k ≤ ceiling) (sym (moved_here c a v w h)) top))
      (λ (e : b ≢ a). subst (λ (k : ℕ). k ≤ ceiling) (sym (moved_elsewhere c a b v e)) (w.low b))
      (cases_eq b a);
}

-- an amount counts for its own account, and for no other
pub counts : (account member amount : ℕ) → member ≡ account → if_account account member amount ≡ amount
counts account member amount e = ap (λ (b : Bool). cond b amount 0) (eq-eqb member account e)

pub counts_not : (account member amount : ℕ) → member ≢ account → if_account account member amount ≡ 0
counts_not account member amount e = ap (λ (b : Bool). cond b amount 0) (ne_eqb member account e)
