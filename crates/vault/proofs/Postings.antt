-- What one entry more does to what a journal keeps.
use Rattle.std.proofs.Common.{◌≡◌, ℕ, ◌+◌, ◌-◌, ◌<◌, ◌≤◌, List, length, get_or, take, set, pos, ◌+ℤ◌, nat_abs, Ok, Some, Option, refl, ap, ◌∙◌, arith, length-set}
use Rattle.std.proofs.lemmas.Grind.{common_steps}
use Rattle.std.proofs.lemmas.List.{get_or-set_same, get_or-set_other, take_more_set}
use Rattle.std.proofs.lemmas.List.FromFn.{get_or-map-range_with_len, fill_by_all}
use Rattle.std.proofs.lemmas.List.Sums.{fold_push}
use Rattle.std.proofs.lemmas.Bool.Decides.{nat_tests}
use Rattle.std.proofs.lemmas.Int.{ints}
use Rattle.vault.specs.declared.entries.Entry.{Entry}
use Rattle.vault.specs.declared.movements.Direction.{Direction}
use Rattle.vault.specs.declared.movements.Direction.TheVariants.{Credit, Debit}
use Rattle.vault.specs.declared.movements.Movement.{Movement}
use Rattle.vault.specs.declared.posting.Journal.{Journal}
use Rattle.vault.specs.Cash.{ceiling, cash_of}
use Rattle.vault.specs.Movement.{brought, entry_of, Takes}
use Rattle.vault.specs.Entries.{share, total, places, balances_of, Sums, Free}

-- a movement's entry stands on its account, and adds what the movement brings
entry_adds : (d : Direction) (a n b v : ℕ) → brought (record { direction = d; account = a; amount = n }) b ≡ Ok v
    → let e = entry_of (record { direction = d; account = a; amount = n }) in (e.account ≡ a) × (pos b +ℤ e.amount ≡ pos v)
entry_adds Credit a n b v q = (refl, grind (arith, ints, nat_tests))
entry_adds Debit a n b v q = (refl, grind (arith, ints, nat_tests))

balance_at : (es : List Entry) (n a : ℕ) → a < 64 → get_or (balances_of es n) a 0 ≡ nat_abs (total a (take n es))
unfolding balances_of
balance_at es n a h = get_or-map-range_with_len (λ b. nat_abs (total b (take n es))) 0 64 a a 0 h (omega arith)

total_more : (a : ℕ) (es : List Entry) (n : ℕ) (e : Entry) → n < length es → total a (take (n + 1) (set es n e)) ≡ total a (take n es) +ℤ share a e
total_more a es n e h = ap (total a) (take_more_set es n e h) ∙ fold_push (λ s x. s +ℤ share a x) (pos 0) (take n es) e

-- only the entry's account has another balance
balances_more : (bs : List ℕ) (es : List Entry) (n : ℕ) (e : Entry) (v : ℕ) → length bs ≡ 64 → bs ≡ balances_of es n → n < length es
    → e.account < 64 → total e.account (take n es) +ℤ e.amount ≡ pos v → set bs e.account v ≡ balances_of (set es n e) (n + 1)
unfolding balances_of
balances_more bs es n e v long agree h small q =
    fill_by_all (λ a. nat_abs (total a (take (n + 1) (set es n e)))) (set bs e.account v) 64 0 (omega (arith, length-set {A = ℕ}))
    (λ k inside.
    let old = balance_at es n k inside in
    let more = total_more k es n e h in
    grind (arith, ints, nat_tests, get_or-set_same, get_or-set_other))

-- each sum stays a balance
sums_more : (es : List Entry) (n : ℕ) (e : Entry) (v : ℕ) → n < length es → Sums es n
    → total e.account (take n es) +ℤ e.amount ≡ pos v → v ≤ ceiling → Sums (set es n e) (n + 1)
sums_more es n e v h s q top a =
    let more = total_more a es n e h in
    let sum = s a in
    grind (arith, ints, nat_tests)

free_more : (es : List Entry) (n : ℕ) (e : Entry) → Free es n → Free (set es n e) (n + 1)
free_more es n e f k low high = grind (arith, common_steps, f k)

-- what a journal keeps of its balances, its list and its used places
pub record Kept (bs : List ℕ) (es : List Entry) (n : ℕ) : Type 0 where
  pub within : n ≤ places es
  pub agree : bs ≡ balances_of es n
  pub sums : Sums es n
  pub free : Free es n

-- and keeps by the entry of a movement that is taken
pub kept : (j : Journal) (m : Movement) (left : Option ℕ) (v : ℕ) (e : Entry) → left ≡ Some (places j.entries.now - j.used)
    → Takes m (cash_of j.balances.balances left) v → e ≡ entry_of m
    → Kept (set j.balances.balances m.account v) (set j.entries.now j.used e) (j.used + 1)
kept j m left v e counts t written =
    let es = j.entries.now in
    let bs = j.balances.balances in
    let adds = entry_adds m.direction m.account m.amount (get_or bs m.account 0) v t.balance in
    let held = balance_at es j.used m.account t.account in
    let agree : bs ≡ balances_of es j.used = j.agree in
    let sum = j.sums m.account in
    let room : j.used < places es = grind (arith, nat_tests) in
    let own : e.account ≡ m.account = ap (λ (x : Entry). x.account) written ∙ adds.0 in
    let brings : total e.account (take j.used es) +ℤ e.amount ≡ pos v = grind (arith, ints) in
    let inside : j.used < length es = omega arith in
    record {
      within = omega (arith, length-set {A = Entry});
      agree = rw (← own) (balances_more bs es j.used e v j.balances.long agree inside (omega arith) brings);
      sums = sums_more es j.used e v inside j.sums brings t.low;
      free = free_more es j.used e j.free;
    }
