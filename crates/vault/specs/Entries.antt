-- What a journal's list means: the used places come first and hold the entries in the order taken,
-- an account's balance is the sum of its entries, and each free place is a movement left.
use Rattle.std.specs.Prelude.{◌≡◌, ℕ, ◌+◌, ◌-◌, ◌<◌, ◌≤◌, min, cond, List, ◌++◌, map, length, take, drop, replicate, ℤ, pos, ◌+ℤ◌, neg_ℤ, ◌≤ℤ◌, is_ok, Some, fold, Result, ◌==◌, slice_index_or, slice_set, unsigned_abs}
use Rattle.std.specs.List.{range_with_len}
use Rattle.vault.specs.declared.entries.Entry.{Entry}
use Rattle.vault.specs.declared.faults.Fault.{Fault}
use Rattle.vault.specs.Cash.{Cash, ceiling}

-- what stands at a free place
abbrev pub nothing : Entry
nothing = record { account = 0; amount = pos 0 }

-- the entry of a credit of n kuruş to account a
abbrev pub credit_entry : ℕ → ℕ → Entry
credit_entry a n = record { account = a; amount = pos n }

-- the entry of a debit of n kuruş from account a
abbrev pub debit_entry : ℕ → ℕ → Entry
debit_entry a n = record { account = a; amount = neg_ℤ (pos n) }

-- the places of a list that a journal uses: the first 65,536
abbrev pub places : List Entry → ℕ
places es = min (length es) 65536

-- the list at opening: those places cleared, the places beyond as they were
abbrev pub cleared : List Entry → List Entry
cleared es = replicate (places es) nothing ++ drop (places es) es

-- the list after a movement that answered r: entry e at the first free place n if it was taken, else as it was
abbrev pub posted : Result (Unit {0}) Fault → List Entry → ℕ → Entry → List Entry
posted r es n e = cond (is_ok r) (slice_set es n e) es

-- the used places after a movement that answered r, of n before it
abbrev pub counted : Result (Unit {0}) Fault → ℕ → ℕ
counted r n = cond (is_ok r) (n + 1) n

-- what an entry brings to account a, in kuruş
abbrev pub share : ℕ → Entry → ℤ
share a e = cond (e.account == a) e.amount (pos 0)

-- the sum of account a's entries, in kuruş
abbrev pub total : ℕ → List Entry → ℤ
total a es = fold (λ s e. s +ℤ share a e) (pos 0) es

-- the balances of the 64 accounts by the first n entries
unfoldable pub balances_of : List Entry → ℕ → List ℕ
balances_of es n = map (λ a. unsigned_abs (total a (take n es))) (range_with_len 0 64)

-- what a journal means whose first n places are used
abbrev pub meant : List Entry → ℕ → Cash
meant es n = record { balances = balances_of es n; left = Some (places es - n) }

-- a journal as it opens on a list: nothing on any account, every place free
abbrev pub opened_journal : List Entry → Cash
opened_journal es = record { balances = replicate 64 0; left = Some (places es) }

-- each account's sum is a balance: neither below nothing nor above the ceiling
abbrev pub Sums : List Entry → ℕ → Type 0
Sums es n = (a : ℕ) → (pos 0 ≤ℤ total a (take n es)) × (total a (take n es) ≤ℤ pos ceiling)

-- the free places are zero
abbrev pub Free : List Entry → ℕ → Type 0
Free es n = (k : ℕ) → n ≤ k → k < places es → slice_index_or es k nothing ≡ nothing
