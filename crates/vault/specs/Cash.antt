-- What a vault means: the balance of each account in kuruş, and the movements that it can still take.
-- A movement is a credit or a debit of an amount on an account; a fault is the reason why one is refused.
use Rattle.std.specs.Prelude.{◌≡◌, ℕ, ◌+◌, ◌-◌, ◌≤◌, Bool, false, ◌||◌, List, [], ◌∷◌, length, replicate, Some, None, Ok, Err, Option, Result, ◌==◌, nat_lt, slice_index, slice_set, codes}
use Rattle.vault.specs.declared.faults.Fault.{Fault}
use Rattle.vault.specs.declared.faults.Fault.TheVariants.{Account, Amount, Full, Ceiling, Short}
use Rattle.vault.specs.Checks.{first_that_holds}

-- balances by account, in kuruş, and the movements left, None if the vault is never full
pub record Cash : Type 0 where
  pub balances : List ℕ
  pub left : Option ℕ

-- the number by which a fault is known
abbrev pub number : Fault → ℕ
number Account = 1
number Amount = 2
number Full = 3
number Ceiling = 4
number Short = 5

-- the words in which a fault is told
abbrev pub phrase : Fault → List ℕ
phrase Account = codes "no such account"
phrase Amount = codes "amount is nothing, or above the ceiling"
phrase Full = codes "no movement left"
phrase Ceiling = codes "credit passes the ceiling"
phrase Short = codes "debit exceeds the balance"

-- kuruş: no balance and no amount is above it
abbrev pub ceiling : ℕ
ceiling = 100000000000000000

-- what account a holds; an account that is not there holds nothing
abbrev pub balance : Cash → ℕ → ℕ
balance c a = slice_index c.balances a

-- what every vault keeps: 64 accounts, and no balance above the ceiling
pub record Whole (c : Cash) : Type 0 where
  pub accounts : length c.balances ≡ 64
  pub low : (a : ℕ) → balance c a ≤ ceiling

-- these balances, and these movements left
abbrev pub cash_of : List ℕ → Option ℕ → Cash
cash_of bs left = record { balances = bs; left = left }

-- no movement is left
abbrev pub full : Option ℕ → Bool
full None = false
full (Some n) = n == 0

-- one movement less is left
abbrev pub fewer : Option ℕ → Option ℕ
fewer None = None
fewer (Some n) = Some (n - 1)

-- after one movement, by which account a comes to hold b
abbrev pub moved : Cash → ℕ → ℕ → Cash
moved c a b = record { balances = slice_set c.balances a b; left = fewer c.left }

-- a vault has accounts 0 to 63
abbrev pub no_such_account : ℕ → Bool
no_such_account a = nat_lt 63 a

-- an amount is at least one kuruş, and at most the ceiling
abbrev pub no_such_amount : ℕ → Bool
no_such_amount n = n == 0 || nat_lt ceiling n

-- a credit of n to a balance b would pass the ceiling
abbrev pub passes_the_ceiling : ℕ → ℕ → Bool
passes_the_ceiling b n = nat_lt ceiling (b + n)

-- a debit of n is more than the balance b
abbrev pub exceeds_the_balance : ℕ → ℕ → Bool
exceeds_the_balance b n = nat_lt b n

-- why a movement of n on account a is refused, in this order; the last reason is that of its direction
abbrev pub refusals : ℕ → ℕ → Option ℕ → Fault × Bool → List (Fault × Bool)
refusals a n left last =
    (Account, no_such_account a)
    ∷ (Amount, no_such_amount n)
    ∷ (Full, full left)
    ∷ last
    ∷ []

-- why a credit of n to account a is refused
abbrev pub credit_refusals : Cash → ℕ → ℕ → List (Fault × Bool)
credit_refusals c a n = refusals a n c.left (Ceiling, passes_the_ceiling (balance c a) n)

-- why a debit of n from account a is refused
abbrev pub debit_refusals : Cash → ℕ → ℕ → List (Fault × Bool)
debit_refusals c a n = refusals a n c.left (Short, exceeds_the_balance (balance c a) n)

-- what a movement answers, and the cash that it leaves
pub record Moved : Type 0 where
  pub answer : Result (Unit {0}) Fault
  pub cash : Cash

-- a call that answered r and left c
abbrev pub outcome : Result (Unit {0}) Fault → Cash → Moved
outcome r c = record { answer = r; cash = c }

-- a refusal leaves the cash as it was
abbrev pub unless_refused : Option Fault → Cash → Cash → Moved
unless_refused None before after = outcome (Ok tt) after
unless_refused (Some f) before after = outcome (Err f) before

-- a credit of n to account a
abbrev pub credited : Cash → ℕ → ℕ → Moved
credited c a n = unless_refused (first_that_holds (credit_refusals c a n)) c (moved c a (balance c a + n))

-- a debit of n from account a
abbrev pub debited : Cash → ℕ → ℕ → Moved
debited c a n = unless_refused (first_that_holds (debit_refusals c a n)) c (moved c a (balance c a - n))

-- a vault with these balances that takes any number of movements
abbrev pub never_full : List ℕ → Cash
never_full bs = record { balances = bs; left = None }

-- a table as it opens: nothing on any account
abbrev pub opened_table : Cash
opened_table = never_full (replicate 64 0)
