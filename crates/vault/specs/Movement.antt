-- What a movement brings an account to, what it does to a vault's cash, and the entry that a journal makes of it.
use Rattle.std.specs.Prelude.{◌≡◌, ℕ, ◌+◌, ◌-◌, ◌<◌, ◌≤◌, false, cond, Ok, Err, Result}
use Rattle.vault.specs.declared.entries.Entry.{Entry}
use Rattle.vault.specs.declared.faults.Fault.{Fault}
use Rattle.vault.specs.declared.faults.Fault.TheVariants.{Ceiling, Short}
use Rattle.vault.specs.declared.movements.Direction.{Direction}
use Rattle.vault.specs.declared.movements.Direction.TheVariants.{Credit, Debit}
use Rattle.vault.specs.declared.movements.Movement.{Movement}
use Rattle.vault.specs.Cash.{Cash, ceiling, balance, full, moved, passes_the_ceiling, exceeds_the_balance, Moved, outcome, credited, debited}
use Rattle.vault.specs.Entries.{credit_entry, debit_entry}

-- the first for a credit, the second for a debit
abbrev pub by_direction : {T : Type 0} → Direction → T → T → T
by_direction Credit x y = x
by_direction Debit x y = y

-- what a balance b comes to by a movement, or the fault that only its direction has
abbrev pub brought : Movement → ℕ → Result ℕ Fault
brought m b = by_direction m.direction
    (cond (passes_the_ceiling b m.amount) (Err Ceiling) (Ok (b + m.amount)))
    (cond (exceeds_the_balance b m.amount) (Err Short) (Ok (b - m.amount)))

-- what a movement does
abbrev pub made : Movement → Cash → Moved
made m c = by_direction m.direction (credited c m.account m.amount) (debited c m.account m.amount)

-- the entry of a movement
abbrev pub entry_of : Movement → Entry
entry_of m = by_direction m.direction (credit_entry m.account m.amount) (debit_entry m.account m.amount)

-- a movement is taken, and brings its account to b
pub record Takes (m : Movement) (c : Cash) (b : ℕ) : Type 0 where
  pub account : m.account < 64
  pub amount : m.amount ≤ ceiling
  pub room : full c.left ≡ false
  pub low : b ≤ ceiling
  pub balance : brought m (balance c m.account) ≡ Ok b
  pub does : outcome (Ok tt) (moved c m.account b) ≡ made m c
