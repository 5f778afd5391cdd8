-- A new table holds nothing on any account, nor past its end.
use Rattle.std.proofs.Common.{◌≡◌, ℕ, get_or, replicate, arith}
use Rattle.std.proofs.lemmas.Grind.{common_steps}
use Rattle.std.proofs.lemmas.List.{get_or-replicate, get_or_past}
use Rattle.vault.proofs.table.BalanceTable.new.Goals as goal

reads_zero : (n a : ℕ) → ◌≡◌ {A = ℕ} (get_or (replicate n 0) a 0) 0
reads_zero n a = grind (arith, common_steps, get_or-replicate {A = ℕ}, get_or_past {X = ℕ})

pub invariant_of-result-clause-low : goal.invariant_of-result-clause-low
invariant_of-result-clause-low c a = omega (arith, reads_zero 64 a)
