-- A journal opens with nothing on any account.
use Rattle.std.proofs.Common.{arith, rules}
use Rattle.std.proofs.lemmas.Grind.{common_steps}
use Rattle.vault.specs.Entries.{balances_of}
use Rattle.vault.proofs.Clearing.{free_cleared}
use Rattle.vault.proofs.posting.Journal.new.Goals as goal

pub invariant_of-result-clause-agree : goal.invariant_of-result-clause-agree
unfolding balances_of
invariant_of-result-clause-agree c = grind (arith, common_steps)

pub invariant_of-result-clause-free : goal.invariant_of-result-clause-free
invariant_of-result-clause-free c = free_cleared c.args.entries.now _ (search rules)
