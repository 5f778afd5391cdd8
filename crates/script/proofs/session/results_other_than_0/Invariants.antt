use Rattle.std.proofs.Common.{◌≤◌}
use Rattle.script.proofs.session.results_other_than_0.Given as goal

abbrev pub invariant-loop-result : goal.invariant-loop-result
invariant-loop-result l = l.n ≤ l.result-index
