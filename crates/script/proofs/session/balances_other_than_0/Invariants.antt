use Rattle.std.proofs.Common.{◌≤◌}
use Rattle.script.proofs.session.balances_other_than_0.Given as goal

abbrev pub invariant-loop-account : goal.invariant-loop-account
invariant-loop-account g l = l.n ≤ l.account
