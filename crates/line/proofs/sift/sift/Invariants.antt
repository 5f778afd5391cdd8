-- The test may be called; what it chose so far stands at the front, and from `i` on the records are as they were.
use Rattle.std.specs.Fn.{CalledAt}
use Rattle.line.proofs.Choosing.{Chosen}
use Rattle.line.proofs.sift.sift.Given as goal

abbrev pub invariant-loop-i : goal.invariant-loop-i
invariant-loop-i g l = record {
  callable : goal.F-IsAlwaysCallable g l.test;
  chosen : Chosen (CalledAt g.F.FnMut) l.initial.test l.initial.records l.records l.test l.chosen l.i;
}
