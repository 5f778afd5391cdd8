use Rattle.grammar.specs.Words.{lines}
use Rattle.script.proofs.Counting.{Sofar}
use Rattle.script.proofs.session.Session.play_all.Given as goal

abbrev pub invariant-loop-line : goal.invariant-loop-line
invariant-loop-line g l = Sofar (lines l.script) l.line-iterator l.begun l.summary
