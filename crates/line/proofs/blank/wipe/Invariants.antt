-- The places up to the index are blank.
use Rattle.std.proofs.Common.{◌≡◌, ◌++◌, drop, replicate}
use Rattle.line.proofs.blank.wipe.Given as goal

abbrev pub invariant-loop-place : goal.invariant-loop-place
invariant-loop-place g l = l.places ≡ replicate l.place-index g.T.Blank.blank ++ drop l.place-index l.initial.places
