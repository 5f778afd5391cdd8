-- Each turn blanks one place more, and the last turn the last.
use Rattle.std.proofs.Common.{refl, arith}
use Rattle.line.proofs.Wiping.{one_more, all_done}
use Rattle.line.proofs.blank.wipe.Goals as goal

pub loop-place-init : goal.loop-place-init
loop-place-init g c = refl

pub loop-place-preserved : goal.loop-place-preserved
loop-place-preserved g c = one_more c.args.places.now c.loop-place.places g.T.Blank.blank c.empty.result c.loop-place.place-index (omega arith) c.empty.ensures c.loop-place.invariant

pub returns : goal.returns
returns g c = all_done c.args.places.now c.loop-place.places g.T.Blank.blank c.loop-place.place-index (omega arith) c.loop-place.invariant
