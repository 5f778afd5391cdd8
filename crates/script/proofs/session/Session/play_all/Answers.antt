use Rattle.std.proofs.Common.{length, ap, arith}
use Rattle.script.proofs.Counting.{one_more}
use Rattle.grammar.proofs.Cutting.{lines_few}
use Rattle.script.proofs.session.Session.play_all.Goals as goal

pub counted-summary-requires-clause-room : goal.counted-summary-requires-clause-room
counted-summary-requires-clause-room g c = omega (arith, c.loop-line.invariant.few, ap length c.in-Some.ensures.steps, lines_few c.args.script.now, c.well_formed)

pub loop-line-preserved : goal.loop-line-preserved
loop-line-preserved g c =
    rw (c.begun_after-begun.ensures, c.counted-summary.ensures) (one_more _ _ _ _ c.in_ok-outcome.outcome _ c.in_ok-outcome.ensures (rw c.in-Some.ensures.steps at c.loop-line.invariant))
