use Rattle.std.proofs.Common.{length, ap, arith}
use Rattle.grammar.proofs.Cutting.{next_line}
use Rattle.grammar.proofs.words.LinesIterator.next.Goals as goal

pub returns-clause-steps : goal.returns-clause-steps
returns-clause-steps c = next_line _ _ _ _ c.self.view_is c.if-is_empty.ensures c.first_line.ensures.front c.first_line.ensures.back

pub returns-clause-goes : goal.returns-clause-goes
returns-clause-goes c =
    let gives = next_line _ _ _ _ c.self.view_is c.if-is_empty.ensures c.first_line.ensures.front c.first_line.ensures.back in
    record { on = λ _. (tt, tt, omega (arith, ap length gives)); keeps = tt; rests = λ _. tt }
