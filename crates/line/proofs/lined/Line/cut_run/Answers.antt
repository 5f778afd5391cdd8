-- What is left of a line is in line.
use Rattle.std.proofs.Common.{ap, ◌∙◌}
use Rattle.line.specs.Lines.{in_line, taken_out}
use Rattle.line.specs.Tables.{records}
use Rattle.line.proofs.Lines.{opened, shut, in_line_taken_out}
use Rattle.line.proofs.lined.Line.cut_run.Goals as goal

pub invariant_of-self : goal.invariant_of-self
invariant_of-self g c =
    let place = g.T.Placed.place in
    let r = c.args.run in
    let rs = records c.args.self.now.table in
    record { within = c.remove_run.ensures.within; lined = ap (in_line place) c.remove_run.ensures.records ∙ shut place (taken_out r.start r.end rs) (in_line_taken_out place r.start r.end rs c.requires.order (opened place rs c.args.self.now.lined)) }
