-- Those of a line that pass are in line.
use Rattle.line.specs.Tables.{records}
use Rattle.line.proofs.Lines.{opened, shut}
use Rattle.line.proofs.Choosing.{in_line_filtered, filtered_by}
use Rattle.line.proofs.lined.Line.keep.Goals as goal

pub invariant_of-self : goal.invariant_of-self
invariant_of-self g c =
    let place = g.T.Placed.place in
    let rs = records c.args.self.now.table in
    record { within = c.retain.ensures.within; lined = shut place (records c.retain.new.self) (in_line_filtered place c.args.test rs (records c.retain.new.self) (opened place rs c.args.self.now.lined) c.retain.ensures.records) }

pub returns-clause-by_test : goal.returns-clause-by_test
returns-clause-by_test g c = λ p h. filtered_by g.F.FnMut p c.args.test (records c.args.self.now.table) (records c.retain.new.self) h c.retain.ensures.records
