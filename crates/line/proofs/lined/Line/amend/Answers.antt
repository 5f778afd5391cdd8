-- A record of the same place leaves the line as it is.
use Rattle.std.proofs.Common.{◌<◌, length, ap, ◌∙◌, arith}
use Rattle.std.proofs.lemmas.List.{length-take-le}
use Rattle.line.specs.Lines.{in_line}
use Rattle.line.specs.Tables.{records}
use Rattle.line.proofs.Lines.{in_line_set}
use Rattle.line.proofs.lined.Line.amend.Goals as goal

pub invariant_of-self : goal.invariant_of-self
invariant_of-self g c =
    let t = c.args.self.now.table in
    let place = g.T.Placed.place in
    let i : c.args.index < length (records t) = omega (arith, c.requires.there, length-take-le t.used t.places.now c.args.self.now.within) in
    record { within = c.set.ensures.within; lined = ap (in_line place) c.set.ensures.records ∙ in_line_set place (records t) c.args.index c.args.x g.T.Blank.blank i c.requires.place ∙ c.args.self.now.lined }
