-- A line is parted by each place.
use Rattle.std.proofs.Common.{◌≡◌, true, ap, ◌∙◌, rules}
use Rattle.std.proofs.lemmas.List.Sorted.{IsPartitionPoint-from_clause}
use Rattle.line.specs.Places.{ahead}
use Rattle.line.specs.Lines.{in_line, spot}
use Rattle.line.proofs.Searching.{parted, parting_is_spot}
use Rattle.line.proofs.lined.Line.spot.Goals as goal

pub returns-clause-spot : goal.returns-clause-spot
returns-clause-spot g c =
    let place = g.T.Placed.place in
    let p = place c.args.key.now in
    let line = c.records.result.now in
    let e = c.partition_point.ensures in
    let lined : in_line place line ≡ true = ap (in_line place) c.records.ensures ∙ c.args.self.now.lined in
    parting_is_spot place line p c.partition_point.result e.bound (IsPartitionPoint-from_clause (λ x. ahead (place x) p) line c.partition_point.result e.partitioned (parted place line p lined) (λ a r q k. search rules))
    ∙ ap (spot place p) c.records.ensures
