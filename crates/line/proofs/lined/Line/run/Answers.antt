-- Between the spots of the two keys stand the records between the keys.
use Rattle.std.proofs.Common.{ℕ, take, drop, ap, ◌∙◌, arith}
use Rattle.line.specs.Lines.{spot}
use Rattle.line.specs.Tables.{records}
use Rattle.line.proofs.Lines.{opened, spot_order, run_is}
use Rattle.line.proofs.lined.Line.run.Goals as goal

pub returns-clause-order : goal.returns-clause-order
returns-clause-order g c =
    let place = g.T.Placed.place in
    let from = c.spot.ensures.spot in
    let to = c.spot-2.ensures.spot in
    λ h. omega (arith, spot_order place (place c.args.first.now) (place c.args.beyond.now) (records c.args.self.now.table) h)

pub returns-clause-records : goal.returns-clause-records
returns-clause-records g c =
    let place = g.T.Placed.place in
    let p = place c.args.first.now in
    let q = place c.args.beyond.now in
    let rs = records c.args.self.now.table in
    ap (λ (n : ℕ). drop n (take c.spot-2.result rs)) c.spot.ensures.spot ∙ ap (λ (n : ℕ). drop (spot place p rs) (take n rs)) c.spot-2.ensures.spot ∙ run_is place p q rs (opened place rs c.args.self.now.lined)
