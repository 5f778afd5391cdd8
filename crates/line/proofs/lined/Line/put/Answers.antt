-- The record stands at its spot, and the line is kept since its place was free.
use Rattle.std.proofs.Common.{◌≡◌, ℕ, sym, ap, ◌∙◌}
use Rattle.line.specs.Lines.{in_line, entered}
use Rattle.line.specs.Tables.{records}
use Rattle.line.proofs.Moving.{put_in}
use Rattle.line.proofs.Lines.{opened, shut, entered_at, in_line_entered}
use Rattle.line.proofs.lined.Line.put.Goals as goal

pub invariant_of-self : goal.invariant_of-self
invariant_of-self g c =
    let place = g.T.Placed.place in
    let x = c.args.x in
    let rs = records c.args.self.now.table in
    let new : records c.insert.new.self ≡ entered place x rs = c.insert.ensures.records ∙ ap (λ (j : ℕ). put_in j x rs) c.spot-index.ensures.spot ∙ sym (entered_at place x rs) in
    record { within = c.insert.ensures.within; lined = ap (in_line place) new ∙ shut place (entered place x rs) (in_line_entered place x rs (opened place rs c.args.self.now.lined) c.requires.free) }

pub returns-clause-records : goal.returns-clause-records
returns-clause-records g c =
    let place = g.T.Placed.place in
    let x = c.args.x in
    let rs = records c.args.self.now.table in
    c.insert.ensures.records ∙ ap (λ (j : ℕ). put_in j x rs) c.spot-index.ensures.spot ∙ sym (entered_at place x rs)
