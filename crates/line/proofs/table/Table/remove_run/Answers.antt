-- The records behind the run have moved up, and the places that they left are blanked.
use Rattle.std.proofs.Common.{◌-◌, refl, arith}
use Rattle.line.proofs.Moving.{moved_up, run_out}
use Rattle.line.proofs.Changes.{cut_out}
use Rattle.line.proofs.table.Table.remove_run.Goals as goal

pub returns : goal.returns
returns g c =
    let t = c.args.self.now in
    let r = c.args.run in
    let xs = t.places.now in
    let ys = c.copy_within.new.self in
    let blank = g.T.Blank.blank in
    let e = c.copy_within.ensures in
    let up = moved_up xs ys r.start r.end t.used c.requires.order c.requires.there c.requires.within e.after in
    let out = run_out xs ys c.wipe.new.places r.start r.end t.used (t.used - (r.end - r.start)) blank c.requires.order c.requires.there c.requires.within e.len (omega arith) up c.wipe.ensures in
    let s = cut_out blank xs _ r.start r.end t.used c.requires.order c.requires.there c.requires.within out in
    record { lent = record { same = refl; length = s.long; cleared = s.cleared }; used = omega arith; records = s.records; within = omega (arith, s.long, c.requires.within) }
