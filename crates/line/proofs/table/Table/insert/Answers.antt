-- The records from the spot on have moved one place back.
use Rattle.std.proofs.Common.{refl, ◌∙◌, arith}
use Rattle.std.proofs.lemmas.List.{length-set}
use Rattle.line.proofs.Moving.{moved_back}
use Rattle.line.proofs.Changes.{put_there}
use Rattle.line.proofs.table.Table.insert.Goals as goal

pub returns : goal.returns
returns g c =
    let t = c.args.self.now in
    let e = c.copy_within.ensures in
    let s = put_there g.T.Blank.blank t.places.now _ c.args.x c.args.spot t.used c.requires.within c.requires.room (length-set c.copy_within.new.self c.args.spot c.args.x ∙ e.len) (moved_back t.places.now c.copy_within.new.self c.args.spot t.used c.args.x c.requires.within c.requires.room e.len e.after) in
    record { lent = record { same = refl; length = s.long; cleared = s.cleared }; used = refl; records = s.records; within = omega (arith, s.long, c.requires.room) }
