-- The places behind the records stay.
use Rattle.line.proofs.Changes.{amended}
use Rattle.line.proofs.table.Table.set.Goals as goal

pub returns-clause-records : goal.returns-clause-records
returns-clause-records g c =
    let t = c.args.self.now in
    let s = amended g.T.Blank.blank t.places.now c.args.x c.args.index t.used c.requires.within c.requires.there in
    s.records
