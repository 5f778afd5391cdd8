-- Once every place is blank, the first of them count as records.
use Rattle.line.specs.Tables.{held, places}
use Rattle.line.proofs.Counting.{places_are, wiped}
use Rattle.line.proofs.table.Table.clear.Goals as goal

pub returns-clause-holds : goal.returns-clause-holds
returns-clause-holds g c =
    let t = c.args.self.now in
    let w = wiped g.T.Blank.blank t.places.now c.wipe.new.places c.args.used (places (held t)) (places_are t.places.now t.used) c.requires c.wipe.ensures in
    λ i. record { records = w.records i; behind = w.behind i }

pub returns-clause-within : goal.returns-clause-within
returns-clause-within g c =
    let t = c.args.self.now in
    let w = wiped g.T.Blank.blank t.places.now c.wipe.new.places c.args.used (places (held t)) (places_are t.places.now t.used) c.requires c.wipe.ensures in
    w.within

pub returns-clause-cleared : goal.returns-clause-cleared
returns-clause-cleared g c =
    let t = c.args.self.now in
    let w = wiped g.T.Blank.blank t.places.now c.wipe.new.places c.args.used (places (held t)) (places_are t.places.now t.used) c.requires c.wipe.ensures in
    w.cleared
