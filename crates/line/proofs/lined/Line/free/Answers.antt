-- The record at the spot of `x`, if there is one, decides.
use Rattle.std.proofs.Common.{◌≡◌, List, length, Decides, sym, ap, ◌∙◌, subst, refl, arith}
use Rattle.std.proofs.lemmas.List.{length-take-le}
use Rattle.line.specs.Lines.{in_line, spot, Free}
use Rattle.line.proofs.Searching.{free_at_end, free_decided}
use Rattle.line.proofs.lined.Line.free.Goals as goal

pub returns-in-Some : goal.returns-in-Some
returns-in-Some g c =
    let place = g.T.Placed.place in
    let x = c.args.x.now in
    let e = c.records.ensures in
    let line = c.records.result.now in
    let at : c.spot.result ≡ spot place (place x) line = c.spot.ensures.spot ∙ ap (spot place (place x)) (sym e) in
    let found = c.in-Some.ensures.lookup.3 in
    subst (λ (l : List g.row.T.Denot). Decides c.before-in-Some.result (Free place x l)) e
    (free_decided place line x c.spot.result at (ap (in_line place) e ∙ c.args.self.now.lined) found.0 c.in-Some.next.now (found.1 c.in-Some.next.now) c.before-in-Some.result c.before-in-Some.ensures)

pub returns-in-None : goal.returns-in-None
returns-in-None g c =
    let place = g.T.Placed.place in
    let x = c.args.x.now in
    let e = c.records.ensures in
    let line = c.records.result.now in
    let t = c.args.self.now.table in
    let at : c.spot.result ≡ spot place (place x) line = c.spot.ensures.spot ∙ ap (spot place (place x)) (sym e) in
    (λ _. subst (λ (l : List g.row.T.Denot). Free place x l) e (free_at_end place line x c.spot.result at (omega (arith, c.spot.ensures.within, c.in-None.ensures.lookup.3, ap length e, length-take-le t.used t.places.now c.args.self.now.within))), λ _. refl)
