-- The lots used up whole, the one closed in part, and the cut are together what closing does to the line.
use Rattle.std.proofs.Common.{◌≡◌, ◌+◌, ◌*◌, ◌≤◌, length, ℤ, ◌+ℤ◌, nat_abs, sym, ap, ◌∙◌, subst, arith}
use Rattle.std.proofs.lemmas.List.{length-take-le}
use Rattle.line.specs.Lines.{spot}
use Rattle.line.specs.Tables.{records, whole}
use Rattle.line.proofs.Lines.{opened}
use Rattle.market.specs.Places.{lot_place}
use Rattle.lots.specs.Lots.{first_place}
use Rattle.lots.specs.Closing.{Closed}
use Rattle.lots.proofs.Products.{sums_plain, sums_bound}
use Rattle.lots.proofs.Fits.{fit_parts, all_fit}
use Rattle.lots.proofs.Runs.{behind_from, closed_all}
use Rattle.lots.proofs.close.close.Goals as goal

pub close_part-part-requires-clause-behind : goal.close_part-part-requires-clause-behind
close_part-part-requires-clause-behind c =
    let t = c.args.line.now.table in let u = c.used_up-upto in let a = c.args.arrival.lot in
    let is : c.spot-from.result ≡ spot lot_place (first_place a.member a.contract) (records t) = c.spot-from.ensures.spot ∙ ap (λ p. spot lot_place p (records t)) c.first_key.ensures in
    behind_from a.member a.contract (records t) c.spot-from.result u.result.0 (opened lot_place (records t) c.args.line.now.lined) is u.ensures.order

pub returns : goal.returns
returns c =
    let t = c.args.line.now.table in let u = c.used_up-upto in let r = c.close_part-part in let k = c.cut_run.ensures in let a = c.args.arrival.lot in
    let lu = length-take-le t.used (whole t) c.args.line.now.within in
    let w = u.ensures.within in
    let is : c.spot-from.result ≡ spot lot_place (first_place a.member a.contract) (records t) = c.spot-from.ensures.spot ∙ ap (λ p. spot lot_place p (records t)) c.first_key.ensures in
    let upto = u.result.0 in let rest = u.result.1 in
    let ul : upto ≤ length (records t) = omega arith in
    let e = closed_all a (records t) _ _ c.spot-from.result upto a.quantity rest.left rest.earned (all_fit (records t) c.requires.fitting) is u.ensures.order ul u.ensures.does r.ensures.records k.records in
    let hu = u.ensures.bound in let hr = r.ensures.bound in let hq = (fit_parts a c.args.arrival.fit).most in
    let bg : nat_abs rest.earned ≤ 10000000000 = omega arith in
    let br : nat_abs r.result.earned ≤ 10000000000 = omega arith in
    let g = sums_plain rest.earned r.result.earned bg br in
    let ku = k.used in let ru = r.ensures.used in
    record {
      lent = record { same = k.lent.same ∙ r.ensures.lent.same; length = k.lent.length ∙ r.ensures.lent.length; cleared = λ h. k.lent.cleared (r.ensures.lent.cleared h) };
      used = omega arith;
      records = sym (ap (λ (x : Closed). x.lots) e);
      left = r.ensures.left ∙ sym (ap (λ (x : Closed). x.left) e);
      earned = g ∙ ap (λ z. rest.earned +ℤ z) r.ensures.earned ∙ sym (ap (λ (x : Closed). x.earned) e);
      bound = subst (λ (z : ℤ). nat_abs z + 4000000 * r.result.left ≤ 4000000 * a.quantity) (sym g) (sums_bound rest.earned r.result.earned (4000000 * rest.left) (4000000 * r.result.left) (4000000 * a.quantity) hu hr);
    }
