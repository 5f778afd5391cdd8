-- At the index stands nothing, a lot that is not opposite, or an opposite one that is not used up.
use Rattle.std.proofs.Common.{◌≡◌, ◌-◌, ◌*◌, ◌<◌, ◌≤◌, true, false, ◌++◌, length, take, nat_abs, sym, refl, ap, ◌∙◌, arith, w64}
use Rattle.std.proofs.lemmas.List.{length-take-le, take-append-drop}
use Rattle.std.proofs.lemmas.Int.{to_z-of_z}
use Rattle.line.specs.Tables.{records, whole}
use Rattle.line.proofs.Lines.{opened}
use Rattle.market.specs.Places.{lot_place}
use Rattle.market.specs.declared.records.Lot.{Lot}
use Rattle.lots.specs.Lots.{opposes}
use Rattle.lots.specs.Closing.{Closed, with_quantity}
use Rattle.lots.proofs.Products.{small}
use Rattle.lots.proofs.Fits.{fit_parts, fit_at, all_fit, sided_opened}
use Rattle.lots.proofs.Runs.{part_end, part_none, part_some, set_is}
use Rattle.lots.proofs.close.close_part.Goals as goal

pub earns-earned-requires : goal.earns-earned-requires
earns-earned-requires c =
    let t = c.args.line.now.table in
    let lu = length-take-le t.used (whole t) c.args.line.now.within in
    let l = c.at-next.result in
    let f = fit_parts l (fit_at (records t) c.args.index l c.requires.fitting (omega arith) c.at-next.ensures) in
    let a = fit_parts c.args.arrival.lot c.args.arrival.fit in
    let hl = c.requires.left in let hm = a.most in
    record { quantity = omega arith; price = a.dear; closed = f.dear }

pub returns-else-index-line : goal.returns-else-index-line
returns-else-index-line c =
    let t = c.args.line.now.table in
    let lu = length-take-le t.used (whole t) c.args.line.now.within in
    let e = part_end c.args.arrival.lot (records t) c.args.index c.args.left (all_fit (records t) c.requires.fitting) (omega arith) in
    record {
      lent = record { same = refl; length = refl; cleared = λ h. h };
      used = refl;
      records = sym (ap (λ (r : Closed). take c.args.index (records t) ++ r.lots) e ∙ take-append-drop c.args.index (records t));
      left = sym (ap (λ (r : Closed). r.left) e);
      earned = sym (ap (λ (r : Closed). r.earned) e);
      bound = omega arith;
    }

pub returns-else-opposes : goal.returns-else-opposes
returns-else-opposes c =
    let t = c.args.line.now.table in
    let lu = length-take-le t.used (whole t) c.args.line.now.within in
    let lt : c.args.index < length (records t) = omega arith in
    let nay : opposes c.args.arrival.lot c.at-next.result ≡ false = sym c.if-opposes.ensures in
    let e = part_none c.args.arrival.lot (records t) c.args.index c.args.left (all_fit (records t) c.requires.fitting) c.at-next.result lt c.at-next.ensures (opened lot_place (records t) c.args.line.now.lined) (sided_opened (records t) c.requires.sided) c.requires.behind nay in
    record {
      lent = record { same = refl; length = refl; cleared = λ h. h };
      used = refl;
      records = sym (ap (λ (r : Closed). take c.args.index (records t) ++ r.lots) e ∙ take-append-drop c.args.index (records t));
      left = sym (ap (λ (r : Closed). r.left) e);
      earned = sym (ap (λ (r : Closed). r.earned) e);
      bound = omega arith;
    }

pub returns-then-opposes : goal.returns-then-opposes
returns-then-opposes c =
    let t = c.args.line.now.table in let a = c.args.arrival.lot in let l = c.at-next.result in let i = c.args.index in let q = c.args.left in
    let lu = length-take-le t.used (whole t) c.args.line.now.within in
    let lt : i < length (records t) = omega arith in
    let d = c.at-next.ensures in
    let o : opposes a l ≡ true = sym c.if-opposes.ensures in
    let h = c.requires.more (omega arith) (ap (opposes a) (sym d) ∙ o) in
    let less : q < l.quantity = omega (arith, ap (λ (k : Lot). k.quantity) d) in
    let e = part_some a (records t) i q (all_fit (records t) c.requires.fitting) l lt d o less in
    let hb = c.earns-earned.ensures.bound in let hq = c.requires.left in let hm = (fit_parts a c.args.arrival.fit).most in
    let sm : nat_abs c.earns-earned.result ≤ 4000000 * 2500 = omega arith in
    let g = to_z-of_z w64 c.earns-earned.result (small c.earns-earned.result sm) in
    record {
      lent = c.amend.ensures.lent;
      used = c.amend.ensures.used;
      records = c.amend.ensures.records ∙ set_is (records t) i (with_quantity l (l.quantity - q)) lt ∙ sym (ap (λ (r : Closed). take i (records t) ++ r.lots) e);
      left = sym (ap (λ (r : Closed). r.left) e);
      earned = g ∙ c.earns-earned.ensures.is ∙ sym (ap (λ (r : Closed). r.earned) e);
      bound = omega (arith, ap nat_abs g);
    }
