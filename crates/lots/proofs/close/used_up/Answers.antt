-- One turn uses up one more lot.
use Rattle.std.proofs.Common.{◌≡◌, ◌+◌, ◌-◌, ◌*◌, ◌<◌, ◌≤◌, true, length, get_or, drop, ℤ, ◌+ℤ◌, nat_abs, sym, ap, ◌∙◌, subst, arith}
use borrow.Author.Differences.{ints}
use Rattle.std.proofs.lemmas.List.{length-take-le}
use Rattle.line.specs.Tables.{records, whole}
use Rattle.market.specs.Records.{no_lot}
use Rattle.lots.specs.Lots.{opposes}
use Rattle.lots.specs.Closing.{closing, with_earned}
use Rattle.lots.proofs.Products.{sum_plain}
use Rattle.lots.proofs.Steps.{whole_more}
use Rattle.lots.proofs.Fits.{fit_parts, lot_from, seen}
use Rattle.lots.proofs.close.used_up.Goals as goal

pub loop-index-preserved : goal.loop-index-preserved
loop-index-preserved c =
    let t = c.args.line.now.table in let a = c.args.arrival.lot in let i = c.loop-index.invariant in
    let rs = records t in
    let u = c.args.from + c.loop-index.index in let left = c.loop-index.left in
    let l = lot_from c.records.result.now c.args.from c.loop-index.index in
    let s = seen c.records.result.now rs c.args.from c.loop-index.index c.records.ensures (omega (arith, c.requires.there, ap length c.records.ensures, length-take-le t.used (whole t) c.args.line.now.within)) c.loop-index-test.true in
    let here : l ≡ get_or rs u no_lot = s.is in
    let there : u < length rs = omega (arith, s.there) in
    let f = fit_parts a c.args.arrival.fit in
    let r = c.earns-earned.result in
    let hr = c.earns-earned.ensures.bound in
    let hi = i.bound in let hq = f.most in
    let bg : nat_abs c.loop-index.earned ≤ 10000000000 = omega (arith, ints) in
    let br : nat_abs r ≤ 10000000000 = omega arith in
    let e = sum_plain _ c.loop-index.earned r c.loop-index.earned-is bg br in
    let o : opposes a l ≡ true = sym c.opposes.ensures ∙ c.if-not-opposes.false in
    let v = c.args.from + (c.loop-index.index + 1) in let further : u + 1 ≡ v = omega arith in
    let rest = closing a left (drop u rs) in record {
      bound = subst (λ (z : ℤ). nat_abs z + 4000000 * (left - l.quantity) ≤ 4000000 * a.quantity) (sym e) (omega (arith, ints));
      does = whole_more a _ rs u left c.loop-index.earned r l there here o c.if-next-left.false c.earns-earned.ensures.is (i.does ∙ ap (λ z. with_earned z rest) c.loop-index.earned-is)
          ∙ ap (λ k. with_earned (c.loop-index.earned +ℤ r) (closing a (left - l.quantity) (drop k rs))) further
          ∙ ap (λ z. with_earned z (closing a (left - l.quantity) (drop v rs))) (sym e);
    }
