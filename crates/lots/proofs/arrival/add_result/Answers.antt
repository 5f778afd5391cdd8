-- The sum fits, and stands where the result stood.
use Rattle.std.proofs.Common.{◌+◌, ◌≤◌, get_or, set, ℤ, pos, ◌+ℤ◌, nat_abs, sym, refl, ap, ◌∙◌, subst}
use Rattle.std.proofs.lemmas.List.{length-set, get_or-take, drop-set-lt}
use Rattle.line.specs.Tables.{records, whole}
use Rattle.lots.proofs.Results.{added, take_set_in}
use Rattle.lots.proofs.arrival.add_result.Goals as goal

pub overflow_add-results : goal.overflow_add-results
overflow_add-results c =
    let t = c.args.results.now in
    let e = get_or-take t.used (whole t) c.args.index (pos 0) c.requires.there in
    (added (get_or (whole t) c.args.index (pos 0)) c.args.amount (subst (λ (x : ℤ). nat_abs x + nat_abs c.args.amount ≤ 2000000000000000000) e c.requires.bound)).fits

pub returns : goal.returns
returns c =
    let t = c.args.results.now in let i = c.args.index in let z = c.args.amount in
    let e = get_or-take t.used (whole t) i (pos 0) c.requires.there in
    let s = (added (get_or (whole t) i (pos 0)) z (subst (λ (x : ℤ). nat_abs x + nat_abs z ≤ 2000000000000000000) e c.requires.bound)).is in
    record {
      same = refl;
      used = refl;
      length = length-set _ _ _;
      records = take_set_in (whole t) t.used i _ c.requires.there ∙ ap (λ v. set (records t) i v) (s ∙ ap (λ x. x +ℤ z) (sym e));
      behind = drop-set-lt t.used (whole t) i _ c.requires.there;
    }
