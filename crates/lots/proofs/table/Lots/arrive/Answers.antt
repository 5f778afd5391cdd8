-- The lots are those after the arrival, the result has what it earned, and so the laws hold.
use Rattle.std.proofs.Common.{◌≡◌, ◌<◌, List, length, get_or, set, pos, ◌+ℤ◌, sym, ap, ◌∙◌, subst, arith, rules}
use Rattle.std.proofs.lemmas.List.{length-take-le, get_or-set_same}
use Rattle.line.specs.Tables.{records, whole}
use Rattle.market.specs.declared.records.Lot.{Lot}
use Rattle.lots.specs.Closing.{earnings}
use Rattle.lots.specs.Laws.{Booked}
use Rattle.lots.proofs.Laws.{booked}
use Rattle.lots.proofs.table.Lots.arrive.Goals as goal

pub returns : goal.returns
returns c =
    let a = c.args.arrival.lot in let i = c.args.index in let t = c.take_in-earned in let k = c.add_result.ensures in
    let ls = records c.args.self.now.line.table in let rs = records c.args.results.now in
    let x = get_or rs i (pos 0) in
    let e : records c.add_result.new.results ≡ set rs i (x +ℤ earnings a ls) = search rules in
    let lr = length-take-le c.args.results.now.used (whole c.args.results.now) c.requires.within in
    let lt : i < length rs = omega (arith, c.requires.there) in
    let y : get_or (records c.add_result.new.results) i (pos 0) ≡ x +ℤ earnings a ls = ap (λ zs. get_or zs i (pos 0)) e ∙ get_or-set_same rs i (x +ℤ earnings a ls) (pos 0) lt in
    let l = booked a ls x (get_or (records c.add_result.new.results) i (pos 0)) c.args.self.now.fitting c.args.self.now.sided c.args.arrival.fit y c.args.self.now.line.lined in
    record {
      lots = t.ensures.records;
      results = e;
      lent = t.ensures.lent;
      loan = k.same;
      length = k.length;
      used = (t.ensures.used, k.used);
      behind = k.behind;
      laws = subst (λ (xs : List Lot). Booked a ls xs x (get_or (records c.add_result.new.results) i (pos 0))) (sym t.ensures.records) l;
    }
