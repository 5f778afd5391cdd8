-- The figures fit their types, so they are those of the books.
use Rattle.std.proofs.Common.{ℕ, ◌≤◌, sym, ap, ◌∙◌, subst, arith}
use Rattle.line.specs.Tables.{records}
use Rattle.lots.specs.Sums.{net, value}
use Rattle.margin.specs.Cover.{weight}
use Rattle.margin.specs.declared.position.Position.{Position}
use Rattle.history.specs.Books.{position}
use Rattle.house.proofs.Adding.{in_64, same_position, weighs}
use Rattle.house.proofs.Books.{opened_by}
use Rattle.house.proofs.house.House.position.Goals as goal

pub returns : goal.returns
unfolding position
returns c =
    let h = c.args.self.now in
    let held = c.holding-held in
    let n = in_64 held.result.net (omega (arith, held.ensures.small)) in
    let v = in_64 held.result.value (omega (arith, held.ensures.bound)) in
    let r = in_64 c.result_of.result (omega (arith, c.result_of.ensures.bound)) in
    let number = c.from.ensures in
    let is = same_position held.result.net _ c.result_of.result _ held.result.value _
    (held.ensures.net ∙ ap (λ (k : ℕ). net c.args.member k (records h.books.lots.line.table)) number)
    c.result_of.ensures.is
    (held.ensures.value ∙ ap (λ (k : ℕ). value c.args.member k (records h.books.lots.line.table)) number) in
    let same = same_position _ held.result.net _ c.result_of.result _ held.result.value n r v in
    record {
      is = same ∙ is;
      bound = subst (λ (q : Position). weight q ≤ 400000000000000) (sym same) (weighs held.result.net c.result_of.result held.result.value held.ensures.small held.ensures.bound c.result_of.ensures.bound);
    }

pub holding-held-requires : goal.holding-held-requires
holding-held-requires c =
    let h = c.args.self.now in
    h.few_lots (opened_by h.phase h.books.members c.args.member h.vacant c.requires.member)
