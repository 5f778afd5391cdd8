-- The contracts from the slot on are a part of the list, and one of them passes or none.
use Rattle.std.proofs.Common.{◌≡◌, ℕ, ◌+◌, ◌-◌, take, drop, sym, ap, ◌∙◌, arith, rules, tests}
use Rattle.std.proofs.lemmas.Iterator.{YieldsList-from_slice}
use Rattle.std.proofs.lemmas.Iterator.Search.{any_from_yields_List}
use Rattle.market.specs.States.{is_past}
use Rattle.house.proofs.Standings.{any_past_of}
use Rattle.house.proofs.house.House.any_past.Goals as goal

pub returns : goal.returns
returns c =
    let a = c.args in
    let cs = a.self.now.contracts in
    let same : a.from + a.count - a.from ≡ a.count = omega arith in
    let part : c.iter.result.rest.now ≡ take a.count (drop a.from cs) = c.iter.ensures.rest ∙ ap (λ (k : ℕ). take k (drop a.from cs)) same in
    any_from_yields_List (λ k. is_past k.state) _ _ _ c.any.ensures.ran (YieldsList-from_slice (take a.count (drop a.from cs)) part) (λ x b q k. search (rules, tests))
    ∙ sym (any_past_of cs a.from a.count (omega (arith, c.requires, a.self.now.slots)))
