-- How contracts stand, seen as a list of states beside a list of price records.
use Rattle.std.proofs.Common.{◌≡◌, ℕ, zero, suc, ◌+◌, ◌≤◌, Bool, ◌||◌, List, [], ◌∷◌, map, length, get_or, set, take, drop, sym, refl, ap, ◌∙◌, arith}
use Rattle.std.proofs.lemmas.List.{drop_more, get_or-map}
use Rattle.std.specs.List.{list_any}
use Rattle.market.specs.States.{is_past}
use Rattle.market.specs.declared.state.ContractState.{ContractState}
use Rattle.market.specs.declared.state.ContractState.TheVariants.{Unlisted}
use Rattle.house.specs.declared.house.Standing.{Standing}
use Rattle.house.specs.View.{state_in, terms_in}
use Rattle.house.specs.Runs.{any_past}

-- looking at states one after the other is looking at that part of the contracts
pub any_past_of : (cs : List Standing) (from count : ℕ) → from + count ≤ length cs → any_past (map state_in cs) from count ≡ list_any (λ k. is_past (state_in k)) (take count (drop from cs))
any_past_of cs from zero h = refl
any_past_of [] from (suc count) h = absurd (omega arith)
any_past_of (c ∷ cs) from (suc count) h =
    let here = get_or (c ∷ cs) from c in
    let next : from + 1 ≡ suc from = omega arith in
    let d : drop from (c ∷ cs) ≡ here ∷ drop (suc from) (c ∷ cs) = drop_more (c ∷ cs) from c (omega arith) ∙ ap (λ (k : ℕ). here ∷ drop k (c ∷ cs)) next in
    let s : get_or (map state_in (c ∷ cs)) from Unlisted ≡ state_in here = get_or-map state_in (c ∷ cs) from c Unlisted (omega arith) in
    ap (λ (x : ContractState). is_past x || any_past (map state_in (c ∷ cs)) (suc from) count) s
    ∙ ap (λ (b : Bool). is_past (state_in here) || b) (any_past_of (c ∷ cs) (suc from) count (omega arith))
    ∙ ap (λ l. list_any (λ k. is_past (state_in k)) (take (suc count) l)) (sym d)

-- where a contract keeps its price record, all do
pub same_terms : (cs : List Standing) (i : ℕ) (d k : Standing) → terms_in k ≡ terms_in (get_or cs i d) → map terms_in (set cs i k) ≡ map terms_in cs
same_terms [] i d k e = refl
same_terms (c ∷ cs) zero d k e = ap (λ p. p ∷ map terms_in cs) e
same_terms (c ∷ cs) (suc i) d k e = ap (λ l. terms_in c ∷ l) (same_terms cs i d k e)
