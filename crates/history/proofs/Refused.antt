-- What a refusal means to a call of the house.
use Rattle.std.proofs.Common.{◌≡◌, ℕ, Bool, true, false, cond, List, [], ◌∷◌, ◌++◌, Some, None, Option, Result, refl, ap, ◌∙◌, arith}
use Rattle.vault.specs.Checks.{first_that_holds}
use Rattle.market.specs.declared.refusal.Refusal.{Refusal}
use Rattle.history.specs.Calls.{outcome, unless_refused, refusal}

-- a call's refusal is the first reason that holds
pub refusal_is : {X : Type 0} (why : Option Refusal) (before after left : X) (r : Result (Unit {0}) Refusal) → outcome r left ≡ unless_refused why before after → refusal r ≡ why
refusal_is why before after left r p = ap (λ o. refusal o.answer) p ∙ at why
  where
    at : (o : Option Refusal) → refusal (unless_refused o before after).answer ≡ o
    at (Some e) = refl
    at None = refl

-- a reason among the first checks is the first among all
pub first_append : (xs ys : List (Refusal × Bool)) (e : Refusal) → first_that_holds xs ≡ Some e → first_that_holds (xs ++ ys) ≡ Some e
first_append [] ys e h = let z : ◌≡◌ {A = ℕ} 0 1 = cc in absurd (omega arith)
first_append (x ∷ xs) ys e h = at x.1 (first_append xs ys e) h
  where
    at : (b : Bool) → (first_that_holds xs ≡ Some e → first_that_holds (xs ++ ys) ≡ Some e) → cond b (Some x.0) (first_that_holds xs) ≡ Some e → cond b (Some x.0) (first_that_holds (xs ++ ys)) ≡ Some e
    at true f q = q
    at false f q = f q
