-- The laws of the order on places.
use Rattle.std.proofs.Common.{◌≡◌, Bool, true, false, cond, ◌⊎◌, List, [], ◌∷◌, sym, refl, ap, subst, inl, inr, ⊎_elim, arith}
use Rattle.std.proofs.lemmas.Bool.{ltb-false, cases_Bool, both_ways}
use Rattle.std.proofs.lemmas.Bool.Decides.{nat_tests}
use Rattle.line.specs.Places.{Rank, rising, falling, sooner, ahead, Total}

-- no rank is sooner than itself
pub sooner_never : (p : Rank) → sooner p p ≡ false
sooner_never (rising a) = grind (arith, nat_tests)
sooner_never (falling a) = grind (arith, nat_tests)

-- a rank is sooner than all that a later one is sooner than
pub sooner_onward : (p q r : Rank) → sooner p q ≡ true → sooner q r ≡ true → sooner p r ≡ true
sooner_onward (rising a) (rising b) (rising c) h k = grind (arith, nat_tests)
sooner_onward (rising a) (rising b) (falling c) h k = refl
sooner_onward (rising a) (falling b) (rising c) h k = cc
sooner_onward (rising a) (falling b) (falling c) h k = refl
sooner_onward (falling a) (rising b) (rising c) h k = cc
sooner_onward (falling a) (rising b) (falling c) h k = cc
sooner_onward (falling a) (falling b) (rising c) h k = cc
sooner_onward (falling a) (falling b) (falling c) h k = grind (arith, nat_tests)

-- two ranks of which neither is sooner are one
pub sooner_apart : (p q : Rank) → sooner p q ≡ false → sooner q p ≡ false → p ≡ q
sooner_apart (rising a) (rising b) h k = ap rising (omega (arith, ltb-false a b h, ltb-false b a k))
sooner_apart (rising a) (falling b) h k = absurd (both_ways true h refl)
sooner_apart (falling a) (rising b) h k = absurd (both_ways true k refl)
sooner_apart (falling a) (falling b) h k = ap falling (omega (arith, ltb-false b a h, ltb-false a b k))

-- a place that is ahead: its first rank is sooner, or the first ranks are one and the rest is ahead
by_first : (s t u : Bool) → cond s true (cond t false u) ≡ true → (s ≡ true) ⊎ ((s ≡ false) × (t ≡ false) × (u ≡ true))
by_first true t u h = inl refl
by_first false true u h = absurd (both_ways false refl h)
by_first false false u h = inr (refl, refl, h)

-- two places of which neither is ahead: neither first rank is sooner, and neither rest is ahead
first_not : (s t u v : Bool) → cond s true (cond t false u) ≡ false → cond t true (cond s false v) ≡ false → (s ≡ false) × (t ≡ false) × (u ≡ false) × (v ≡ false)
first_not true t u v h k = absurd (both_ways true h refl)
first_not false true u v h k = absurd (both_ways true k refl)
first_not false false u v h k = (refl, refl, h, k)

-- no place is ahead of itself
pub ahead_never : (p : List Rank) → ahead p p ≡ false
ahead_never [] = refl
ahead_never (p ∷ ps) = rw (sooner_never p) (ahead_never ps)

-- two places of which neither is ahead are one
pub ahead_apart : (p q : List Rank) → ahead p q ≡ false → ahead q p ≡ false → p ≡ q
ahead_apart [] [] h k = refl
ahead_apart [] (q ∷ qs) h k = absurd (both_ways true h refl)
ahead_apart (p ∷ ps) [] h k = absurd (both_ways true k refl)
ahead_apart (p ∷ ps) (q ∷ qs) h k =
    let f = first_not (sooner p q) (sooner q p) (ahead ps qs) (ahead qs ps) h k in
    let e = sooner_apart p q f.0 f.1 in
    let es = ahead_apart ps qs f.2 f.3 in
    cc

-- a place is ahead of all that a later one is ahead of
pub ahead_onward : (p q r : List Rank) → ahead p q ≡ true → ahead q r ≡ true → ahead p r ≡ true
ahead_onward [] [] r h k = absurd (both_ways false refl h)
ahead_onward [] (q ∷ qs) [] h k = absurd (both_ways false refl k)
ahead_onward [] (q ∷ qs) (r ∷ rs) h k = refl
ahead_onward (p ∷ ps) [] r h k = absurd (both_ways false refl h)
ahead_onward (p ∷ ps) (q ∷ qs) [] h k = absurd (both_ways false refl k)
ahead_onward (p ∷ ps) (q ∷ qs) (r ∷ rs) h k =
    ⊎_elim
    (λ s. ⊎_elim
    (λ t. rw (sooner_onward p q r s t))
    (λ t. let e = sooner_apart q r t.0 t.1 in rw (let f : Rank → Type 0 = λ z. sooner p z ≡ true in subst f e s))
    (by_first (sooner q r) (sooner r q) (ahead qs rs) k))
    (λ s. let e = sooner_apart p q s.0 s.1 in ⊎_elim
    (λ t. rw (let f : Rank → Type 0 = λ z. sooner z r ≡ true in subst f (sym e) t))
    (λ t.
    let d = sooner_apart q r t.0 t.1 in
    let z = ahead_onward ps qs rs s.2 t.2 in
    let pr : sooner p r ≡ false = cc (sooner_never r) in
    let rp : sooner r p ≡ false = cc (sooner_never r) in
    rw (pr, rp) z)
    (by_first (sooner q r) (sooner r q) (ahead qs rs) k))
    (by_first (sooner p q) (sooner q p) (ahead ps qs) h)

-- two places are never ahead of each other
pub ahead_one_way : (p q : List Rank) → ahead p q ≡ true → ahead q p ≡ false
ahead_one_way p q h = ⊎_elim (λ k. absurd (both_ways (ahead p p) (ahead_never p) (ahead_onward p q p h k))) (λ k. k) (cases_Bool (ahead q p))

-- what is ahead of a place is ahead of one that is not ahead of that place
pub ahead_past : (x p q : List Rank) → ahead x p ≡ true → ahead q p ≡ false → ahead x q ≡ true
ahead_past x p q h k =
    ⊎_elim
    (λ t. ahead_onward x p q h t)
    (λ t. let e = ahead_apart p q t k in let f : List Rank → Type 0 = λ z. ahead x z ≡ true in subst f e h)
    (cases_Bool (ahead p q))

pub total : Total
total = record {
  never_itself = ahead_never;
  onward = ahead_onward;
  one_first = λ p q differ. ⊎_elim
      (λ h. inl (h, ahead_one_way p q h))
      (λ h. ⊎_elim (λ k. inr (h, k)) (λ k. absurd (differ (ahead_apart p q h k))) (cases_Bool (ahead q p)))
      (cases_Bool (ahead p q));
}
