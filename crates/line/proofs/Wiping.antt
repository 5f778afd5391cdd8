-- Blanking places one after the other from the front.
use Rattle.std.proofs.Common.{◌≡◌, ℕ, zero, suc, ◌+◌, ◌<◌, ◌≤◌, List, [], ◌∷◌, ◌++◌, length, drop, set, replicate, refl, ap, ◌∙◌, arith}
use Rattle.std.proofs.lemmas.List.{drop_all, append-nil}

-- one place more
step : {X : Type 0} (xs : List X) (b : X) (n : ℕ) → n < length xs → set (replicate n b ++ drop n xs) n b ≡ replicate (suc n) b ++ drop (suc n) xs
step [] b n h = absurd (omega arith)
step (x ∷ xs) b zero h = refl
step (x ∷ xs) b (suc n) h = ap (λ l. b ∷ l) (step xs b n (omega arith))

pub one_more : {X : Type 0} (xs ys : List X) (b v : X) (n : ℕ) → n < length xs → v ≡ b → ys ≡ replicate n b ++ drop n xs → set ys n v ≡ replicate (n + 1) b ++ drop (n + 1) xs
one_more xs ys b v n h e p =
    let q : suc n ≡ n + 1 = omega arith in
    ap (λ w. set ys n w) e ∙ ap (λ l. set l n b) p ∙ step xs b n h ∙ ap (λ (k : ℕ). replicate k b ++ drop k xs) q

-- all of them
pub all_done : {X : Type 0} (xs ys : List X) (b : X) (n : ℕ) → n ≡ length xs → ys ≡ replicate n b ++ drop n xs → ys ≡ replicate (length xs) b
all_done xs ys b n e p =
    let le : length xs ≤ n = omega arith in
    p ∙ ap (λ l. replicate n b ++ l) (drop_all n xs le) ∙ append-nil (replicate n b) ∙ ap (λ (k : ℕ). replicate k b) e
