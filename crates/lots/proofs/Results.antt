-- One place of the results changes, by a sum that fits 64 bits.
use Rattle.std.proofs.Common.{◌≡◌, ℕ, zero, suc, ◌+◌, ◌<◌, ◌≤◌, List, [], ◌∷◌, take, set, ℤ, ◌+ℤ◌, nat_abs, refl, ap, arith, w64, SFits, to_z, of_z}
use borrow.Author.Differences.{ints}

pub take_set_in : {X : Type 0} (xs : List X) (n i : ℕ) (y : X) → i < n → take n (set xs i y) ≡ set (take n xs) i y
take_set_in xs zero i y h = absurd (omega arith)
take_set_in [] (suc n) i y h = refl
take_set_in (x ∷ xs) (suc n) zero y h = refl
take_set_in (x ∷ xs) (suc n) (suc i) y h = ap (λ l. x ∷ l) (take_set_in xs n i y (omega arith))

-- two figures, as their bits are added
pub record Added (x z : ℤ) : Type 0 where
  pub fits : SFits w64 (to_z w64 (of_z w64 x) +ℤ to_z w64 (of_z w64 z))
  pub is : to_z w64 (of_z w64 (to_z w64 (of_z w64 x) +ℤ to_z w64 (of_z w64 z))) ≡ x +ℤ z

pub added : (x z : ℤ) → nat_abs x + nat_abs z ≤ 2000000000000000000 → Added x z
added x z h = record { fits = omega (arith, ints); is = omega (arith, ints) }
