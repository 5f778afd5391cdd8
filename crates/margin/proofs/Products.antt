-- Products of signed numbers: their size, and how they go over sums and signs.
use Rattle.std.proofs.Common.{◌≡◌, ℕ, zero, suc, ◌*◌, ◌^◌, ◌<◌, ◌≤◌, ℤ, pos, negsuc, ◌+ℤ◌, ◌-ℤ◌, ◌*ℤ◌, neg_ℤ, nat_abs, sym, refl, ap, ◌∙◌, subst, mul-le-mul, arith, SFits, to_z, of_z}
use mir.Syntax.{w128}
use borrow.Author.Differences.{ints, up, down, sum_is_lem, neg_is}
use Rattle.std.proofs.lemmas.Int.{to_z-of_z}

-- a factor over a sum
pub mul-add : (a b c : ℤ) → a *ℤ (b +ℤ c) ≡ a *ℤ b +ℤ a *ℤ c
mul-add a b c = omega (arith, ints, ap (λ (n : ℕ). up a * n) (sum_is_lem b c), ap (λ (n : ℕ). down a * n) (sum_is_lem b c))

-- a factor over a sign
pub mul-neg : (a b : ℤ) → a *ℤ neg_ℤ b ≡ neg_ℤ (a *ℤ b)
mul-neg a b = omega (arith, ints, ap (λ (n : ℕ). up a * n) (neg_is b).0, ap (λ (n : ℕ). up a * n) (neg_is b).1, ap (λ (n : ℕ). down a * n) (neg_is b).0, ap (λ (n : ℕ). down a * n) (neg_is b).1)

-- a factor over a difference of two natural numbers
pub mul-sub : (q a b : ℕ) → pos q *ℤ (pos a -ℤ pos b) ≡ pos (q * a) -ℤ pos (q * b)
mul-sub q a b = omega (arith, ints, mul-add (pos q) (pos a) (neg_ℤ (pos b)), mul-neg (pos q) (pos b))

size_neg : (n : ℕ) → nat_abs (neg_ℤ (pos n)) ≡ n
size_neg zero = refl
size_neg (suc n) = refl

-- the size of a product is the product of the sizes
pub size_mul : (a b : ℤ) → nat_abs (a *ℤ b) ≡ nat_abs a * nat_abs b
size_mul (pos a) (pos b) = refl
size_mul (pos a) (negsuc b) = size_neg (a * suc b)
size_mul (negsuc a) (pos b) = size_neg (suc a * b)
size_mul (negsuc a) (negsuc b) = refl

-- a product is at most the product of what its factors are at most
pub size_le : (a b : ℤ) (m n : ℕ) → nat_abs a ≤ m → nat_abs b ≤ n → nat_abs (a *ℤ b) ≤ m * n
size_le a b m n p q = subst (λ (x : ℕ). x ≤ m * n) (sym (size_mul a b)) (mul-le-mul p q)

-- two numbers that are read as x and y, and whose product is small enough
pub record Small (a b x y : ℤ) : Type 0 where
  pub left : to_z w128 (of_z w128 a) ≡ x
  pub right : to_z w128 (of_z w128 b) ≡ y
  pub small : nat_abs (x *ℤ y) < 2 ^ 127

read_product : (a b x y : ℤ) → Small a b x y → to_z w128 (of_z w128 a) *ℤ to_z w128 (of_z w128 b) ≡ x *ℤ y
read_product a b x y s = λ i. s.left i *ℤ s.right i

fits_if_small : (z : ℤ) → nat_abs z < 2 ^ 127 → SFits w128 z
fits_if_small z h = omega (arith, ints)

-- their product is that of x and y
pub product_exact : (a b x y : ℤ) → Small a b x y → to_z w128 (of_z w128 (to_z w128 (of_z w128 a) *ℤ to_z w128 (of_z w128 b))) ≡ x *ℤ y
product_exact a b x y s =
    ap (λ (z : ℤ). to_z w128 (of_z w128 z)) (read_product a b x y s) ∙ to_z-of_z w128 (x *ℤ y) (fits_if_small (x *ℤ y) s.small)
