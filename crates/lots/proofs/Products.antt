-- A quantity times a difference of prices, and sums of such products, fit 64 bits.
use Rattle.std.proofs.Common.{◌≡◌, ℕ, ◌+◌, ◌*◌, ◌≤◌, ℤ, pos, ◌+ℤ◌, ◌-ℤ◌, ◌*ℤ◌, neg_ℤ, nat_abs, sym, ap, ◌∙◌, subst, mul-le-mul_left, arith, w64, SFits, to_z, of_z}
use Rattle.std.proofs.lemmas.Int.{to_z-of_z}
use borrow.Author.Differences.{ints, up, down, sum_is_lem, neg_is}

pub mul-add : (a b c : ℤ) → a *ℤ (b +ℤ c) ≡ a *ℤ b +ℤ a *ℤ c
mul-add a b c = omega (arith, ints, ap (λ (n : ℕ). up a * n) (sum_is_lem b c), ap (λ (n : ℕ). down a * n) (sum_is_lem b c))

pub mul-neg : (a b : ℤ) → a *ℤ neg_ℤ b ≡ neg_ℤ (a *ℤ b)
mul-neg a b = omega (arith, ints, ap (λ (n : ℕ). up a * n) (neg_is b).0, ap (λ (n : ℕ). up a * n) (neg_is b).1, ap (λ (n : ℕ). down a * n) (neg_is b).0, ap (λ (n : ℕ). down a * n) (neg_is b).1)

-- a quantity times a difference of prices, multiplied out
pub mul-sub-pos : (q s b : ℕ) → pos q *ℤ (pos s -ℤ pos b) ≡ pos (q * s) -ℤ pos (q * b)
mul-sub-pos q s b = omega (arith, ints, mul-add (pos q) (pos s) (neg_ℤ (pos b)), mul-neg (pos q) (pos b))

pub bounded : (q s b : ℕ) → s ≤ 4000000 → b ≤ 4000000 → nat_abs (pos q *ℤ (pos s -ℤ pos b)) ≤ 4000000 * q
bounded q s b hs hb =
    let l : q * s ≤ q * 4000000 = mul-le-mul_left q hs in
    let k : q * b ≤ q * 4000000 = mul-le-mul_left q hb in
    let e = ap nat_abs (mul-sub-pos q s b) in
    let t : nat_abs (pos (q * s) -ℤ pos (q * b)) ≤ 4000000 * q = omega (arith, ints) in
    omega arith

pub small : (z : ℤ) → nat_abs z ≤ 4000000 * 2500 → SFits w64 z
small z h = omega (arith, ints)

-- the product as the machine forms it
pub product_bound : (q s b : ℕ) (x y z : ℤ) → x ≡ pos q → y ≡ pos s → z ≡ pos b → q ≤ 2500 → s ≤ 4000000 → b ≤ 4000000
    → nat_abs (to_z w64 (of_z w64 (to_z w64 (of_z w64 x) *ℤ to_z w64 (of_z w64 (to_z w64 (of_z w64 y) -ℤ to_z w64 (of_z w64 z)))))) ≤ 4000000 * q
product_bound q s b x y z ex ey ez hq hs hb =
    let f : to_z w64 (of_z w64 x) ≡ pos q = ap (λ v. to_z w64 (of_z w64 v)) ex ∙ omega (arith, ints) in
    let g : to_z w64 (of_z w64 (to_z w64 (of_z w64 y) -ℤ to_z w64 (of_z w64 z))) ≡ pos s -ℤ pos b = ap (λ v. to_z w64 (of_z w64 (to_z w64 (of_z w64 v) -ℤ to_z w64 (of_z w64 z)))) ey ∙ ap (λ v. to_z w64 (of_z w64 (to_z w64 (of_z w64 (pos s)) -ℤ to_z w64 (of_z w64 v)))) ez ∙ omega (arith, ints) in
    let e : to_z w64 (of_z w64 x) *ℤ to_z w64 (of_z w64 (to_z w64 (of_z w64 y) -ℤ to_z w64 (of_z w64 z))) ≡ pos q *ℤ (pos s -ℤ pos b) = cc in
    let h = bounded q s b hs hb in
    let small' : nat_abs (pos q *ℤ (pos s -ℤ pos b)) ≤ 4000000 * 2500 = omega arith in
    let whole : to_z w64 (of_z w64 (to_z w64 (of_z w64 x) *ℤ to_z w64 (of_z w64 (to_z w64 (of_z w64 y) -ℤ to_z w64 (of_z w64 z))))) ≡ pos q *ℤ (pos s -ℤ pos b) = ap (λ v. to_z w64 (of_z w64 v)) e ∙ to_z-of_z w64 _ (small _ small') in
    omega (arith, ap nat_abs whole, h)

pub sum_plain : (b : ℕ) (g r : ℤ) → to_z w64 b ≡ g → nat_abs g ≤ 10000000000 → nat_abs r ≤ 10000000000 → to_z w64 (of_z w64 (to_z w64 b +ℤ to_z w64 (of_z w64 r))) ≡ g +ℤ r
sum_plain b g r e hg hr = omega (arith, ints)

pub sums_plain : (g r : ℤ) → nat_abs g ≤ 10000000000 → nat_abs r ≤ 10000000000 → to_z w64 (of_z w64 (to_z w64 (of_z w64 g) +ℤ to_z w64 (of_z w64 r))) ≡ g +ℤ r
sums_plain g r hg hr = omega (arith, ints)

pub sums_bound : (g r : ℤ) (a b q : ℕ) → nat_abs g + a ≤ q → nat_abs r + b ≤ a → nat_abs (g +ℤ r) + b ≤ q
sums_bound g r a b q h k = omega (arith, ints)

-- a running sum with one more figure, as the machine forms it
pub more : (s r x y z : ℤ) (h k : ℕ) → nat_abs s ≤ h → nat_abs r ≤ k → h + k ≤ 100000000000000 → x ≡ s +ℤ y → y ≡ r +ℤ z
    → (nat_abs (to_z w64 (of_z w64 (to_z w64 (of_z w64 s) +ℤ to_z w64 (of_z w64 r)))) ≤ h + k) × (x ≡ to_z w64 (of_z w64 (to_z w64 (of_z w64 s) +ℤ to_z w64 (of_z w64 r))) +ℤ z)
more s r x y z h k hs hr le e d =
    let p : to_z w64 (of_z w64 (to_z w64 (of_z w64 s) +ℤ to_z w64 (of_z w64 r))) ≡ s +ℤ r = omega (arith, ints) in
    (subst (λ (v : ℤ). nat_abs v ≤ h + k) (sym p) (omega (arith, ints)), subst (λ (v : ℤ). x ≡ v +ℤ z) (sym p) (omega (arith, ints)))
