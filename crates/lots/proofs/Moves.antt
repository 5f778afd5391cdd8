-- What an arrival does to the net quantity, the value and the gross quantity of each member in each contract.
use Rattle.std.proofs.Common.{◌≡◌, ℕ, ◌+◌, ◌-◌, ◌*◌, ◌≤◌, Bool, true, false, cond, List, [], ◌∷◌, ℤ, ◌+ℤ◌, ◌-ℤ◌, neg_ℤ, refl, ap, arith}
use borrow.Author.Differences.{ints}
use Rattle.std.proofs.lemmas.Bool.Decides.{nat_tests}
use Rattle.line.specs.Places.{ahead}
use Rattle.line.specs.Lines.{entered}
use Rattle.market.specs.Places.{lot_place}
use Rattle.market.specs.declared.records.Side.{Side}
use Rattle.market.specs.declared.records.Side.TheVariants.{Free, Buy, Sell}
use Rattle.market.specs.declared.records.Lot.{Lot}
use Rattle.lots.specs.Lots.{held_by}
use Rattle.lots.specs.Closing.{with_quantity, closes, earns, staying, closing, rested, arrived, earnings}
use Rattle.lots.specs.Sums.{signed, counted, sum_of, lot_net, lot_value, net, value}
use Rattle.lots.proofs.Products.{mul-sub-pos}
use Rattle.lots.proofs.Keeping.{closes_le}

-- what a lot that stays adds to a sum
staying_net : (m c : ℕ) (l : Lot) (q : ℕ) (ls : List Lot) → net m c (staying l q ls) ≡ counted (held_by m c l) (signed l.side q) +ℤ net m c ls
staying_net m c l q ls = grind (arith, ints, nat_tests)

staying_value : (m c : ℕ) (l : Lot) (q : ℕ) (ls : List Lot) → value m c (staying l q ls) ≡ value m c ls -ℤ counted (held_by m c l) (signed l.side (q * l.price))
staying_value m c l q ls = grind (arith, ints, nat_tests)

-- what closing does to one lot: its quantity moves to the arriving lot's account
step_net : (m c q : ℕ) (a l : Lot) → counted (held_by m c l) (signed l.side (l.quantity - closes a q l)) ≡ counted (held_by m c l) (signed l.side l.quantity) +ℤ counted (held_by m c a) (signed a.side (closes a q l))
step_net m c q a l = grind (arith, ints, nat_tests)

parted : (n k p : ℕ) → k ≤ n → (n - k) * p + k * p ≡ n * p
parted n k p h = let e : (n - k) + k ≡ n = omega arith in omega (arith, ap (λ (x : ℕ). x * p) e)

split_net : (b : Bool) (s : Side) (q k : ℕ) → k ≤ q → counted b (signed s q) ≡ counted b (signed s k) +ℤ counted b (signed s (q - k))
split_net b s q k h = grind (arith, ints)

-- net of the lots that stay, with what is left of the arriving quantity, is net of all with the whole quantity
pub closing_net : (m c : ℕ) (a : Lot) (q : ℕ) (ls : List Lot) → net m c (closing a q ls).lots +ℤ counted (held_by m c a) (signed a.side (closing a q ls).left) ≡ net m c ls +ℤ counted (held_by m c a) (signed a.side q)
closing_net m c a q [] = refl
closing_net m c a q (l ∷ ls) =
    let k = closes a q l in
    omega (arith, ints, closing_net m c a (q - k) ls, staying_net m c l (l.quantity - k) (closing a (q - k) ls).lots, step_net m c q a l, split_net (held_by m c a) a.side q k (closes_le a q l).0)

-- what a closing earns, as the two products that it is the difference of
earns_is : (b : Bool) (s : Side) (k p old : ℕ) → counted b (earns s k p old) ≡ counted b (signed s (k * old)) -ℤ counted b (signed s (k * p))
earns_is true Free k p old = refl
earns_is true Buy k p old = omega (arith, ints, mul-sub-pos k old p)
earns_is true Sell k p old = omega (arith, ints, mul-sub-pos k p old)
earns_is false s k p old = refl

step_value : (m c q : ℕ) (a l : Lot) → counted (held_by m c l) (signed l.side ((l.quantity - closes a q l) * l.price)) ≡ counted (held_by m c l) (signed l.side (l.quantity * l.price)) +ℤ counted (held_by m c a) (signed a.side (closes a q l * l.price))
step_value m c q a l = let e = parted l.quantity (closes a q l) l.price (closes_le a q l).1 in grind (arith, ints, nat_tests)

split_value : (b : Bool) (s : Side) (q k p : ℕ) → k ≤ q → counted b (signed s (q * p)) ≡ counted b (signed s (k * p)) +ℤ counted b (signed s ((q - k) * p))
split_value b s q k p h = let e = parted q k p h in grind (arith, ints)

counted_add : (b : Bool) (x y : ℤ) → counted b (x +ℤ y) ≡ counted b x +ℤ counted b y
counted_add b x y = grind (arith, ints)

counted_neg : (b : Bool) (x : ℤ) → counted b (neg_ℤ x) ≡ neg_ℤ (counted b x)
counted_neg b x = grind (arith, ints)

-- value of the lots that stay and what was earned, with what is left of the arriving quantity, is value of all with the whole quantity
pub closing_value : (m c : ℕ) (a : Lot) (q : ℕ) (ls : List Lot) → value m c (closing a q ls).lots -ℤ counted (held_by m c a) (signed a.side ((closing a q ls).left * a.price)) +ℤ counted (held_by m c a) (closing a q ls).earned ≡ value m c ls -ℤ counted (held_by m c a) (signed a.side (q * a.price))
closing_value m c a q [] = grind (arith, ints)
closing_value m c a q (l ∷ ls) =
    let k = closes a q l in
    let r = closing a (q - k) ls in
    let h = held_by m c a in
    omega (arith, ints, closing_value m c a (q - k) ls, staying_value m c l (l.quantity - k) r.lots, step_value m c q a l, split_value h a.side q k a.price (closes_le a q l).0, earns_is h a.side k a.price l.price, counted_add h (earns a.side k a.price l.price) r.earned, counted_neg (held_by m c l) (signed l.side (l.quantity * l.price)))

entered_step : (f : Lot → ℤ) (m c : ℕ) (t : Bool) (x y : Lot) (zs ys : List Lot) → sum_of f m c zs ≡ counted (held_by m c x) (f x) +ℤ sum_of f m c ys → sum_of f m c (cond t (y ∷ zs) (x ∷ y ∷ ys)) ≡ counted (held_by m c x) (f x) +ℤ (counted (held_by m c y) (f y) +ℤ sum_of f m c ys)
entered_step f m c true x y zs ys ih = omega (arith, ints)
entered_step f m c false x y zs ys ih = refl

pub sum_entered : (f : Lot → ℤ) (m c : ℕ) (x : Lot) (ys : List Lot) → sum_of f m c (entered lot_place x ys) ≡ counted (held_by m c x) (f x) +ℤ sum_of f m c ys
sum_entered f m c x [] = refl
sum_entered f m c x (y ∷ ys) = entered_step f m c (ahead (lot_place y) (lot_place x)) x y (entered lot_place x ys) ys (sum_entered f m c x ys)

rested_net : (m c : ℕ) (l : Lot) (ls : List Lot) → net m c (rested l ls) ≡ counted (held_by m c l) (signed l.side l.quantity) +ℤ net m c ls
rested_net m c l ls = grind (arith, ints, nat_tests, sum_entered lot_net m c l ls)

rested_value : (m c : ℕ) (l : Lot) (ls : List Lot) → value m c (rested l ls) ≡ value m c ls -ℤ counted (held_by m c l) (signed l.side (l.quantity * l.price))
rested_value m c l ls = grind (arith, ints, nat_tests, sum_entered lot_value m c l ls, counted_neg (held_by m c l) (signed l.side (l.quantity * l.price)))

-- an arrival moves net by its signed quantity, at its member and contract and nowhere else
pub arrived_net : (a : Lot) (ls : List Lot) (m c : ℕ) → net m c (arrived a ls) ≡ net m c ls +ℤ counted (held_by m c a) (signed a.side a.quantity)
unfolding arrived
arrived_net a ls m c =
    let r = closing a a.quantity ls in
    omega (arith, ints, closing_net m c a a.quantity ls, rested_net m c (with_quantity a r.left) r.lots)

-- an arrival moves value, with what it earns, by its signed quantity × price, at its member and contract and nowhere else
pub arrived_value : (a : Lot) (ls : List Lot) (m c : ℕ) → value m c (arrived a ls) +ℤ counted (held_by m c a) (earnings a ls) ≡ value m c ls -ℤ counted (held_by m c a) (signed a.side (a.quantity * a.price))
unfolding arrived earnings
arrived_value a ls m c =
    let r = closing a a.quantity ls in
    omega (arith, ints, closing_value m c a a.quantity ls, rested_value m c (with_quantity a r.left) r.lots)
