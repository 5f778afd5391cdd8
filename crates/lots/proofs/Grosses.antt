-- The gross quantity: with one side it is the net quantity without its sign, and an arrival adds at most its own.
use Rattle.std.proofs.Common.{◌≡◌, ℕ, ◌+◌, ◌-◌, ◌*◌, ◌≤◌, Bool, true, false, cond, not, List, [], ◌∷◌, ℤ, ◌+ℤ◌, nat_abs, sym, refl, ap, ◌∙◌, ⊎_elim, arith}
use borrow.Author.Differences.{ints}
use Rattle.std.specs.List.{AllByRecursion}
use Rattle.std.proofs.lemmas.Bool.{cases_Bool, both_ways, not-true}
use Rattle.std.proofs.lemmas.Bool.Decides.{nat_tests}
use Rattle.line.specs.Places.{ahead}
use Rattle.line.specs.Lines.{entered}
use Rattle.market.specs.Places.{lot_place}
use Rattle.market.specs.declared.records.Side.{Side}
use Rattle.market.specs.declared.records.Side.TheVariants.{Free, Buy, Sell}
use Rattle.market.specs.declared.records.Lot.{Lot}
use Rattle.market.specs.Records.{is_sided}
use Rattle.lots.specs.Lots.{held_by, opposite, opposes}
use Rattle.lots.specs.Closing.{with_quantity, closes, staying, closing, rested, arrived}
use Rattle.lots.specs.Sums.{signed, counted, net, quantity_of, gross}
use Rattle.lots.proofs.Fits.{Fits, OneSided}
use Rattle.lots.proofs.Keeping.{closes_le, closing_left}
use Rattle.lots.proofs.Runs.{held_is, not_opposite}

one_more : (b : Bool) (s t : Side) (q g : ℕ) (z : ℤ) → is_sided s ≡ true → (b ≡ true → t ≡ s) → z ≡ signed s g → counted b (signed t q) +ℤ z ≡ signed s (cond b q 0 + g)
one_more b Free t q g z hs h e = absurd (both_ways false refl hs)
one_more true Buy t q g z hs h e = ap (λ x. signed x q +ℤ z) (h refl) ∙ omega (arith, ints)
one_more true Sell t q g z hs h e = ap (λ x. signed x q +ℤ z) (h refl) ∙ omega (arith, ints)
one_more false Buy t q g z hs h e = omega (arith, ints)
one_more false Sell t q g z hs h e = omega (arith, ints)

all_one : (m c : ℕ) (s : Side) (ls : List Lot) → is_sided s ≡ true → AllByRecursion (λ k. held_by m c k ≡ true → k.side ≡ s) ls → net m c ls ≡ signed s (gross m c ls)
all_one m c Free [] hs h = refl
all_one m c Buy [] hs h = refl
all_one m c Sell [] hs h = refl
all_one m c s (l ∷ ls) hs h = one_more (held_by m c l) s l.side l.quantity (gross m c ls) (net m c ls) hs h.0 (all_one m c s ls hs h.1)

same_side : (x y : Side) → is_sided x ≡ true → is_sided y ≡ true → opposite x y ≡ false → y ≡ x
same_side Free y hx hy o = absurd (both_ways false refl hx)
same_side Buy Free hx hy o = absurd (both_ways false refl hy)
same_side Buy Buy hx hy o = refl
same_side Buy Sell hx hy o = absurd (both_ways true o refl)
same_side Sell Free hx hy o = absurd (both_ways false refl hy)
same_side Sell Buy hx hy o = absurd (both_ways true o refl)
same_side Sell Sell hx hy o = refl

-- two lots of one member in one contract that do not oppose each other have one side
pub agree_side : (m c : ℕ) (l k : Lot) → Fits l → Fits k → held_by m c l ≡ true → held_by m c k ≡ true → opposes l k ≡ false → k.side ≡ l.side
agree_side m c l k fl fk hl hk o =
    let e = held_is m c l hl in
    let same : held_by l.member l.contract k ≡ true = cc in
    same_side l.side k.side fl.sided fk.sided (not_opposite l k same o)

agree_all : (m c : ℕ) (l : Lot) (ks : List Lot) → Fits l → AllByRecursion Fits ks → held_by m c l ≡ true → AllByRecursion (λ k. not (opposes l k) ≡ true) ks → AllByRecursion (λ k. held_by m c k ≡ true → k.side ≡ l.side) ks
agree_all m c l [] fl fs h o = tt
agree_all m c l (k ∷ ks) fl fs h o = ((λ hk. agree_side m c l k fl fs.0 h hk (not-true (opposes l k) o.0)), agree_all m c l ks fl fs.1 h o.1)

gross_abs : (s : Side) (n : ℕ) → is_sided s ≡ true → n ≡ nat_abs (signed s n)
gross_abs Free n h = absurd (both_ways false refl h)
gross_abs Buy n h = refl
gross_abs Sell n h = omega (arith, ints)

-- with one side the gross quantity is the net quantity without its sign
pub gross_net : (m c : ℕ) (ls : List Lot) → AllByRecursion Fits ls → OneSided ls → gross m c ls ≡ nat_abs (net m c ls)
gross_net m c [] fs o = refl
gross_net m c (l ∷ ls) fs o =
    ⊎_elim
    (λ e.
    let a = all_one m c l.side (l ∷ ls) fs.0.sided ((λ _. refl), agree_all m c l ls fs.0 fs.1 e o.0) in
    gross_abs l.side (gross m c (l ∷ ls)) fs.0.sided ∙ ap nat_abs (sym a))
    (λ e. let ih = gross_net m c ls fs.1 o.1 in
    let z : counted (held_by m c l) (signed l.side l.quantity) +ℤ net m c ls ≡ net m c ls = ap (λ b. counted b (signed l.side l.quantity) +ℤ net m c ls) e ∙ omega (arith, ints) in
    ap (λ b. cond b l.quantity 0 + gross m c ls) e ∙ omega arith ∙ ih ∙ ap nat_abs (sym z))
    (cases_Bool (held_by m c l))

-- the quantity of those that pass a test, with a lot that stays and with one that enters
pub staying_quantity : (test : Lot → Bool) (l : Lot) (q : ℕ) (ls : List Lot) → test (with_quantity l q) ≡ test l → quantity_of test (staying l q ls) ≡ cond (test l) q 0 + quantity_of test ls
staying_quantity test l q ls e = grind (arith, nat_tests)

step_quantity : (test : Lot → Bool) (t : Bool) (x y : Lot) (zs ys : List Lot) → quantity_of test zs ≡ cond (test x) x.quantity 0 + quantity_of test ys → quantity_of test (cond t (y ∷ zs) (x ∷ y ∷ ys)) ≡ cond (test x) x.quantity 0 + (cond (test y) y.quantity 0 + quantity_of test ys)
step_quantity test true x y zs ys ih = omega arith
step_quantity test false x y zs ys ih = refl

pub entered_quantity : (test : Lot → Bool) (x : Lot) (ys : List Lot) → quantity_of test (entered lot_place x ys) ≡ cond (test x) x.quantity 0 + quantity_of test ys
entered_quantity test x [] = refl
entered_quantity test x (y ∷ ys) = step_quantity test (ahead (lot_place y) (lot_place x)) x y (entered lot_place x ys) ys (entered_quantity test x ys)

pub rested_quantity : (test : Lot → Bool) (l : Lot) (ls : List Lot) → quantity_of test (rested l ls) ≡ cond (test l) l.quantity 0 + quantity_of test ls
rested_quantity test l ls = grind (arith, nat_tests, entered_quantity test l ls)

step_gross : (a : Lot) (q : ℕ) (l : Lot) → cond (held_by a.member a.contract l) (l.quantity - closes a q l) 0 + closes a q l ≡ cond (held_by a.member a.contract l) l.quantity 0
step_gross a q l = grind (arith, nat_tests)

-- what is closed of the lots is what is used of the arriving quantity
pub closing_gross : (a : Lot) (q : ℕ) (ls : List Lot) → gross a.member a.contract (closing a q ls).lots + q ≡ gross a.member a.contract ls + (closing a q ls).left
closing_gross a q [] = omega arith
closing_gross a q (l ∷ ls) =
    let k = closes a q l in
    let le = (closes_le a q l).0 in
    omega (arith, closing_gross a (q - k) ls, staying_quantity (held_by a.member a.contract) l (l.quantity - k) (closing a (q - k) ls).lots refl, step_gross a q l)

-- what an arrival earns, with its gross quantity at the highest price, is at most what was there and its own
pub arrived_bound : (a : Lot) (ls : List Lot) (g : ℤ) → nat_abs g + 4000000 * (closing a a.quantity ls).left ≤ 4000000 * a.quantity → nat_abs g + 4000000 * gross a.member a.contract (arrived a ls) ≤ 4000000 * gross a.member a.contract ls + 4000000 * a.quantity
unfolding arrived
arrived_bound a ls g h =
    let r = closing a a.quantity ls in
    let t : cond (held_by a.member a.contract a) r.left 0 ≤ r.left = grind arith in
    omega (arith, closing_gross a a.quantity ls, rested_quantity (held_by a.member a.contract) (with_quantity a r.left) r.lots, closing_left a a.quantity ls)
