-- What an arrival keeps: each lot is fit, those of one member in one contract have one side, and places stay free.
use Rattle.std.proofs.Common.{◌≡◌, ℕ, ◌-◌, ◌≤◌, min, true, false, cond, not, eqb, List, [], ◌∷◌, sym, subst, ⊎_elim, arith}
use Rattle.std.specs.List.{AllByRecursion}
use Rattle.std.proofs.lemmas.Bool.{cases_Bool, cond-true, cond-false, eqb-false}
use Rattle.std.proofs.lemmas.Bool.Decides.{nat_tests}
use Rattle.std.proofs.ByRecursion.{All-weaker}
use Rattle.line.specs.Places.{ahead}
use Rattle.line.specs.Lines.{Free, each, entered}
use Rattle.line.proofs.Lines.{each_opened, each_shut, all_entered}
use Rattle.market.specs.Places.{lot_place}
use Rattle.market.specs.declared.records.Lot.{Lot}
use Rattle.lots.specs.Lots.{opposes, fit, one_sided}
use Rattle.lots.specs.Closing.{with_quantity, closes, staying, closing, rested, arrived}
use Rattle.lots.proofs.Fits.{fit_parts, OneSided, sided_opened, sided_shut}

pub closes_le : (a : Lot) (q : ℕ) (l : Lot) → (closes a q l ≤ q) × (closes a q l ≤ l.quantity)
closes_le a q l = (grind arith, grind arith)

module _ (a : Lot) where
  staying_all : (P : Lot → Type 0) (l : Lot) (n : ℕ) (ls : List Lot) → (1 ≤ n → P (with_quantity l n)) → AllByRecursion P ls → AllByRecursion P (staying l n ls)
  staying_all P l n ls h all =
      ⊎_elim
      (λ e. subst (λ (xs : List Lot). AllByRecursion P xs) (sym (cond-true _ _ _ e)) all)
      (λ e. let ne = eqb-false n 0 e in subst (λ (xs : List Lot). AllByRecursion P xs) (sym (cond-false _ _ _ e)) (h (omega (arith, ne)), all))
      (cases_Bool (eqb n 0))

  -- what holds of each lot, and of each with less quantity, holds after closing
  pub closing_all : (P : Lot → Type 0) → ((l : Lot) (n : ℕ) → P l → 1 ≤ n → n ≤ l.quantity → P (with_quantity l n)) → (q : ℕ) (ls : List Lot) → AllByRecursion P ls → AllByRecursion P (closing a q ls).lots
  closing_all P w q [] all = tt
  closing_all P w q (l ∷ ls) all =
      staying_all P l (l.quantity - closes a q l) (closing a (q - closes a q l) ls).lots (λ n. w l (l.quantity - closes a q l) all.0 n (omega arith)) (closing_all P w (q - closes a q l) ls all.1)

  pub closing_left : (q : ℕ) (ls : List Lot) → (closing a q ls).left ≤ q
  closing_left q [] = omega arith
  closing_left q (l ∷ ls) = let h = closing_left (q - closes a q l) ls in omega arith

  staying_sided : (l : Lot) (n : ℕ) (ls : List Lot) → AllByRecursion (λ k. not (opposes l k) ≡ true) ls → OneSided ls → OneSided (staying l n ls)
  staying_sided l n ls h o =
      elim (eqb n 0) as (λ v. OneSided (cond v ls (with_quantity l n ∷ ls))) [ true ↦ o | false ↦ (h, o) ]

  pub closing_sided : (q : ℕ) (ls : List Lot) → OneSided ls → OneSided (closing a q ls).lots
  closing_sided q [] o = tt
  closing_sided q (l ∷ ls) o =
      staying_sided l (l.quantity - closes a q l) (closing a (q - closes a q l) ls).lots
      (closing_all (λ k. not (opposes l k) ≡ true) (λ k n h _ _. h) (q - closes a q l) ls o.0) (closing_sided (q - closes a q l) ls o.1)

  -- where some of the quantity is left, no opposite lot is
  pub none_left : (q : ℕ) (ls : List Lot) → 1 ≤ (closing a q ls).left → AllByRecursion (λ l. opposes a l ≡ false) (closing a q ls).lots
  none_left q [] h = tt
  none_left q (l ∷ ls) h =
      let k = closes a q l in let r = closing a (q - k) ls in
      let rest = none_left (q - k) ls h in
      let le = closing_left (q - k) ls in
      ⊎_elim
      (λ o.
      let t : closes a q l ≡ min q l.quantity = cond-true _ _ _ o in
      staying_all (λ x. opposes a x ≡ false) l (l.quantity - k) r.lots (λ n. absurd (omega arith)) rest)
      (λ o. staying_all (λ x. opposes a x ≡ false) l (l.quantity - k) r.lots (λ n. o) rest)
      (cases_Bool (opposes a l))

fit_less : (l : Lot) (n : ℕ) → fit l ≡ true → 1 ≤ n → n ≤ l.quantity → fit (with_quantity l n) ≡ true
fit_less l n h a b = let f = fit_parts l h in grind (arith, nat_tests)

pub rested_all : (P : Lot → Type 0) (l : Lot) (ls : List Lot) → (1 ≤ l.quantity → P l) → AllByRecursion P ls → AllByRecursion P (rested l ls)
rested_all P l ls h all =
    ⊎_elim
    (λ e. subst (λ (xs : List Lot). AllByRecursion P xs) (sym (cond-true _ _ _ e)) all)
    (λ e. let ne = eqb-false l.quantity 0 e in subst (λ (xs : List Lot). AllByRecursion P xs) (sym (cond-false _ _ _ e)) (all_entered lot_place P l ls (h (omega (arith, ne))) all))
    (cases_Bool (eqb l.quantity 0))

-- after an arrival each lot is fit
-- what holds of each lot, whatever its quantity, and of the arriving one holds after an arrival
pub arrived_all : (P : Lot → Type 0) (a : Lot) (ls : List Lot) → ((l : Lot) (n : ℕ) → P l → P (with_quantity l n)) → P a → AllByRecursion P ls → AllByRecursion P (arrived a ls)
unfolding arrived
arrived_all P a ls w new all =
    let r = closing a a.quantity ls in
    rested_all P (with_quantity a r.left) r.lots (λ _. w a r.left new) (closing_all a P (λ l n h _ _. w l n h) a.quantity ls all)

pub arrived_fit : (a : Lot) (ls : List Lot) → each fit ls ≡ true → fit a ≡ true → each fit (arrived a ls) ≡ true
unfolding arrived
arrived_fit a ls h f =
    let r = closing a a.quantity ls in
    each_shut fit (rested (with_quantity a r.left) r.lots)
    (rested_all (λ l. fit l ≡ true) (with_quantity a r.left) r.lots
    (λ n. fit_less a r.left f n (closing_left a a.quantity ls))
    (closing_all a (λ l. fit l ≡ true) fit_less a.quantity ls (each_opened fit ls h)))

-- what does not oppose the arriving lot is not opposed by it either
agree_new : (a : Lot) (q : ℕ) (y : Lot) → opposes a y ≡ false → (not (opposes y (with_quantity a q)) ≡ true) × (not (opposes (with_quantity a q) y) ≡ true)
agree_new a q y h = (grind (arith, nat_tests), grind (arith, nat_tests))

entered_sided : (x : Lot) (ys : List Lot) → AllByRecursion (λ y. not (opposes y x) ≡ true) ys → AllByRecursion (λ y. not (opposes x y) ≡ true) ys → OneSided ys → OneSided (entered lot_place x ys)
entered_sided x [] a b o = (tt, tt)
entered_sided x (y ∷ ys) a b o =
    elim (ahead (lot_place y) (lot_place x)) as (λ v. OneSided (cond v (y ∷ entered lot_place x ys) (x ∷ y ∷ ys)))
    [ true ↦ (all_entered lot_place (λ k. not (opposes y k) ≡ true) x ys a.0 o.0, entered_sided x ys a.1 b.1 o.1) | false ↦ (b, o) ]

-- after an arrival the lots of one member in one contract have one side
pub arrived_sided : (a : Lot) (ls : List Lot) → one_sided ls ≡ true → one_sided (arrived a ls) ≡ true
unfolding arrived
arrived_sided a ls h =
    let r = closing a a.quantity ls in
    let x = with_quantity a r.left in
    let o = closing_sided a a.quantity ls (sided_opened ls h) in
    sided_shut (rested x r.lots)
    (⊎_elim
    (λ e. subst (λ (xs : List Lot). OneSided xs) (sym (cond-true _ _ _ e)) o)
    (λ e.
    let ne = eqb-false r.left 0 e in
    let none = none_left a a.quantity ls (omega (arith, ne)) in
    subst (λ (xs : List Lot). OneSided xs) (sym (cond-false _ _ _ e))
    (entered_sided x r.lots
    (All-weaker (λ y. opposes a y ≡ false) (λ y. not (opposes y x) ≡ true) (λ y n. (agree_new a r.left y n).0) r.lots none)
    (All-weaker (λ y. opposes a y ≡ false) (λ y. not (opposes x y) ≡ true) (λ y n. (agree_new a r.left y n).1) r.lots none)
    o))
    (cases_Bool (eqb r.left 0)))

-- the arriving lot's place stays free
pub closing_free : (a : Lot) (q : ℕ) (ls : List Lot) → Free lot_place a ls → Free lot_place (with_quantity a q) (closing a a.quantity ls).lots
closing_free a q ls f = closing_all a (λ y. lot_place y ≡ lot_place a → ⊥) (λ l k h _ _. h) a.quantity ls f
