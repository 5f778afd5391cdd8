-- What is closed is closed oldest first, and nothing but the arriving lot grows.
use Rattle.std.proofs.Common.{◌≡◌, ℕ, ◌+◌, ◌-◌, ◌<◌, ◌≤◌, min, Bool, true, false, cond, List, [], ◌∷◌, sym, refl, ap, ◌∙◌, ⊎_elim, arith}
use Rattle.std.specs.List.{AllByRecursion}
use Rattle.std.proofs.lemmas.Bool.{and_parts, and_right, cases_Bool, cases_lt, cond-true, cond-false, eqb-true, ne_eqb}
use Rattle.std.proofs.lemmas.Bool.Decides.{nat_tests}
use Rattle.line.specs.Places.{ahead}
use Rattle.line.proofs.Lines.{InLine}
use Rattle.market.specs.Places.{lot_place}
use Rattle.market.specs.declared.records.Lot.{Lot}
use Rattle.lots.specs.Lots.{first_place, held_by, opposes}
use Rattle.lots.specs.Closing.{with_quantity, closes, Closed, closing, arrived}
use Rattle.lots.specs.Sums.{quantity_of, comes_from, open_from}
use Rattle.lots.specs.Laws.{NoneGrows, OldestFirst}
use Rattle.lots.proofs.Fits.{Fits, OneSided}
use Rattle.lots.proofs.Steps.{closing_zero, closing_none}
use Rattle.lots.proofs.Runs.{none_opposes}
use Rattle.lots.proofs.Grosses.{staying_quantity, rested_quantity}

less_there : (b : Bool) (n k : ℕ) → cond b (n - k) 0 ≤ cond b n 0
less_there b n k = grind arith

-- closing leaves no more of the lots that pass a test than there were
pub closing_quantity : (a : Lot) (test : Lot → Bool) → ((l : Lot) (n : ℕ) → test (with_quantity l n) ≡ test l) → (q : ℕ) (ls : List Lot) → quantity_of test (closing a q ls).lots ≤ quantity_of test ls
closing_quantity a test w q [] = omega arith
closing_quantity a test w q (l ∷ ls) =
    let k = closes a q l in
    omega (arith, staying_quantity test l (l.quantity - k) (closing a (q - k) ls).lots (w l (l.quantity - k)), less_there (test l) l.quantity k, closing_quantity a test w (q - k) ls)

not_older : (m c older : ℕ) (l y : Lot) → held_by m c l ≡ true → older ≤ l.tape → ahead (lot_place l) (lot_place y) ≡ true → comes_from m c older y ≡ false
not_older m c older l y h le ah = grind (arith, nat_tests)

-- behind a lot stands nothing of theirs from an older trade
none_older : (m c older : ℕ) (l : Lot) (ls : List Lot) → held_by m c l ≡ true → older ≤ l.tape → AllByRecursion (λ y. ahead (lot_place l) (lot_place y) ≡ true) ls → open_from m c older ls ≡ 0
none_older m c older l [] h le all = refl
none_older m c older l (y ∷ ys) h le all =
    ap (λ b. cond b y.quantity 0 + open_from m c older ys) (not_older m c older l y h le all.0) ∙ omega (arith, none_older m c older l ys h le all.1)

behind_first : (m c : ℕ) (l : Lot) → held_by m c l ≡ true → ahead (lot_place l) (first_place m c) ≡ false
behind_first m c l h = grind (arith, nat_tests)

-- a lot in front of which something newer was closed: it is used up
used_whole : (a : Lot) (newer q : ℕ) (l : Lot) (ls : List Lot) → InLine lot_place (l ∷ ls) → AllByRecursion Fits (l ∷ ls) → OneSided (l ∷ ls) → held_by a.member a.contract l ≡ true
    → open_from a.member a.contract newer (closing a (q - closes a q l) ls).lots < open_from a.member a.contract newer ls → l.quantity - closes a q l ≡ 0
used_whole a newer q l ls li fs si h fell =
    let m = a.member in let c = a.contract in let k = closes a q l in
    ⊎_elim
    (λ o.
    let t : closes a q l ≡ min q l.quantity = cond-true _ _ _ o in
    ⊎_elim
    (λ more. omega arith)
    (λ none.
    let z : q - k ≡ 0 = omega arith in
    let same : (closing a (q - k) ls).lots ≡ ls = ap (λ (n : ℕ). (closing a n ls).lots) z ∙ ap (λ (r : Closed). r.lots) (closing_zero a ls fs.1) in
    absurd (omega (arith, ap (open_from m c newer) same)))
    (cases_lt 0 (q - k)))
    (λ o.
    let none = none_opposes a l ls fs.0 li si (behind_first m c l h) o in
    let same : (closing a (q - k) ls).lots ≡ ls = ap (λ (r : Closed). r.lots) (closing_none a (q - k) ls fs.1 none.1) in
    absurd (omega (arith, ap (open_from m c newer) same)))
    (cases_Bool (opposes a l))

-- where something from a trade was closed, nothing from an older one stays open
pub closing_oldest : (a : Lot) (older newer : ℕ) → older < newer → (q : ℕ) (ls : List Lot) → InLine lot_place ls → AllByRecursion Fits ls → OneSided ls
    → open_from a.member a.contract newer (closing a q ls).lots < open_from a.member a.contract newer ls → open_from a.member a.contract older (closing a q ls).lots ≡ 0
closing_oldest a older newer lt q [] li fs si fell = absurd (omega arith)
closing_oldest a older newer lt q (l ∷ ls) li fs si fell =
    let m = a.member in let c = a.contract in let k = closes a q l in let r = closing a (q - k) ls in
    let sn = staying_quantity (comes_from m c newer) l (l.quantity - k) r.lots refl in
    let so = staying_quantity (comes_from m c older) l (l.quantity - k) r.lots refl in
    ⊎_elim
    (λ e.
    let p = and_parts _ _ e in
    let tape = eqb-true l.tape newer p.1 in
    let z = none_older m c older l ls p.0 (omega arith) li.0 in
    let g = closing_quantity a (comes_from m c older) (λ x n. refl) (q - k) ls in
    let n : comes_from m c older l ≡ false = and_right _ _ (ne_eqb l.tape older (λ (x : l.tape ≡ older). omega arith)) in
    let w : cond (comes_from m c older l) (l.quantity - k) 0 ≡ 0 = cond-false _ _ _ n in
    omega arith)
    (λ e.
    let x : cond (comes_from m c newer l) (l.quantity - k) 0 ≡ 0 = cond-false _ _ _ e in
    let y : cond (comes_from m c newer l) l.quantity 0 ≡ 0 = cond-false _ _ _ e in
    let inner : open_from m c newer r.lots < open_from m c newer ls = omega arith in
    let z = closing_oldest a older newer lt (q - k) ls li.1 fs.1 si.1 inner in
    let w : cond (comes_from m c older l) (l.quantity - k) 0 ≡ 0 =
    ⊎_elim (λ o. cond-true _ _ _ o ∙ used_whole a newer q l ls li fs si (and_parts _ _ o).0 inner) (λ o. cond-false _ _ _ o) (cases_Bool (comes_from m c older l)) in
    omega arith)
    (cases_Bool (comes_from m c newer l))

-- what is left of the arriving lot counts for its own trade alone
apart : (a : Lot) (tape q : ℕ) → (tape ≡ a.tape → ⊥) → cond (comes_from a.member a.contract tape (with_quantity a q)) q 0 ≡ 0
apart a tape q ne = cond-false _ _ _ (and_right _ _ (ne_eqb a.tape tape (λ e. ne (sym e))))

pub arrived_none_grows : (a : Lot) (ls : List Lot) → NoneGrows a ls (arrived a ls)
unfolding arrived
arrived_none_grows a ls tape ne =
    let r = closing a a.quantity ls in
    omega (arith, rested_quantity (comes_from a.member a.contract tape) (with_quantity a r.left) r.lots, apart a tape r.left ne, closing_quantity a (comes_from a.member a.contract tape) (λ x n. refl) a.quantity ls)

pub arrived_oldest_first : (a : Lot) (ls : List Lot) → InLine lot_place ls → AllByRecursion Fits ls → OneSided ls → OldestFirst a ls (arrived a ls)
unfolding arrived
arrived_oldest_first a ls li fs si older newer lt ne fell =
    let m = a.member in let c = a.contract in let r = closing a a.quantity ls in
    let rn = rested_quantity (comes_from m c newer) (with_quantity a r.left) r.lots in
    let ro = rested_quantity (comes_from m c older) (with_quantity a r.left) r.lots in
    let z = closing_oldest a older newer lt a.quantity ls li fs si (omega arith) in
    let w = apart a older r.left ne in
    omega arith
