-- The lots of a member in a contract are one run in the line, of one side, so that closing goes by that run alone.
use Rattle.std.proofs.Common.{◌≡◌, ℕ, zero, suc, ◌+◌, ◌-◌, ◌<◌, ◌≤◌, true, false, not, List, [], ◌∷◌, ◌++◌, length, get_or, take, drop, set, ℤ, ◌+ℤ◌, sym, refl, ap, ◌∙◌, subst, ⊎_elim, arith}
use Rattle.std.specs.List.{AllByRecursion}
use Rattle.std.proofs.lemmas.Bool.{and_parts, and_cases, and_left, and_right, cases_Bool, both_ways, eqb-true, not-true}
use Rattle.std.proofs.lemmas.Bool.Decides.{nat_tests}
use Rattle.std.proofs.lemmas.List.{drop_more, drop_all, take-append-drop, drop-drop, drop_at, take-append-le, length-take-le, take-take}
use Rattle.std.proofs.ByRecursion.{All-drop, All-take, All-weaker}
use Rattle.line.specs.Places.{ahead}
use Rattle.line.specs.Lines.{spot, taken_out}
use Rattle.line.proofs.Lines.{InLine, in_line_drop, spot_before, spot_behind}
use Rattle.market.specs.Records.{no_lot}
use Rattle.market.specs.declared.records.Side.{Side}
use Rattle.market.specs.declared.records.Side.TheVariants.{Free, Buy, Sell}
use Rattle.market.specs.declared.records.Lot.{Lot}
use Rattle.market.specs.Places.{lot_place}
use Rattle.market.specs.Records.{is_sided}
use Rattle.lots.specs.Lots.{first_place, held_by, opposite, opposes}
use Rattle.lots.specs.Closing.{with_quantity, earns, closing, with_earned}
use Rattle.lots.proofs.Fits.{Fits, OneSided, sided_drop}
use Rattle.lots.proofs.Steps.{untouched, after, closing_none, closing_front, step_part}

pub held_is : (m c : ℕ) (l : Lot) → held_by m c l ≡ true → (l.member ≡ m) × (l.contract ≡ c)
held_is m c l h = let b = and_parts _ _ h in (eqb-true _ _ b.0, eqb-true _ _ b.1)

-- what stands before the first place is not one of theirs
front_not : (m c : ℕ) (l : Lot) → ahead (lot_place l) (first_place m c) ≡ true → held_by m c l ≡ false
front_not m c l h = grind (arith, nat_tests)

-- what stands behind the first place and before one of theirs is theirs too
pub run_on : (m c : ℕ) (l k : Lot) → ahead (lot_place l) (first_place m c) ≡ false → ahead (lot_place l) (lot_place k) ≡ true → held_by m c k ≡ true → held_by m c l ≡ true
run_on m c l k b a h = let e = held_is m c k h in grind (arith, nat_tests)

-- what is not opposite to a bought or sold side is opposite to all that the side is not opposite to
third_side : (s x y : Side) → is_sided x ≡ true → opposite s x ≡ false → opposite x y ≡ false → opposite s y ≡ false
third_side Free x Free hx a b = refl
third_side Free x Buy hx a b = refl
third_side Free x Sell hx a b = refl
third_side Buy Free y hx a b = absurd (both_ways false refl hx)
third_side Buy Buy y hx a b = b
third_side Buy Sell y hx a b = absurd (both_ways true a refl)
third_side Sell Free y hx a b = absurd (both_ways false refl hx)
third_side Sell Buy y hx a b = absurd (both_ways true a refl)
third_side Sell Sell y hx a b = b

-- of a lot of theirs that does not oppose: the sides
pub not_opposite : (a l : Lot) → held_by a.member a.contract l ≡ true → opposes a l ≡ false → opposite a.side l.side ≡ false
not_opposite a l h o = ⊎_elim (λ e. absurd (both_ways (held_by a.member a.contract l) e h)) (λ e. e) (and_cases (held_by a.member a.contract l) (opposite a.side l.side) o)

none_after : (a l k : Lot) → Fits l → opposes a l ≡ false → ahead (lot_place l) (first_place a.member a.contract) ≡ false → ahead (lot_place l) (lot_place k) ≡ true → not (opposes l k) ≡ true → opposes a k ≡ false
none_after a l k f nay be ah ag =
    ⊎_elim
    (λ o.
    let w = run_on a.member a.contract l k be ah o in
    let e = held_is a.member a.contract l w in
    let same : held_by l.member l.contract k ≡ true = cc in
    and_right _ _ (third_side a.side l.side k.side f.sided (not_opposite a l w nay) (not_opposite l k same (not-true (opposes l k) ag))))
    (λ o. and_left _ _ o)
    (cases_Bool (held_by a.member a.contract k))

all_after : (a l : Lot) → Fits l → opposes a l ≡ false → ahead (lot_place l) (first_place a.member a.contract) ≡ false → (ks : List Lot) → AllByRecursion (λ k. ahead (lot_place l) (lot_place k) ≡ true) ks → AllByRecursion (λ k. not (opposes l k) ≡ true) ks → AllByRecursion (λ k. opposes a k ≡ false) ks
all_after a l f nay be [] h g = tt
all_after a l f nay be (k ∷ ks) h g = (none_after a l k f nay be h.0 g.0, all_after a l f nay be ks h.1 g.1)

-- where the first is not opposite, none is
pub none_opposes : (a l : Lot) (ks : List Lot) → Fits l → InLine lot_place (l ∷ ks) → OneSided (l ∷ ks) → ahead (lot_place l) (first_place a.member a.contract) ≡ false → opposes a l ≡ false → AllByRecursion (λ k. opposes a k ≡ false) (l ∷ ks)
none_opposes a l ks f li si be nay = (nay, all_after a l f nay be ks li.0 si.0)

pub set_is : {X : Type 0} (xs : List X) (i : ℕ) (y : X) → i < length xs → set xs i y ≡ take i xs ++ y ∷ drop (i + 1) xs
set_is [] i y h = absurd (omega arith)
set_is (x ∷ xs) zero y h = refl
set_is (x ∷ xs) (suc i) y h =
    let e : suc i + 1 ≡ suc (i + 1) = omega arith in
    ap (λ l. x ∷ l) (set_is xs i y (omega arith)) ∙ ap (λ j. x ∷ (take i xs ++ y ∷ drop j (x ∷ xs))) (sym e)

-- the list from an index on, with what stands there
pub from_here : (rs : List Lot) (i : ℕ) (l : Lot) → i < length rs → l ≡ get_or rs i no_lot → drop i rs ≡ l ∷ drop (i + 1) rs
from_here rs i l lt is = drop_more rs i no_lot lt ∙ ap (λ y. y ∷ drop (i + 1) rs) (sym is)

module _ (a : Lot) (rs : List Lot) (i q : ℕ) (fits : AllByRecursion Fits rs) where
  -- closing from an index on: at the end of the table, at a lot that is not opposite, at one that is not used up
  pub part_end : length rs ≤ i → closing a q (drop i rs) ≡ untouched q (drop i rs)
  part_end h = let e = drop_all i rs h in subst (λ (xs : List Lot). closing a q xs ≡ untouched q xs) (sym e) refl

  pub part_none : (l : Lot) → i < length rs → l ≡ get_or rs i no_lot → InLine lot_place rs → OneSided rs → AllByRecursion (λ k. ahead (lot_place k) (first_place a.member a.contract) ≡ false) (drop i rs) → opposes a l ≡ false → closing a q (drop i rs) ≡ untouched q (drop i rs)
  part_none l lt is li si be nay =
      let d = from_here rs i l lt is in
      let f' = subst (λ (xs : List Lot). AllByRecursion Fits xs) d (All-drop Fits i rs fits) in
      let li' = subst (λ (xs : List Lot). InLine lot_place xs) d (in_line_drop lot_place i rs li) in
      let si' = subst (λ (xs : List Lot). OneSided xs) d (sided_drop i rs si) in
      let be' = subst (λ (xs : List Lot). AllByRecursion (λ k. ahead (lot_place k) (first_place a.member a.contract) ≡ false) xs) d be in
      let none = none_opposes a l (drop (i + 1) rs) f'.0 li' si' be'.0 nay in
      closing_none a q (drop i rs) (All-drop Fits i rs fits) (subst (λ (xs : List Lot). AllByRecursion (λ k. opposes a k ≡ false) xs) (sym d) none)

  pub part_some : (l : Lot) → i < length rs → l ≡ get_or rs i no_lot → opposes a l ≡ true → q < l.quantity → closing a q (drop i rs) ≡ record { lots = with_quantity l (l.quantity - q) ∷ drop (i + 1) rs; left = 0; earned = earns a.side q a.price l.price }
  part_some l lt is o h =
      ap (closing a q) (from_here rs i l lt is) ∙ step_part a q l (drop (i + 1) rs) o h (All-drop Fits (i + 1) rs fits)

-- what stands behind the spot of the first place, and before it
pub behind_from : (m c : ℕ) (rs : List Lot) (from u : ℕ) → InLine lot_place rs → from ≡ spot lot_place (first_place m c) rs → from ≤ u → AllByRecursion (λ l. ahead (lot_place l) (first_place m c) ≡ false) (drop u rs)
behind_from m c rs from u li is le =
    let P : Lot → Type 0 = λ l. ahead (lot_place l) (first_place m c) ≡ false in
    let b : AllByRecursion P (drop from rs) = subst (λ (n : ℕ). AllByRecursion P (drop n rs)) (sym is) (spot_behind lot_place (first_place m c) rs li) in
    let e : from + (u - from) ≡ u = omega arith in
    subst (λ (xs : List Lot). AllByRecursion P xs) (drop-drop (u - from) from rs ∙ ap (λ n. drop n rs) e) (All-drop P (u - from) (drop from rs) b)

pub front_from : (m c : ℕ) (rs : List Lot) (from : ℕ) → from ≡ spot lot_place (first_place m c) rs → AllByRecursion (λ l. held_by m c l ≡ false) (take from rs)
front_from m c rs from is =
    subst (λ (n : ℕ). AllByRecursion (λ l. held_by m c l ≡ false) (take n rs)) (sym is)
    (All-weaker (λ l. ahead (lot_place l) (first_place m c) ≡ true) (λ l. held_by m c l ≡ false) (front_not m c) (take (spot lot_place (first_place m c) rs) rs) (spot_before lot_place (first_place m c) rs))

-- the run's lots are used up to an index, and closing goes on from there
pub closed_all : (a : Lot) (rs rs' rs'' : List Lot) (from u q left : ℕ) (g : ℤ) → AllByRecursion Fits rs → from ≡ spot lot_place (first_place a.member a.contract) rs → from ≤ u → u ≤ length rs
    → closing a q (drop from rs) ≡ with_earned g (closing a left (drop u rs))
    → rs' ≡ take u rs ++ (closing a left (drop u rs)).lots
    → rs'' ≡ taken_out from u rs'
    → closing a q rs ≡ record { lots = rs''; left = (closing a left (drop u rs)).left; earned = g +ℤ (closing a left (drop u rs)).earned }
closed_all a rs rs' rs'' from u q left g fits is fu ul e1 e2 e3 =
    let r = closing a left (drop u rs) in
    let front : AllByRecursion (λ l. opposes a l ≡ false) (take from rs) = All-weaker (λ l. held_by a.member a.contract l ≡ false) (λ l. opposes a l ≡ false) (λ l h. and_left _ _ h) (take from rs) (front_from a.member a.contract rs from is) in
    let lu = length-take-le u rs ul in
    let le : from ≤ length (take u rs) = omega arith in
    let x : take from rs' ≡ take from rs = ap (take from) e2 ∙ take-append-le from (take u rs) r.lots le ∙ take-take from u rs fu in
    let y : drop u rs' ≡ r.lots = ap (drop u) e2 ∙ drop_at (take u rs) r.lots u lu in
    let w : rs'' ≡ take from rs ++ r.lots = e3 ∙ ap (λ xs. xs ++ drop u rs') x ∙ ap (λ xs. take from rs ++ xs) y in
    ap (closing a q) (sym (take-append-drop from rs))
    ∙ closing_front a q (take from rs) (drop from rs) (All-take Fits from rs fits) front
    ∙ ap (after (take from rs)) e1
    ∙ ap (λ xs. record { lots = xs; left = r.left; earned = g +ℤ r.earned }) (sym w)
