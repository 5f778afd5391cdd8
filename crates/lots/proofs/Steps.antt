-- How closing goes over a list of lots, one at a time.
use Rattle.std.proofs.Common.{◌≡◌, ℕ, ◌+◌, ◌-◌, ◌<◌, ◌≤◌, true, false, List, [], ◌∷◌, ◌++◌, length, get_or, drop, ℤ, pos, ◌+ℤ◌, sym, refl, ap, ◌∙◌, arith}
use borrow.Author.Differences.{ints}
use Rattle.std.specs.List.{AllByRecursion}
use Rattle.std.proofs.lemmas.Bool.{ne_eqb, cond-true, cond-false}
use Rattle.std.proofs.lemmas.List.{drop_more}
use Rattle.market.specs.Records.{no_lot}
use Rattle.market.specs.declared.records.Side.{Side}
use Rattle.market.specs.declared.records.Side.TheVariants.{Free, Buy, Sell}
use Rattle.market.specs.declared.records.Lot.{Lot}
use Rattle.lots.specs.Lots.{opposes}
use Rattle.lots.specs.Closing.{with_quantity, closes, earns, Closed, staying, closed_first, closing, with_earned}
use Rattle.lots.proofs.Fits.{Fits}

-- a lot that stays as it is, in front of what closing led to
abbrev pub passed : Lot → Closed → Closed
passed l r = record { lots = l ∷ r.lots; left = r.left; earned = r.earned }

-- nothing is closed
abbrev pub untouched : ℕ → List Lot → Closed
untouched q ls = record { lots = ls; left = q; earned = pos 0 }

-- lots that stay as they are, in front of what closing led to
abbrev pub after : List Lot → Closed → Closed
after fs r = record { lots = fs ++ r.lots; left = r.left; earned = r.earned }

staying_none : (l : Lot) (n : ℕ) (ls : List Lot) → n ≡ 0 → staying l n ls ≡ ls
staying_none l n ls e = ap (λ k. staying l k ls) e

staying_some : (l : Lot) (n : ℕ) (ls : List Lot) → 1 ≤ n → staying l n ls ≡ with_quantity l n ∷ ls
staying_some l n ls h = cond-false _ _ _ (ne_eqb n 0 (λ e. omega arith))

earns_nothing : (s : Side) (p old : ℕ) (g : ℤ) → earns s 0 p old +ℤ g ≡ g
earns_nothing Free p old g = omega (arith, ints)
earns_nothing Buy p old g = omega (arith, ints)
earns_nothing Sell p old g = omega (arith, ints)

pub earned_twice : (g h : ℤ) (r : Closed) → with_earned g (with_earned h r) ≡ with_earned (g +ℤ h) r
earned_twice g h r = let e : g +ℤ (h +ℤ r.earned) ≡ (g +ℤ h) +ℤ r.earned = omega (arith, ints) in ap (λ z. record { lots = r.lots; left = r.left; earned = z }) e

module _ (a : Lot) where
  -- a lot is used up whole, is not touched, or is closed in part
  pub step_whole : (q : ℕ) (l : Lot) (ls : List Lot) → opposes a l ≡ true → l.quantity ≤ q → closing a q (l ∷ ls) ≡ with_earned (earns a.side l.quantity a.price l.price) (closing a (q - l.quantity) ls)
  step_whole q l ls o le =
      let t : closes a q l ≡ l.quantity = cond-true _ _ _ o ∙ omega arith in
      let r = closing a (q - l.quantity) ls in
      let k = staying_none l (l.quantity - l.quantity) r.lots (omega arith) in
      ap (λ n. closed_first a l n (closing a (q - n) ls)) t ∙ ap (λ xs. record { lots = xs; left = r.left; earned = earns a.side l.quantity a.price l.price +ℤ r.earned }) k

  pub step_none : (q : ℕ) (l : Lot) (ls : List Lot) → closes a q l ≡ 0 → 1 ≤ l.quantity → closing a q (l ∷ ls) ≡ passed l (closing a q ls)
  step_none q l ls t h =
      let e : q - 0 ≡ q = omega arith in
      let d : l.quantity - 0 ≡ l.quantity = omega arith in
      let r = closing a q ls in
      let k : staying l (l.quantity - 0) r.lots ≡ l ∷ r.lots = ap (λ n. staying l n r.lots) d ∙ staying_some l l.quantity r.lots h in
      let z = earns_nothing a.side a.price l.price r.earned in
      ap (λ n. closed_first a l n (closing a (q - n) ls)) t
      ∙ ap (λ n. closed_first a l 0 (closing a n ls)) e
      ∙ ap (λ xs. record { lots = xs; left = r.left; earned = earns a.side 0 a.price l.price +ℤ r.earned }) k
      ∙ ap (λ g. record { lots = l ∷ r.lots; left = r.left; earned = g }) z

  pub closing_zero : (ls : List Lot) → AllByRecursion Fits ls → closing a 0 ls ≡ untouched 0 ls
  closing_zero [] h = refl
  closing_zero (l ∷ ls) h =
      let t : closes a 0 l ≡ 0 = grind arith in
      step_none 0 l ls t h.0.some ∙ ap (passed l) (closing_zero ls h.1)

  pub closing_none : (q : ℕ) (ls : List Lot) → AllByRecursion Fits ls → AllByRecursion (λ l. opposes a l ≡ false) ls → closing a q ls ≡ untouched q ls
  closing_none q [] h o = refl
  closing_none q (l ∷ ls) h o =
      step_none q l ls (cond-false _ _ _ o.0) h.0.some ∙ ap (passed l) (closing_none q ls h.1 o.1)

  pub closing_front : (q : ℕ) (fs ls : List Lot) → AllByRecursion Fits fs → AllByRecursion (λ l. opposes a l ≡ false) fs → closing a q (fs ++ ls) ≡ after fs (closing a q ls)
  closing_front q [] ls h o = refl
  closing_front q (f ∷ fs) ls h o =
      step_none q f (fs ++ ls) (cond-false _ _ _ o.0) h.0.some ∙ ap (passed f) (closing_front q fs ls h.1 o.1)

  pub step_part : (q : ℕ) (l : Lot) (ls : List Lot) → opposes a l ≡ true → q < l.quantity → AllByRecursion Fits ls → closing a q (l ∷ ls) ≡ record { lots = with_quantity l (l.quantity - q) ∷ ls; left = 0; earned = earns a.side q a.price l.price }
  step_part q l ls o lt h =
      let t : closes a q l ≡ q = cond-true _ _ _ o ∙ omega arith in
      let e : q - q ≡ 0 = omega arith in
      let z : earns a.side q a.price l.price +ℤ pos 0 ≡ earns a.side q a.price l.price = omega (arith, ints) in
      ap (λ n. closed_first a l n (closing a (q - n) ls)) t
      ∙ ap (λ n. closed_first a l q (closing a n ls)) e
      ∙ ap (closed_first a l q) (closing_zero ls h)
      ∙ ap (λ xs. record { lots = xs; left = 0; earned = earns a.side q a.price l.price +ℤ pos 0 }) (staying_some l (l.quantity - q) ls (omega arith))
      ∙ ap (λ g. record { lots = with_quantity l (l.quantity - q) ∷ ls; left = 0; earned = g }) z

  -- one more lot is used up whole
  pub whole_more : (x : Closed) (rs : List Lot) (i q : ℕ) (g h : ℤ) (l : Lot) → i < length rs → l ≡ get_or rs i no_lot → opposes a l ≡ true → l.quantity ≤ q → h ≡ earns a.side l.quantity a.price l.price
      → x ≡ with_earned g (closing a q (drop i rs)) → x ≡ with_earned (g +ℤ h) (closing a (q - l.quantity) (drop (i + 1) rs))
  whole_more x rs i q g h l lt is o le eh e =
      let d : drop i rs ≡ l ∷ drop (i + 1) rs = drop_more rs i no_lot lt ∙ ap (λ y. y ∷ drop (i + 1) rs) (sym is) in
      e ∙ ap (λ xs. with_earned g (closing a q xs)) d ∙ ap (with_earned g) (step_whole q l (drop (i + 1) rs) o le)
      ∙ earned_twice g (earns a.side l.quantity a.price l.price) (closing a (q - l.quantity) (drop (i + 1) rs))
      ∙ ap (λ z. with_earned (g +ℤ z) (closing a (q - l.quantity) (drop (i + 1) rs))) (sym eh)
