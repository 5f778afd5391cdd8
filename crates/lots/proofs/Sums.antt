-- Sums over the lots of a member in a contract go by its run alone.
use Rattle.std.proofs.Common.{◌≡◌, ℕ, ◌+◌, ◌<◌, ◌≤◌, true, false, List, [], ◌∷◌, ◌++◌, length, get_or, take, drop, ℤ, pos, ◌+ℤ◌, sym, refl, ap, ◌∙◌, subst, ⊎_elim, arith}
use borrow.Author.Differences.{ints}
use Rattle.std.specs.List.{AllByRecursion}
use Rattle.std.proofs.lemmas.Bool.{cases_Bool, both_ways}
use Rattle.std.proofs.lemmas.List.{drop_all, take-append-drop}
use Rattle.std.proofs.ByRecursion.{All-weaker}
use Rattle.line.specs.Places.{ahead}
use Rattle.line.specs.Lines.{spot}
use Rattle.line.proofs.Lines.{InLine, in_line_drop}
use Rattle.market.specs.Records.{no_lot}
use Rattle.market.specs.declared.records.Lot.{Lot}
use Rattle.market.specs.Places.{lot_place}
use Rattle.lots.specs.Lots.{first_place, held_by}
use Rattle.lots.specs.Sums.{counted, sum_of}
use Rattle.lots.proofs.Runs.{run_on, from_here, front_from, behind_from}

module _ (f : Lot → ℤ) (m c : ℕ) where
  pub sum_append : (xs ys : List Lot) → sum_of f m c (xs ++ ys) ≡ sum_of f m c xs +ℤ sum_of f m c ys
  sum_append [] ys = omega (arith, ints)
  sum_append (x ∷ xs) ys = omega (arith, ints, sum_append xs ys)

  pub sum_none : (ls : List Lot) → AllByRecursion (λ l. held_by m c l ≡ false) ls → sum_of f m c ls ≡ pos 0
  sum_none [] h = refl
  sum_none (l ∷ ls) h = ap (λ b. counted b (f l) +ℤ sum_of f m c ls) h.0 ∙ omega (arith, ints, sum_none ls h.1)

  -- the sum over the line is that from the run's first lot on
  pub sum_whole : (rs : List Lot) (from : ℕ) → from ≡ spot lot_place (first_place m c) rs → sum_of f m c rs ≡ sum_of f m c (drop from rs)
  sum_whole rs from is =
      let z = sum_none (take from rs) (front_from m c rs from is) in
      ap (sum_of f m c) (sym (take-append-drop from rs)) ∙ sum_append (take from rs) (drop from rs) ∙ omega (arith, ints)

  -- one lot of theirs, the end of the table, and the first lot behind the run
  pub sum_more : (rs : List Lot) (i : ℕ) (l : Lot) → i < length rs → l ≡ get_or rs i no_lot → held_by m c l ≡ true → sum_of f m c (drop i rs) ≡ f l +ℤ sum_of f m c (drop (i + 1) rs)
  sum_more rs i l lt is o = ap (sum_of f m c) (from_here rs i l lt is) ∙ ap (λ b. counted b (f l) +ℤ sum_of f m c (drop (i + 1) rs)) o

  pub sum_end : (rs : List Lot) (i : ℕ) → length rs ≤ i → sum_of f m c (drop i rs) ≡ pos 0
  sum_end rs i h = ap (sum_of f m c) (drop_all i rs h)

  pub sum_past : (rs : List Lot) (from i : ℕ) (l : Lot) → InLine lot_place rs → from ≡ spot lot_place (first_place m c) rs → from ≤ i → i < length rs → l ≡ get_or rs i no_lot → held_by m c l ≡ false → sum_of f m c (drop i rs) ≡ pos 0
  sum_past rs from i l li is le lt gl o =
      let d = from_here rs i l lt gl in
      let li' = subst (λ (xs : List Lot). InLine lot_place xs) d (in_line_drop lot_place i rs li) in
      let be = subst (λ (xs : List Lot). AllByRecursion (λ k. ahead (lot_place k) (first_place m c) ≡ false) xs) d (behind_from m c rs from i li is le) in
      ap (sum_of f m c) d ∙ sum_none (l ∷ drop (i + 1) rs)
      (o, All-weaker (λ k. ahead (lot_place l) (lot_place k) ≡ true) (λ k. held_by m c k ≡ false) (λ k h. ⊎_elim (λ t. absurd (both_ways (held_by m c l) o (run_on m c l k be.0 h t))) (λ t. t) (cases_Bool (held_by m c k))) (drop (i + 1) rs) li'.0)
