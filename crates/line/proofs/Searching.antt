-- What a search by halves in a line finds.
use Rattle.std.proofs.Common.{◌≡◌, ℕ, ◌<◌, ◌≤◌, Bool, true, false, List, length, get_or, Decides, sym, ap, ◌∙◌, subst, ⊎_elim, arith}
use Rattle.std.specs.List.Sorted.{IsPartitionedBy, IsPartitionPoint}
use Rattle.std.proofs.lemmas.Bool.{cases_Bool, cases_lt}
use Rattle.line.specs.Places.{Rank, ahead}
use Rattle.line.specs.Lines.{in_line, spot, Free}
use Rattle.line.proofs.Order.{ahead_onward}
use Rattle.line.proofs.Lines.{in_line_at, spot_is, opened, free_end, free_here, taken_here}

module _ {X : Type 0} (place : X → List Rank) (xs : List X) (p : List Rank) where
  -- in a line no record that is ahead of a place comes after one that is not
  pub parted : in_line place xs ≡ true → IsPartitionedBy (λ x. ahead (place x) p) xs
  parted line i j d le within here =
      ⊎_elim
      (λ l. ahead_onward (place (get_or xs i d)) (place (get_or xs j d)) p (in_line_at place xs i j d (opened place xs line) l within) here)
      (λ l. let same : j ≡ i = omega arith in subst (λ (k : ℕ). ahead (place (get_or xs k d)) p ≡ true) same here)
      (cases_lt i j)

  -- where they part is the spot
  pub parting_is_spot : (r : ℕ) → r ≤ length xs → IsPartitionPoint (λ y. ahead (place y) p ≡ true) (λ y. ahead (place y) p ≡ false) xs r → r ≡ spot place p xs
  parting_is_spot r le at = spot_is place p xs r le (λ k d l. at.0 k d (omega arith) l) (λ d l. at.1 r d (omega arith) l)

module _ {X : Type 0} (place : X → List Rank) (xs : List X) (x : X) (i : ℕ) (at : i ≡ spot place (place x) xs) where
  -- no record stands at the spot of x
  pub free_at_end : i ≡ length xs → Free place x xs
  free_at_end e = free_end place x xs (sym at ∙ e)

  -- the record at the spot of x decides
  pub free_decided : in_line place xs ≡ true → i < length xs → (y : X) → y ≡ get_or xs i y → (r : Bool) → r ≡ ahead (place x) (place y) → Decides r (Free place x xs)
  free_decided line lt y is r e =
      let within : spot place (place x) xs < length xs = omega arith in
      let here : get_or xs (spot place (place x) xs) y ≡ y = ap (λ (k : ℕ). get_or xs k y) (sym at) ∙ sym is in
      let test : ahead (place x) (place (get_or xs (spot place (place x) xs) y)) ≡ r = ap (λ z. ahead (place x) (place z)) here ∙ sym e in (
        (λ h. free_here place x xs y (opened place xs line) within (test ∙ h)),
        (λ f. ⊎_elim (λ h. h) (λ h. absurd (taken_here place x xs y within (test ∙ h) f)) (cases_Bool r)),
      )
