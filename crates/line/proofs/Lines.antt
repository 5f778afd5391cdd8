-- Lines of records: what stands where, and which changes keep a line.
use Rattle.std.proofs.Common.{◌≡◌, ℕ, zero, suc, ◌+◌, ◌<◌, ◌≤◌, Bool, true, false, cond, ◌&&◌, List, [], ◌∷◌, ◌++◌, map, length, get_or, take, drop, set, filter, sym, refl, ap, ◌∙◌, ⊎_elim, arith}
use Rattle.std.specs.List.{AllByRecursion}
use Rattle.std.proofs.lemmas.Bool.{cases_Bool, both_ways, and_parts, and_from}
use Rattle.std.proofs.ByRecursion.{All-get_or, All-weaker, all_kept_by, All-append, All-take, All-drop}
use Rattle.line.specs.Places.{Rank, ahead}
use Rattle.line.specs.Lines.{each, before_all, in_line, spot, Free, entered, taken_out, lies_between}
use Rattle.line.proofs.Order.{ahead_never, ahead_onward, ahead_apart, ahead_past}

-- a line, as a fact about each record in place of a test
abbrev pub InLine : {X : Type 0} → (X → List Rank) → List X → Type 0
InLine place [] = Unit {0}
InLine place (x ∷ xs) = AllByRecursion (λ y. ahead (place x) (place y) ≡ true) xs × InLine place xs

-- a test of each, as a fact about each record, and back
pub each_opened : {X : Type 0} (test : X → Bool) (xs : List X) → each test xs ≡ true → AllByRecursion (λ x. test x ≡ true) xs
each_opened test [] h = tt
each_opened test (x ∷ xs) h = let b = and_parts _ _ h in (b.0, each_opened test xs b.1)

pub each_shut : {X : Type 0} (test : X → Bool) (xs : List X) → AllByRecursion (λ x. test x ≡ true) xs → each test xs ≡ true
each_shut test [] h = refl
each_shut test (x ∷ xs) h = and_from _ _ h.0 (each_shut test xs h.1)

drop_none : {X : Type 0} (n : ℕ) → drop {A = X} n [] ≡ []
drop_none zero = refl
drop_none (suc n) = refl

none_kept : {X : Type 0} (test : X → Bool) (xs : List X) → AllByRecursion (λ x. test x ≡ false) xs → filter test xs ≡ []
none_kept test [] a = refl
none_kept test (x ∷ xs) a = rw a.0 (none_kept test xs a.1)

module _ {X : Type 0} (place : X → List Rank) where
  all_opened : (x : X) (xs : List X) → before_all place x xs ≡ true → AllByRecursion (λ y. ahead (place x) (place y) ≡ true) xs
  all_opened x [] h = tt
  all_opened x (y ∷ ys) h = let b = and_parts _ _ h in (b.0, all_opened x ys b.1)

  all_shut : (x : X) (xs : List X) → AllByRecursion (λ y. ahead (place x) (place y) ≡ true) xs → before_all place x xs ≡ true
  all_shut x [] h = refl
  all_shut x (y ∷ ys) h = and_from _ _ h.0 (all_shut x ys h.1)

  -- from the test to the fact, and back
  pub opened : (xs : List X) → in_line place xs ≡ true → InLine place xs
  opened [] h = tt
  opened (x ∷ xs) h = let b = and_parts _ _ h in (all_opened x xs b.0, opened xs b.1)

  pub shut : (xs : List X) → InLine place xs → in_line place xs ≡ true
  shut [] h = refl
  shut (x ∷ xs) h = and_from _ _ (all_shut x xs h.0) (shut xs h.1)

  -- of two records in line the one at the lower index is ahead
  pub in_line_at : (xs : List X) (i j : ℕ) (d : X) → InLine place xs → i < j → j < length xs → ahead (place (get_or xs i d)) (place (get_or xs j d)) ≡ true
  in_line_at [] i j d h a b = absurd (omega arith)
  in_line_at (x ∷ xs) zero zero d h a b = absurd (omega arith)
  in_line_at (x ∷ xs) zero (suc j) d h a b = All-get_or (λ y. ahead (place x) (place y) ≡ true) xs j d (omega arith) h.0
  in_line_at (x ∷ xs) (suc i) zero d h a b = absurd (omega arith)
  in_line_at (x ∷ xs) (suc i) (suc j) d h a b = in_line_at xs i j d h.1 (omega arith) (omega arith)

  -- behind a record that is not ahead of a place none is
  not_behind : (p : List Rank) (x : X) (xs : List X) → ahead (place x) p ≡ false → AllByRecursion (λ y. ahead (place x) (place y) ≡ true) xs → AllByRecursion (λ y. ahead (place y) p ≡ false) xs
  not_behind p x xs e a =
      All-weaker (λ y. ahead (place x) (place y) ≡ true) (λ y. ahead (place y) p ≡ false)
      (λ y k. ⊎_elim (λ m. absurd (both_ways (ahead (place x) p) e (ahead_onward (place x) (place y) p k m))) (λ m. m) (cases_Bool (ahead (place y) p)))
      xs a

  -- the spot of a place: how it is known, its bound, and what stands before and behind it
  pub spot_is : (p : List Rank) (xs : List X) (r : ℕ) → r ≤ length xs → ((k : ℕ) (d : X) → k < r → ahead (place (get_or xs k d)) p ≡ true) → ((d : X) → r < length xs → ahead (place (get_or xs r d)) p ≡ false) → r ≡ spot place p xs
  spot_is p [] r h a b = omega arith
  spot_is p (x ∷ xs) zero h a b = rw (b x (omega arith))
  spot_is p (x ∷ xs) (suc r) h a b = rw (a 0 x (omega arith)) (ap suc (spot_is p xs r (omega arith) (λ k d l. a (suc k) d (omega arith)) (λ d l. b d (omega arith))))

  pub spot_within : (p : List Rank) (xs : List X) → spot place p xs ≤ length xs
  spot_within p [] = omega arith
  spot_within p (x ∷ xs) = elim (ahead (place x) p) as (λ v. cond v (suc (spot place p xs)) 0 ≤ suc (length xs)) [ true ↦ (let h = spot_within p xs in omega arith) | false ↦ omega arith ]

  pub spot_before : (p : List Rank) (xs : List X) → AllByRecursion (λ x. ahead (place x) p ≡ true) (take (spot place p xs) xs)
  spot_before p [] = tt
  spot_before p (x ∷ xs) = ⊎_elim (λ e. rw e (e, spot_before p xs)) (λ e. rw e tt) (cases_Bool (ahead (place x) p))

  pub spot_behind : (p : List Rank) (xs : List X) → InLine place xs → AllByRecursion (λ x. ahead (place x) p ≡ false) (drop (spot place p xs) xs)
  spot_behind p [] h = tt
  spot_behind p (x ∷ xs) h =
      ⊎_elim (λ e. rw e (spot_behind p xs h.1)) (λ e. rw e (e, not_behind p x xs e h.0)) (cases_Bool (ahead (place x) p))

  pub spot_there : (p : List Rank) (xs : List X) (d : X) → spot place p xs < length xs → ahead (place (get_or xs (spot place p xs) d)) p ≡ false
  spot_there p [] d l = absurd (omega arith)
  spot_there p (x ∷ xs) d l =
      ⊎_elim
      (λ e. rw e (spot_there p xs d (let f : suc (spot place p xs) < suc (length xs) = rw e at l in omega arith)))
      (λ e. rw e e)
      (cases_Bool (ahead (place x) p))

  -- a place that is not ahead of another has no lower spot
  pub spot_order : (p q : List Rank) (xs : List X) → ahead q p ≡ false → spot place p xs ≤ spot place q xs
  spot_order p q [] h = omega arith
  spot_order p q (x ∷ xs) h =
      ⊎_elim
      (λ e. let f = ahead_past (place x) p q e h in let t = spot_order p q xs h in rw (e, f) (omega arith))
      (λ e. rw e (omega arith))
      (cases_Bool (ahead (place x) p))

  spot_none : (p : List Rank) (xs : List X) → AllByRecursion (λ y. ahead (place y) p ≡ false) xs → spot place p xs ≡ 0
  spot_none p [] a = refl
  spot_none p (x ∷ xs) a = rw a.0

  -- from the spot of one place up to that of another lie the records between the two
  abbrev RunIs : List Rank → List Rank → List X → Type 0
  RunIs p q xs = drop (spot place p xs) (take (spot place q xs) xs) ≡ filter (lies_between place p q) xs

  spot_more : (p : List Rank) (x : X) (xs : List X) → ahead (place x) p ≡ true → spot place p (x ∷ xs) ≡ suc (spot place p xs)
  spot_more p x xs e = rw e

  kept_not : (test : X → Bool) (x : X) (xs : List X) → test x ≡ false → filter test (x ∷ xs) ≡ filter test xs
  kept_not test x xs e = rw e

  kept_too : (test : X → Bool) (x : X) (xs : List X) → test x ≡ true → filter test (x ∷ xs) ≡ x ∷ filter test xs
  kept_too test x xs e = rw e

  run_on : (p q : List Rank) (x : X) (xs : List X) → InLine place (x ∷ xs) → ahead (place x) q ≡ true → RunIs p q xs → RunIs p q (x ∷ xs)
  run_on p q x xs h f r =
      ap (λ (n : ℕ). drop (spot place p (x ∷ xs)) (take n (x ∷ xs))) (spot_more q x xs f)
      ∙ ⊎_elim
      (λ e. ap (λ (n : ℕ). drop n (x ∷ take (spot place q xs) xs)) (spot_more p x xs e) ∙ r ∙ sym (kept_not (lies_between place p q) x xs (rw e)))
      (λ e.
      let all = not_behind p x xs e h.0 in
      ap (λ (n : ℕ). drop n (x ∷ take (spot place q xs) xs)) (spot_none p (x ∷ xs) (e, all))
      ∙ ap (λ l. x ∷ l) (ap (λ (n : ℕ). drop n (take (spot place q xs) xs)) (sym (spot_none p xs all)) ∙ r)
      ∙ sym (kept_too (lies_between place p q) x xs (rw e f)))
      (cases_Bool (ahead (place x) p))

  not_between : (p q : List Rank) (y : X) → ahead (place y) q ≡ false → lies_between place p q y ≡ false
  not_between p q y k = ⊎_elim (λ m. rw m) (λ m. rw m k) (cases_Bool (ahead (place y) p))

  run_over : (p q : List Rank) (x : X) (xs : List X) → InLine place (x ∷ xs) → ahead (place x) q ≡ false → RunIs p q (x ∷ xs)
  run_over p q x xs h f =
      let none = All-weaker (λ y. ahead (place y) q ≡ false) (λ y. lies_between place p q y ≡ false) (not_between p q) (x ∷ xs) (f, not_behind q x xs f h.0) in
      let z = spot_none q (x ∷ xs) (f, not_behind q x xs f h.0) in
      ap (λ (n : ℕ). drop (spot place p (x ∷ xs)) (take n (x ∷ xs))) z ∙ drop_none (spot place p (x ∷ xs)) ∙ sym (none_kept (lies_between place p q) (x ∷ xs) none)

  pub run_is : (p q : List Rank) (xs : List X) → InLine place xs → RunIs p q xs
  run_is p q [] h = refl
  run_is p q (x ∷ xs) h = ⊎_elim (λ f. run_on p q x xs h f (run_is p q xs h.1)) (run_over p q x xs h) (cases_Bool (ahead (place x) q))

  -- a record that enters
  pub entered_at : (x : X) (xs : List X) → entered place x xs ≡ take (spot place (place x) xs) xs ++ x ∷ drop (spot place (place x) xs) xs
  entered_at x [] = refl
  entered_at x (y ∷ ys) =
      elim (ahead (place y) (place x)) as (λ v. cond v (y ∷ entered place x ys) (x ∷ y ∷ ys) ≡ take (cond v (suc (spot place (place x) ys)) 0) (y ∷ ys) ++ x ∷ drop (cond v (suc (spot place (place x) ys)) 0) (y ∷ ys))
      [ true ↦ ap (λ zs. y ∷ zs) (entered_at x ys) | false ↦ refl ]

  pub length_entered : (x : X) (xs : List X) → length (entered place x xs) ≡ length xs + 1
  length_entered x [] = refl
  length_entered x (y ∷ ys) =
      elim (ahead (place y) (place x)) as (λ v. length (cond v (y ∷ entered place x ys) (x ∷ y ∷ ys)) ≡ suc (length ys) + 1) [ true ↦ (let h = length_entered x ys in omega arith) | false ↦ omega arith ]

  pub all_entered : (P : X → Type 0) (x : X) (xs : List X) → P x → AllByRecursion P xs → AllByRecursion P (entered place x xs)
  all_entered P x [] h a = (h, a)
  all_entered P x (y ∷ ys) h a =
      elim (ahead (place y) (place x)) as (λ v. AllByRecursion P (cond v (y ∷ entered place x ys) (x ∷ y ∷ ys))) [ true ↦ (a.0, all_entered P x ys h a.1) | false ↦ (h, a) ]

  pub in_line_entered : (x : X) (xs : List X) → InLine place xs → Free place x xs → InLine place (entered place x xs)
  in_line_entered x [] h f = (tt, tt)
  in_line_entered x (y ∷ ys) h f =
      ⊎_elim
      (λ e. rw e (all_entered (λ z. ahead (place y) (place z) ≡ true) x ys e h.0, in_line_entered x ys h.1 f.1))
      (λ e.
      let first : ahead (place x) (place y) ≡ true = ⊎_elim (λ k. k) (λ k. absurd (f.0 (ahead_apart (place y) (place x) e k))) (cases_Bool (ahead (place x) (place y))) in
      rw e ((first, All-weaker (λ z. ahead (place y) (place z) ≡ true) (λ z. ahead (place x) (place z) ≡ true) (λ z k. ahead_onward (place x) (place y) (place z) first k) ys h.0), h))
      (cases_Bool (ahead (place y) (place x)))

  -- records that leave
  pub in_line_kept : (test : X → Bool) (xs : List X) → InLine place xs → InLine place (filter test xs)
  in_line_kept test [] h = tt
  in_line_kept test (x ∷ xs) h =
      elim (test x) as (λ v. InLine place (cond v (x ∷ filter test xs) (filter test xs))) [ true ↦ (all_kept_by test (λ y. ahead (place x) (place y) ≡ true) xs h.0, in_line_kept test xs h.1) | false ↦ in_line_kept test xs h.1 ]

  pub in_line_drop : (n : ℕ) (xs : List X) → InLine place xs → InLine place (drop n xs)
  in_line_drop zero xs h = h
  in_line_drop (suc n) [] h = tt
  in_line_drop (suc n) (x ∷ xs) h = in_line_drop n xs h.1

  pub all_taken_out : (P : X → Type 0) (from to : ℕ) (xs : List X) → AllByRecursion P xs → AllByRecursion P (taken_out from to xs)
  all_taken_out P from to xs a = All-append P (take from xs) (drop to xs) (All-take P from xs a) (All-drop P to xs a)

  pub in_line_taken_out : (from to : ℕ) (xs : List X) → from ≤ to → InLine place xs → InLine place (taken_out from to xs)
  in_line_taken_out zero to xs l h = in_line_drop to xs h
  in_line_taken_out (suc from) zero xs l h = absurd (omega arith)
  in_line_taken_out (suc from) (suc to) [] l h = h
  in_line_taken_out (suc from) (suc to) (x ∷ xs) l h = (all_taken_out (λ y. ahead (place x) (place y) ≡ true) from to xs h.0, in_line_taken_out from to xs (omega arith) h.1)

  -- a record written over one of its place: a line goes by the places alone
  before_places : (x : X) (xs : List X) → before_all place x xs ≡ before_all (λ p. p) (place x) (map place xs)
  before_places x [] = refl
  before_places x (y ∷ ys) = ap (λ b. ahead (place x) (place y) && b) (before_places x ys)

  line_places : (xs : List X) → in_line place xs ≡ in_line (λ p. p) (map place xs)
  line_places [] = refl
  line_places (x ∷ xs) = let a = before_places x xs in let b = line_places xs in cc

  places_set : (xs : List X) (i : ℕ) (x d : X) → i < length xs → place x ≡ place (get_or xs i d) → map place (set xs i x) ≡ map place xs
  places_set [] i x d l h = refl
  places_set (y ∷ ys) zero x d l h = ap (λ p. p ∷ map place ys) h
  places_set (y ∷ ys) (suc i) x d l h = ap (λ ps. place y ∷ ps) (places_set ys i x d (omega arith) h)

  pub in_line_set : (xs : List X) (i : ℕ) (x d : X) → i < length xs → place x ≡ place (get_or xs i d) → in_line place (set xs i x) ≡ in_line place xs
  in_line_set xs i x d l h = line_places (set xs i x) ∙ ap (in_line (λ p. p)) (places_set xs i x d l h) ∙ sym (line_places xs)

  -- at the spot of x stands nothing, or a record after x: then its place is free; or one of its place
  pub free_end : (x : X) (xs : List X) → spot place (place x) xs ≡ length xs → Free place x xs
  free_end x [] h = tt
  free_end x (y ∷ ys) h =
      ⊎_elim
      (λ e. ((λ s. both_ways (ahead (place y) (place x)) (rw s (ahead_never (place x))) e), free_end x ys (let f : suc (spot place (place x) ys) ≡ suc (length ys) = rw e at h in omega arith)))
      (λ e. absurd (let f : 0 ≡ suc (length ys) = rw e at h in omega arith))
      (cases_Bool (ahead (place y) (place x)))

  pub free_here : (x : X) (xs : List X) (d : X) → InLine place xs → spot place (place x) xs < length xs → ahead (place x) (place (get_or xs (spot place (place x) xs) d)) ≡ true → Free place x xs
  free_here x [] d h l a = tt
  free_here x (y ∷ ys) d h l a =
      ⊎_elim
      (λ e. (
        (λ s. both_ways (ahead (place y) (place x)) (rw s (ahead_never (place x))) e),
        free_here x ys d h.1 (let f : suc (spot place (place x) ys) < suc (length ys) = rw e at l in omega arith) (rw e at a),
      ))
      (λ e.
      let b : ahead (place x) (place y) ≡ true = rw e at a in (
        (λ s. both_ways (ahead (place x) (place y)) (rw s (ahead_never (place x))) b),
        All-weaker (λ z. ahead (place y) (place z) ≡ true) (λ z. place z ≡ place x → ⊥) (λ z k s. both_ways (ahead (place x) (place z)) (rw s (ahead_never (place x))) (ahead_onward (place x) (place y) (place z) b k)) ys h.0,
      ))
      (cases_Bool (ahead (place y) (place x)))

  pub taken_here : (x : X) (xs : List X) (d : X) → spot place (place x) xs < length xs → ahead (place x) (place (get_or xs (spot place (place x) xs) d)) ≡ false → Free place x xs → ⊥
  taken_here x xs d l a f =
      All-get_or (λ y. place y ≡ place x → ⊥) xs (spot place (place x) xs) d l f (ahead_apart _ _ (spot_there (place x) xs d l) a)
