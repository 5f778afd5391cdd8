-- Records in line, and what each change makes of a line, as lists.
-- place: the place that a record has; spot: where in the line a place belongs, counted from 0.
use Rattle.std.specs.Prelude.{ℕ, suc, Bool, true, false, cond, ◌&&◌, List, [], ◌∷◌, ◌++◌, take, drop, ◌≢◌}
use Rattle.std.specs.List.{AllByRecursion}
use Rattle.line.specs.Places.{Rank, ahead}

-- whether each of a list passes a test
abbrev pub each : {X : Type 0} → (X → Bool) → List X → Bool
each test [] = true
each test (x ∷ xs) = test x && each test xs

-- a record stands before all of a list
abbrev pub before_all : {X : Type 0} → (X → List Rank) → X → List X → Bool
before_all place x [] = true
before_all place x (y ∷ ys) = ahead (place x) (place y) && before_all place x ys

-- each record stands before all that follow it
abbrev pub in_line : {X : Type 0} → (X → List Rank) → List X → Bool
in_line place [] = true
in_line place (x ∷ xs) = before_all place x xs && in_line place xs

-- how many of the records at the front are ahead of a place
abbrev pub spot : {X : Type 0} → (X → List Rank) → List Rank → List X → ℕ
spot place p [] = 0
spot place p (x ∷ xs) = cond (ahead (place x) p) (suc (spot place p xs)) 0

-- no record has the place of x
abbrev pub Free : {X : Type 0} → (X → List Rank) → X → List X → Type 0
Free place x xs = AllByRecursion (λ y. place y ≢ place x) xs

-- the line with x put where it belongs
abbrev pub entered : {X : Type 0} → (X → List Rank) → X → List X → List X
entered place x [] = x ∷ []
entered place x (y ∷ ys) = cond (ahead (place y) (place x)) (y ∷ entered place x ys) (x ∷ y ∷ ys)

-- the list without its records from one index up to another
abbrev pub taken_out : {X : Type 0} → ℕ → ℕ → List X → List X
taken_out from to xs = take from xs ++ drop to xs

-- a record's place is not ahead of the first place given, and is ahead of the second
abbrev pub lies_between : {X : Type 0} → (X → List Rank) → List Rank → List Rank → X → Bool
lies_between place p q x = cond (ahead (place x) p) false (ahead (place x) q)
