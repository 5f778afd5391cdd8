-- Which numbers name a contract, and that they are the contracts' own.
use Rattle.std.proofs.Common.{◌≡◌, ℕ, ◌+◌, ◌-◌, ◌*◌, ◌<◌, ◌≤◌, Bool, true, false, cond, ◌||◌, ◌⊎◌, is_some, Some, None, Option, refl, ap, ◌∙◌, subst, inl, inr, arith}
use Rattle.std.proofs.lemmas.Bool.{ltb-true, lt-ltb, le-ltb, lt-leb, and_left, and_right, cond-true, cond-false}
use Rattle.market.specs.declared.calendar.Contract.{Contract}
use Rattle.market.specs.declared.calendar.Contract.TheVariants.{Month, Quarter, Year}
use Rattle.market.specs.Calendar.{among, in_house, contract_number, contract_of}
use Rattle.market.specs.CalendarLaws.{NumbersNamed, NumbersOwn, NumbersBack, NumbersWithin, IndicesWithin}
use Rattle.market.proofs.Months.{among_bounds, bounds_among}

-- the first of three contracts whose test holds
abbrev first_that : Bool → Bool → Bool → Contract → Contract → Contract → Option Contract
first_that a b d x y z = cond a (Some x) (cond b (Some y) (cond d (Some z) None))

-- there is one exactly if a test holds
some_if : (a b d : Bool) (x y z : Contract) → is_some (first_that a b d x y z) ≡ (a || b || d)
some_if true b d x y z = refl
some_if false true d x y z = refl
some_if false false true x y z = refl
some_if false false false x y z = refl

pub numbers_named : NumbersNamed
unfolding contract_of
numbers_named years number = some_if (among 0 (12 * years) number) (among 100 (4 * years) number) (among 200 years number) (Month number) (Quarter (number - 100)) (Year (number - 200))

-- what is found is one of the three, and its test holds
found_is : (a b d : Bool) (x y z c : Contract) → first_that a b d x y z ≡ Some c → ((a ≡ true) × (x ≡ c)) ⊎ (((b ≡ true) × (y ≡ c)) ⊎ ((d ≡ true) × (z ≡ c)))
found_is true b d x y z c e = inl (refl, (cc))
found_is false true d x y z c e = inr (inl (refl, (cc)))
found_is false false true x y z c e = inr (inr (refl, (cc)))
found_is false false false x y z c e = let never : ◌≡◌ {A = ℕ} 0 1 = cc in absurd (omega arith)

-- a contract of the house, with its number
abbrev Own : ℕ → ℕ → Contract → Type 0
Own years number c = (in_house years c ≡ true) × (contract_number c ≡ number)

month_own : (years number : ℕ) → among 0 (12 * years) number ≡ true → Own years number (Month number)
month_own years number h =
    let b : (0 ≤ number) × (number < 0 + 12 * years) = among_bounds 0 (12 * years) number h in
    (lt-ltb number (12 * years) (omega arith), refl)

quarter_own : (years number : ℕ) → among 100 (4 * years) number ≡ true → Own years number (Quarter (number - 100))
quarter_own years number h =
    let b : (100 ≤ number) × (number < 100 + 4 * years) = among_bounds 100 (4 * years) number h in
    (lt-ltb (number - 100) (4 * years) (omega arith), omega arith)

year_own : (years number : ℕ) → among 200 years number ≡ true → Own years number (Year (number - 200))
year_own years number h =
    let b : (200 ≤ number) × (number < 200 + years) = among_bounds 200 years number h in
    (lt-ltb (number - 200) years (omega arith), omega arith)

pub numbers_own : NumbersOwn
unfolding contract_of
numbers_own years number c e =
    elim (found_is (among 0 (12 * years) number) (among 100 (4 * years) number) (among 200 years number) (Month number) (Quarter (number - 100)) (Year (number - 200)) c e) [
      | inl w ↦ subst (Own years number) w.1 (month_own years number w.0)
      | inr v ↦ elim v [
        | inl w ↦ subst (Own years number) w.1 (quarter_own years number w.0)
        | inr w ↦ subst (Own years number) w.1 (year_own years number w.0)
      ]
    ]

-- a number outside a row
below_row : (first count n : ℕ) → n < first → among first count n ≡ false
below_row first count n h = and_left _ _ (lt-leb first n h)

above_row : (first count n : ℕ) → first + count ≤ n → among first count n ≡ false
above_row first count n h = and_right _ _ (le-ltb n (first + count) h)

pub numbers_back : NumbersBack
unfolding contract_of
numbers_back years (Month m) house h =
    let less : m < 12 * years = ltb-true m (12 * years) h in
    cond-true _ _ _ (bounds_among 0 (12 * years) m (omega arith) (omega arith))
numbers_back years (Quarter q) house h =
    let less : q < 4 * years = ltb-true q (4 * years) h in
    let back : 100 + q - 100 ≡ q = omega arith in
    cond-false _ _ _ (above_row 0 (12 * years) (100 + q) (omega arith))
    ∙ cond-true _ _ _ (bounds_among 100 (4 * years) (100 + q) (omega arith) (omega arith))
    ∙ ap (λ (k : ℕ). Some (Quarter k)) back
numbers_back years (Year n) house h =
    let less : n < years = ltb-true n years h in
    let back : 200 + n - 200 ≡ n = omega arith in
    cond-false _ _ _ (above_row 0 (12 * years) (200 + n) (omega arith))
    ∙ cond-false _ _ _ (above_row 100 (4 * years) (200 + n) (omega arith))
    ∙ cond-true _ _ _ (bounds_among 200 years (200 + n) (omega arith) (omega arith))
    ∙ ap (λ (k : ℕ). Some (Year k)) back

pub numbers_within : NumbersWithin
numbers_within years (Month m) house h = omega (arith, ltb-true m (12 * years) h)
numbers_within years (Quarter q) house h = omega (arith, ltb-true q (4 * years) h)
numbers_within years (Year n) house h = omega (arith, ltb-true n years h)

pub indices_within : IndicesWithin
indices_within years (Month m) house h = omega (arith, ltb-true m (12 * years) h)
indices_within years (Quarter q) house h = omega (arith, ltb-true q (4 * years) h)
indices_within years (Year n) house h = omega (arith, ltb-true n years h)
