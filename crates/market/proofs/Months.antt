-- Which months a contract covers, and how they are parted among its parts.
use Rattle.std.proofs.Common.{◌≡◌, ℕ, zero, suc, ◌+◌, ◌*◌, ◌/◌, ◌<◌, ◌≤◌, true, ◌||◌, eqb, ap, ◌∙◌, arith}
use Rattle.std.proofs.lemmas.Bool.{true≢false, ltb-true, lt-ltb, leb-true, le-leb, and_parts, and_from}
use Rattle.std.proofs.lemmas.Bool.Decides.{nat_tests}
use Rattle.market.specs.declared.calendar.Contract.TheVariants.{Month, Quarter, Year}
use Rattle.market.specs.Calendar.{among, numbers_from}
use Rattle.market.specs.CalendarLaws.{stands_in, OneQuarter, OneYear, QuarterOfYear, CoversOwn, MonthsByParts, PartsWithin}

-- a number in a row is the first, or lies in the rest
first_or_rest : (first count n : ℕ) → among first (suc count) n ≡ (eqb first n || among (suc first) count n)
first_or_rest first count n = grind (arith, nat_tests)

-- the numbers of a row are those between its ends
among_row : (first count n : ℕ) → among first count n ≡ stands_in n (numbers_from first count)
among_row first zero n = grind (arith, nat_tests)
among_row first (suc count) n = first_or_rest first count n ∙ ap (λ b. eqb first n || b) (among_row (suc first) count n)

pub covers_own : CoversOwn
covers_own (Month m) month = among_row m 1 month
covers_own (Quarter q) month = among_row (3 * q) 3 month
covers_own (Year n) month = among_row (12 * n) 12 month

-- the two bounds of a row, from the test and back
pub among_bounds : (first count n : ℕ) → among first count n ≡ true → (first ≤ n) × (n < first + count)
among_bounds first count n h =
    let both = and_parts _ _ h in
    (leb-true first n both.0, ltb-true n (first + count) both.1)

pub bounds_among : (first count n : ℕ) → first ≤ n → n < first + count → among first count n ≡ true
bounds_among first count n low high = and_from _ _ (le-leb first n low) (lt-ltb n (first + count) high)

pub one_quarter : OneQuarter
one_quarter years month h =
    let below : month < 12 * years = ltb-true month (12 * years) h in
    record {
      own = lt-ltb (month / 3) (4 * years) (omega arith);
      covering = bounds_among (3 * (month / 3)) 3 month (omega arith) (omega arith);
      only = λ i e. let b : (3 * i ≤ month) × (month < 3 * i + 3) = among_bounds (3 * i) 3 month e in ap Quarter (omega arith);
    }

pub one_year : OneYear
one_year years month h =
    let below : month < 12 * years = ltb-true month (12 * years) h in
    record {
      own = lt-ltb (month / 12) years (omega arith);
      covering = bounds_among (12 * (month / 12)) 12 month (omega arith) (omega arith);
      only = λ i e. let b : (12 * i ≤ month) × (month < 12 * i + 12) = among_bounds (12 * i) 12 month e in ap Year (omega arith);
    }

pub quarter_of_year : QuarterOfYear
quarter_of_year quarter = ap Quarter (omega arith)

pub months_by_parts : MonthsByParts
months_by_parts (Month m) h = absurd (true≢false h)
months_by_parts (Quarter q) h =
    let first : 3 * q ≡ 3 * q + 0 = omega arith in
    let second : suc (3 * q) ≡ 3 * q + 1 = omega arith in
    let third : suc (suc (3 * q)) ≡ 3 * q + 2 = omega arith in
    cc
months_by_parts (Year n) h =
    let first : 12 * n ≡ 3 * (4 * n + 0) = omega arith in
    let second : suc (suc (suc (12 * n))) ≡ 3 * (4 * n + 1) = omega arith in
    let third : suc (suc (suc (suc (suc (suc (12 * n)))))) ≡ 3 * (4 * n + 2) = omega arith in
    let fourth : suc (suc (suc (suc (suc (suc (suc (suc (suc (12 * n))))))))) ≡ 3 * (4 * n + 3) = omega arith in
    cc

pub parts_within : PartsWithin
parts_within years k (Month m) h less = h
parts_within years k (Quarter q) h less = lt-ltb (3 * q + k) (12 * years) (omega (arith, ltb-true q (4 * years) h))
parts_within years k (Year n) h less = lt-ltb (4 * n + k) (4 * years) (omega (arith, ltb-true n years h))
