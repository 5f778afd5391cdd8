-- The gas days of a contract: over the range of its months, as the code adds them up, and part by part.
use Rattle.std.proofs.Common.{◌≡◌, ℕ, zero, suc, ◌+◌, ◌*◌, ◌≤◌, List, [], ◌∷◌, sum_by, sym, refl, ap, ◌∙◌, arith}
use Rattle.std.proofs.lemmas.Bool.Decides.{nat_tests}
use Rattle.std.proofs.lemmas.List.Sums.{sum_by-cons, sum_by-append}
use Rattle.std.specs.List.{range_with_len}
use Rattle.market.specs.declared.calendar.Contract.{Contract}
use Rattle.market.specs.declared.calendar.Contract.TheVariants.{Month, Quarter, Year}
use Rattle.market.specs.Calendar.{numbers_from, first_month, month_count, months_of, parts, month_days, gas_days}
use Rattle.market.specs.CalendarLaws.{months_of_all, DaysByParts, CalendarFigures}
use Rattle.market.proofs.Months.{months_by_parts}

-- a month has at most 31 days
month_days_at_most : (first_year m : ℕ) → month_days first_year m ≤ 31
month_days_at_most first_year m = grind (arith, nat_tests)

-- so have some months in a row
row_at_most : (first_year first count : ℕ) → sum_by (month_days first_year) (numbers_from first count) ≤ 31 * count
row_at_most first_year first zero = omega arith
row_at_most first_year first (suc count) =
    omega (arith, sum_by-cons (month_days first_year) first (numbers_from (suc first) count), month_days_at_most first_year first, row_at_most first_year (suc first) count)

count_at_most : (c : Contract) → month_count c ≤ 12
count_at_most (Month m) = omega arith
count_at_most (Quarter q) = omega arith
count_at_most (Year n) = omega arith

-- a contract has at most twelve months of 31 days
pub gas_days_at_most : (first_year : ℕ) (c : Contract) → gas_days first_year c ≤ 372
unfolding gas_days
gas_days_at_most first_year c = omega (arith, row_at_most first_year (first_month c) (month_count c), count_at_most c)

-- the numbers of a row are those of a range
row_is_range : (first count : ℕ) → numbers_from first count ≡ range_with_len first count
row_is_range first zero = refl
row_is_range first (suc count) =
    let next : suc first ≡ first + 1 = omega arith in
    ap (λ (ms : List ℕ). first ∷ ms) (row_is_range (suc first) count) ∙ ap (λ (m : ℕ). first ∷ range_with_len m count) next

-- the days of the range of a contract's months are its gas days
pub range_days : (first_year : ℕ) (c : Contract) (first count : ℕ) → first ≡ first_month c → count ≡ month_count c → sum_by (month_days first_year) (range_with_len first count) ≡ gas_days first_year c
unfolding gas_days
range_days first_year c first count e f =
    ap (sum_by (month_days first_year)) (sym (row_is_range first count) ∙ ap (numbers_from first) f ∙ ap (λ (m : ℕ). numbers_from m (month_count c)) e)

-- a sum over the months of some contracts is the sum of their sums
sum_by_contract : (g : ℕ → ℕ) (cs : List Contract) → sum_by g (months_of_all cs) ≡ sum_by (λ (c : Contract). sum_by g (months_of c)) cs
sum_by_contract g [] = refl
sum_by_contract g (c ∷ cs) =
    sum_by-append g (months_of c) (months_of_all cs)
    ∙ ap (λ (n : ℕ). sum_by g (months_of c) + n) (sum_by_contract g cs)
    ∙ sym (sum_by-cons (λ (d : Contract). sum_by g (months_of d)) c cs)

pub days_by_parts : DaysByParts
unfolding gas_days
days_by_parts first_year c h = ap (sum_by (month_days first_year)) (months_by_parts c h) ∙ sum_by_contract (month_days first_year) (parts c)

pub calendar_figures : CalendarFigures
unfolding gas_days
calendar_figures = record {
  february_2025 = refl;
  first_quarter_2025 = refl;
  year_2025 = refl;
  february_2028 = refl;
  first_quarter_2028 = refl;
  year_2028 = refl;
}
