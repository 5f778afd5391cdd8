-- The contracts of a house, the months that each covers, and their gas days.
-- A contract is a month, a quarter or a year, and holds its index, which counts from 0 at the house's first year.
-- number: what a script and a print call a contract. slot: its place in a member's row of results.
-- part: a quarter of a year, or a month of a quarter.
use Rattle.std.specs.Prelude.{ℕ, zero, suc, ◌+◌, ◌-◌, ◌*◌, ◌/◌, ◌%◌, min, Bool, true, false, cond, not, ◌&&◌, ◌||◌, List, [], ◌∷◌, map, Some, None, sum_by, Option, ◌==◌, nat_le, nat_lt}
use Rattle.market.specs.declared.calendar.Contract.{Contract}
use Rattle.market.specs.declared.calendar.Contract.TheVariants.{Month, Quarter, Year}

-- whether n is one of so many numbers from the first on
abbrev pub among : ℕ → ℕ → ℕ → Bool
among first count n = nat_le first n && nat_lt n (first + count)

-- that many numbers from the first on, in a row
abbrev pub numbers_from : ℕ → ℕ → List ℕ
numbers_from first zero = []
numbers_from first (suc count) = first ∷ numbers_from (suc first) count

-- where a contract stands among those of its kind
abbrev pub index : Contract → ℕ
index (Month m) = m
index (Quarter q) = q
index (Year n) = n

-- whether a contract is one of a house of this many years
abbrev pub in_house : ℕ → Contract → Bool
in_house years (Month m) = nat_lt m (12 * years)
in_house years (Quarter q) = nat_lt q (4 * years)
in_house years (Year n) = nat_lt n years

-- the number of a contract
abbrev pub contract_number : Contract → ℕ
contract_number (Month m) = m
contract_number (Quarter q) = 100 + q
contract_number (Year n) = 200 + n

-- the contract of a number, in a house of this many years
unfoldable pub contract_of : ℕ → ℕ → Option Contract
contract_of number years =
    cond (among 0 (12 * years) number) (Some (Month number))
    (cond (among 100 (4 * years) number) (Some (Quarter (number - 100)))
    (cond (among 200 years number) (Some (Year (number - 200))) None))

-- the slot of a contract, in a house of this many years: months first, then quarters, then years
abbrev pub slot : ℕ → Contract → ℕ
slot years (Month m) = m
slot years (Quarter q) = 12 * years + q
slot years (Year n) = 16 * years + n

-- the contract of a slot, in a house of this many years
unfoldable pub contract_at : ℕ → ℕ → Contract
contract_at years k = cond (nat_lt k (12 * years)) (Month k) (cond (nat_lt k (16 * years)) (Quarter (k - 12 * years)) (Year (k - 16 * years)))

-- the contracts of a house of this many years, by slot
unfoldable pub contracts_of : ℕ → List Contract
contracts_of years = map (contract_at years) (numbers_from 0 (17 * years))

-- whether a contract is a month
abbrev pub is_month : Contract → Bool
is_month (Month m) = true
is_month (Quarter q) = false
is_month (Year n) = false

-- the first month that a contract covers
abbrev pub first_month : Contract → ℕ
first_month (Month m) = m
first_month (Quarter q) = 3 * q
first_month (Year n) = 12 * n

-- how many months it covers
abbrev pub month_count : Contract → ℕ
month_count (Month m) = 1
month_count (Quarter q) = 3
month_count (Year n) = 12

-- the months that it covers
abbrev pub months_of : Contract → List ℕ
months_of c = numbers_from (first_month c) (month_count c)

-- whether it covers a month
abbrev pub covers : Contract → ℕ → Bool
covers c m = among (first_month c) (month_count c) m

-- how many parts a contract has
abbrev pub part_count : Contract → ℕ
part_count (Month m) = 0
part_count (Quarter q) = 3
part_count (Year n) = 4

-- its part of each index, from 0; a month stands for itself
abbrev pub part : Contract → ℕ → Contract
part (Month m) k = Month m
part (Quarter q) k = Month (3 * q + k)
part (Year n) k = Quarter (4 * n + k)

-- its parts
abbrev pub parts : Contract → List Contract
parts c = map (part c) (numbers_from 0 (part_count c))

-- the contract itself where its index is at most 255, and else the last one of its kind that a byte can hold
abbrev pub capped : Contract → Contract
capped (Month m) = Month (min m 255)
capped (Quarter q) = Quarter (min q 255)
capped (Year n) = Year (min n 255)

-- the quarter that a month lies in
abbrev pub quarter_of : ℕ → Contract
quarter_of m = Quarter (m / 3)

-- the year that a month lies in
abbrev pub year_of : ℕ → Contract
year_of m = Year (m / 12)

-- the year that a quarter lies in
abbrev pub year_of_quarter : ℕ → Contract
year_of_quarter q = Year (q / 4)

-- whether d divides n
abbrev pub divides : ℕ → ℕ → Bool
divides d n = n % d == 0

-- whether a year of the Gregorian calendar has a leap day
abbrev pub leap : ℕ → Bool
leap year = (divides 4 year && not (divides 100 year)) || divides 400 year

-- whether a month, 0 for January to 11 for December, has thirty days: April, June, September and November
abbrev pub has_thirty : ℕ → Bool
has_thirty month = month == 3 || month == 5 || month == 8 || month == 10

-- the days of a month, 0 for January to 11 for December, of a year
abbrev pub days_in_month : ℕ → ℕ → ℕ
days_in_month year month = cond (month == 1) (cond (leap year) 29 28) (cond (has_thirty month) 30 31)

-- the days of a month of a house that begins in January of its first year
abbrev pub month_days : ℕ → ℕ → ℕ
month_days first_year m = days_in_month (first_year + m / 12) (m % 12)

-- the gas days of a contract of a house that begins in January of its first year: the days of the months that it covers
unfoldable pub gas_days : ℕ → Contract → ℕ
gas_days first_year c = sum_by (month_days first_year) (months_of c)
