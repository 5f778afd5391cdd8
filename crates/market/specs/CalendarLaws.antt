-- What holds of the calendar of every house, and the gas days of a common and of a leap year.
use Rattle.std.specs.Prelude.{◌≡◌, ℕ, ◌*◌, ◌%◌, ◌<◌, ◌≤◌, Bool, true, false, ◌||◌, List, [], ◌∷◌, ◌++◌, is_some, Some, sum_by, ◌==◌}
use Rattle.market.specs.declared.calendar.Contract.{Contract}
use Rattle.market.specs.declared.calendar.Contract.TheVariants.{Month, Quarter, Year}
use Rattle.market.specs.Calendar.{among, index, in_house, contract_number, contract_of, slot, contract_at, is_month, months_of, covers, part_count, part, parts, quarter_of, year_of, year_of_quarter, gas_days}

-- a house has one to four years
abbrev pub HouseYears : ℕ → Type 0
HouseYears years = (1 ≤ years) × (years ≤ 4)

-- whether a number stands in a list
abbrev pub stands_in : ℕ → List ℕ → Bool
stands_in n [] = false
stands_in n (x ∷ xs) = x == n || stands_in n xs

-- the months of some contracts, those of one after those of the other
abbrev pub months_of_all : List Contract → List ℕ
months_of_all [] = []
months_of_all (c ∷ cs) = months_of c ++ months_of_all cs

-- whether a number is a contract's in a house of this many years: of a month, of a quarter or of a year
abbrev pub is_number : ℕ → ℕ → Bool
is_number years number = among 0 (12 * years) number || among 100 (4 * years) number || among 200 years number

-- one and only one contract of a kind, of a house of this many years, covers a month
pub record OnlyCover (years month : ℕ) (kind : ℕ → Contract) (c : Contract) : Type 0 where
  pub own : in_house years c ≡ true
  pub covering : covers c month ≡ true
  pub only : (i : ℕ) → covers (kind i) month ≡ true → kind i ≡ c

-- a month of a house is covered by exactly one of its quarters
abbrev pub OneQuarter : Type 0
OneQuarter = (years month : ℕ) → in_house years (Month month) ≡ true → OnlyCover years month Quarter (quarter_of month)

-- a month of a house is covered by exactly one of its years
abbrev pub OneYear : Type 0
OneYear = (years month : ℕ) → in_house years (Month month) ≡ true → OnlyCover years month Year (year_of month)

-- a quarter is a part of its year
abbrev pub QuarterOfYear : Type 0
QuarterOfYear = (quarter : ℕ) → part (year_of_quarter quarter) (quarter % 4) ≡ Quarter quarter

-- a contract covers the months that are its own, and no other
abbrev pub CoversOwn : Type 0
CoversOwn = (c : Contract) (month : ℕ) → covers c month ≡ stands_in month (months_of c)

-- the months of a year or a quarter are those of its parts, each once
abbrev pub MonthsByParts : Type 0
MonthsByParts = (c : Contract) → is_month c ≡ false → months_of c ≡ months_of_all (parts c)

-- the gas days of a year or a quarter are the sum of its parts' gas days
abbrev pub DaysByParts : Type 0
DaysByParts = (first_year : ℕ) (c : Contract) → is_month c ≡ false → gas_days first_year c ≡ sum_by (gas_days first_year) (parts c)

-- the parts of a contract of a house are contracts of the house
abbrev pub PartsWithin : Type 0
PartsWithin = (years k : ℕ) (c : Contract) → in_house years c ≡ true → k < part_count c → in_house years (part c k) ≡ true

-- the slots of a house's contracts are below seventeen for each year
abbrev pub SlotsWithin : Type 0
SlotsWithin = (years : ℕ) (c : Contract) → in_house years c ≡ true → slot years c < 17 * years

-- no two contracts of a house have the same slot
abbrev pub SlotsApart : Type 0
SlotsApart = (years : ℕ) (c d : Contract) → in_house years c ≡ true → in_house years d ≡ true → slot years c ≡ slot years d → c ≡ d

-- every slot below seventeen for each year is that of a contract of the house
abbrev pub SlotsFilled : Type 0
SlotsFilled = (years k : ℕ) → k < 17 * years → (c : Contract) × ((in_house years c ≡ true) × (slot years c ≡ k))

-- it is that of the contract that the slot is said to have
abbrev pub SlotsHeld : Type 0
SlotsHeld = (years k : ℕ) → k < 17 * years → (in_house years (contract_at years k) ≡ true) × (slot years (contract_at years k) ≡ k)

-- a number names a contract exactly if it lies in the range of the months, of the quarters or of the years
abbrev pub NumbersNamed : Type 0
NumbersNamed = (years number : ℕ) → is_some (contract_of number years) ≡ is_number years number

-- what a number names is a contract of the house, and the number is its own
abbrev pub NumbersOwn : Type 0
NumbersOwn = (years number : ℕ) (c : Contract) → contract_of number years ≡ Some c → (in_house years c ≡ true) × (contract_number c ≡ number)

-- every contract of a house is named by its number
abbrev pub NumbersBack : Type 0
NumbersBack = (years : ℕ) (c : Contract) → HouseYears years → in_house years c ≡ true → contract_of (contract_number c) years ≡ Some c

-- the numbers of a house's contracts are at most 203
abbrev pub NumbersWithin : Type 0
NumbersWithin = (years : ℕ) (c : Contract) → HouseYears years → in_house years c ≡ true → contract_number c < 204

-- the indices of a house's contracts are at most 47
abbrev pub IndicesWithin : Type 0
IndicesWithin = (years : ℕ) (c : Contract) → HouseYears years → in_house years c ≡ true → index c < 48

-- the laws of the calendar
pub record CalendarLaws : Type 0 where
  pub one_quarter : OneQuarter
  pub one_year : OneYear
  pub quarter_of_year : QuarterOfYear
  pub covers_own : CoversOwn
  pub months_by_parts : MonthsByParts
  pub days_by_parts : DaysByParts
  pub parts_within : PartsWithin
  pub slots_within : SlotsWithin
  pub slots_apart : SlotsApart
  pub slots_filled : SlotsFilled
  pub slots_held : SlotsHeld
  pub numbers_named : NumbersNamed
  pub numbers_own : NumbersOwn
  pub numbers_back : NumbersBack
  pub numbers_within : NumbersWithin
  pub indices_within : IndicesWithin

-- gas days of a house that begins in the common year 2025, and of one that begins in the leap year 2028
pub record CalendarFigures : Type 0 where
  pub february_2025 : gas_days 2025 (Month 1) ≡ 28
  pub first_quarter_2025 : gas_days 2025 (Quarter 0) ≡ 90
  pub year_2025 : gas_days 2025 (Year 0) ≡ 365
  pub february_2028 : gas_days 2028 (Month 1) ≡ 29
  pub first_quarter_2028 : gas_days 2028 (Quarter 0) ≡ 91
  pub year_2028 : gas_days 2028 (Year 0) ≡ 366
