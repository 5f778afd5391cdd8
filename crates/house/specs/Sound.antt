-- What an open house keeps of its tables and its size. Before the opening only that nothing is in use.
use Rattle.std.specs.Prelude.{◌≡◌, ℕ, ◌*◌, ◌<◌, ◌≤◌, true, false, length}
use Rattle.line.specs.Tables.{whole, Within, Cleared}
use Rattle.line.specs.declared.table.Table.{Table}
use Rattle.market.specs.Phases.{is_open}
use Rattle.market.specs.declared.phase.Phase.{Phase}
use Rattle.market.specs.declared.records.Trade.{Trade}
use Rattle.books.specs.Books.{month_weight}
use Rattle.books.specs.View.{books_of}
use Rattle.books.specs.declared.books.Books as books

-- the records stand within the places; no place is in use before the opening, and every free one is blank after it
abbrev pub Sound : {X : Type 0} → X → Phase → Table X → Type 0
Sound blank p t = Within t × (is_open p ≡ false → t.used ≡ 0) × (is_open p ≡ true → Cleared blank t)

-- a table of an open house has at most so many places
abbrev pub Limited : {X : Type 0} → ℕ → Phase → Table X → Type 0
Limited most p t = is_open p ≡ true → length (whole t) ≤ most

-- an open house has 1 to 64 members
abbrev pub Sized : Phase → ℕ → Type 0
Sized p members = is_open p ≡ true → (1 ≤ members) × (members ≤ 64)

-- a house that is not open has no members
abbrev pub Memberless : Phase → ℕ → Type 0
Memberless p members = is_open p ≡ false → members ≡ 0

-- an open house has 1 to 4 years, from 2020 to 2090 on
abbrev pub Dated : Phase → ℕ → ℕ → Type 0
Dated p first_year years = is_open p ≡ true → (2020 ≤ first_year) × (first_year ≤ 2090) × (1 ≤ years) × (years ≤ 4)

-- in the contracts that cover a month, no member's books weigh more than the trades on the tape can have brought: each at most 2,500 × 4,000,000
abbrev pub Weighed : books.Books → Table Trade → Type 0
Weighed b tape = (member month : ℕ) → member < b.members → month < 12 * b.years → month_weight b.years (books_of b) member month ≤ 10000000000 * tape.used
