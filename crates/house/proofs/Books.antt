-- What the books of a house weigh: nothing when it opens, and never so much that a result could pass its bound.
use Rattle.std.proofs.Common.{◌≡◌, ℕ, zero, suc, ◌+◌, ◌-◌, ◌*◌, ◌/◌, ◌<◌, ◌≤◌, true, List, [], length, get_or, replicate, ℤ, pos, nat_abs, refl, ap, ◌∙◌, arith}
use Rattle.std.proofs.lemmas.List.{length-replicate}
use Rattle.std.proofs.lemmas.Bool.{ltb-true}
use Rattle.line.specs.Tables.{held, places, all_blank, whole}
use Rattle.line.specs.declared.table.Table.{Table}
use Rattle.line.proofs.Counting.{places_are}
use Rattle.market.specs.Calendar.{in_house, quarter_of, year_of}
use Rattle.market.specs.declared.calendar.Contract.{Contract}
use Rattle.market.specs.declared.calendar.Contract.TheVariants.{Month, Quarter, Year}
use Rattle.market.specs.declared.records.Lot.{Lot}
use Rattle.market.specs.declared.records.Trade.{Trade}
use Rattle.books.specs.Books.{Books, result_index, weight_in, month_weight}
use Rattle.books.specs.View.{books_of}
use Rattle.books.specs.declared.books.Books as books
use Rattle.market.specs.Phases.{is_open}
use Rattle.market.specs.declared.phase.Phase.{Phase}
use Rattle.market.specs.declared.phase.Phase.TheVariants.{Unopened, Evening, Morning, Session, PostSession}
use Rattle.house.specs.Sound.{Memberless, Weighed}

-- a blank table has as many places as it is said to have
pub blank_length : {X : Type 0} (t : Table X) (b : X) (used n : ℕ) → used ≤ n → held t ≡ all_blank b used n → length (whole t) ≡ n
blank_length t b used n le e =
    let p = places_are (whole t) t.used in
    let q : places (held t) ≡ places (all_blank b used n) = ap places e in
    omega (arith, p, q, length-replicate used b, length-replicate (n - used) b)

zero_at : (n i : ℕ) → get_or (replicate n (pos 0)) i (pos 0) ≡ pos 0
zero_at zero i = refl
zero_at (suc n) zero = refl
zero_at (suc n) (suc i) = zero_at n i

-- blank results and no lots weigh nothing
pub blank_weighed : (b : books.Books) (tape : Table Trade) (k : ℕ) → (books_of b).results ≡ replicate k (pos 0) → (books_of b).lots ≡ [] → Weighed b tape
unfolding weight_in
blank_weighed b tape k e f member month h g =
    let none : (c : Contract) → weight_in b.years (books_of b) member c ≡ 0
    = λ c. ap (λ (rs : List ℤ). weight_in b.years (record { lots = (books_of b).lots; results = rs }) member c) e
    ∙ ap (λ (ls : List Lot). weight_in b.years (record { lots = ls; results = replicate k (pos 0) }) member c) f
    ∙ ap (λ (z : ℤ). nat_abs z + 0) (zero_at k (result_index b.years member c)) in
    omega (arith, none (Month month), none (quarter_of month), none (year_of month))

-- what the books weigh in a contract is part of what they weigh in its first month
pub contract_weighed : (years : ℕ) (b : Books) (member most : ℕ) → ((month : ℕ) → month < 12 * years → month_weight years b member month ≤ most)
    → (c : Contract) → in_house years c ≡ true → weight_in years b member c ≤ most
contract_weighed years b member most h (Month m) o = omega (arith, h m (ltb-true m (12 * years) o))
contract_weighed years b member most h (Quarter q) o =
    let lt = ltb-true q (4 * years) o in
    let e : 3 * q / 3 ≡ q = omega arith in
    let w = h (3 * q) (omega arith) in
    let same : weight_in years b member (quarter_of (3 * q)) ≡ weight_in years b member (Quarter q) = ap (λ (k : ℕ). weight_in years b member (Quarter k)) e in
    omega (arith, w, same)
contract_weighed years b member most h (Year n) o =
    let lt = ltb-true n years o in
    let e : 12 * n / 12 ≡ n = omega arith in
    let w = h (12 * n) (omega arith) in
    let same : weight_in years b member (year_of (12 * n)) ≡ weight_in years b member (Year n) = ap (λ (k : ℕ). weight_in years b member (Year k)) e in
    omega (arith, w, same)

-- a house with a member is open
pub opened_by : (p : Phase) (members member : ℕ) → Memberless p members → member < members → is_open p ≡ true
opened_by Unopened members member s h = absurd (omega (arith, s refl))
opened_by Evening members member s h = refl
opened_by Morning members member s h = refl
opened_by Session members member s h = refl
opened_by PostSession members member s h = refl
