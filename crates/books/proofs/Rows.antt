-- Where results stand: each member has a row of its own, and in it each contract a place of its own.
use Rattle.std.proofs.Common.{◌≡◌, ℕ, ◌+◌, ◌-◌, ◌*◌, ◌<◌, ◌≤◌, true, sym, ap, subst, inl, inr, arith}
use Rattle.std.proofs.lemmas.Bool.{ltb-true, cases_lt}
use Rattle.market.specs.Calendar.{in_house, slot, contract_number}
use Rattle.market.specs.declared.calendar.Contract.{Contract}
use Rattle.market.specs.declared.calendar.Contract.TheVariants.{Month, Quarter, Year}
use Rattle.market.proofs.Slots.{slots_within, slots_apart}
use Rattle.books.specs.Books.{result_index}

-- a place in an earlier row lies before every place in a later one
earlier_row : (m n w i : ℕ) → m < n → i < w → m * w + i < n * w
earlier_row m n w i h s =
    let e : n ≡ m + 1 + (n - (m + 1)) = omega arith in
    let p : (m + 1 + (n - (m + 1))) * w ≡ m * w + w + (n - (m + 1)) * w = omega arith in
    subst (λ (x : ℕ). m * w + i < x * w) (sym e) (omega (arith, p))

-- two places in rows of one width are the same only in one row and at one place
rows_apart : (m n w i j : ℕ) → i < w → j < w → m * w + i ≡ n * w + j → (m ≡ n) × (i ≡ j)
rows_apart m n w i j hi hj e =
    elim (cases_lt m n) [
      | inl less ↦ absurd (omega (arith, earlier_row m n w i less hi))
      | inr more ↦ elim (cases_lt n m) [
        | inl less ↦ absurd (omega (arith, earlier_row n m w j less hj))
        | inr equal ↦ let same : m ≡ n = omega arith in (same, let r : m * w ≡ n * w = ap (λ (k : ℕ). k * w) same in omega arith)
      ]
    ]

-- a member's results lie in its row
pub index_within : (members years member : ℕ) (c : Contract) → member < members → in_house years c ≡ true → result_index years member c < members * (17 * years)
index_within members years member c h own = earlier_row member members (17 * years) (slot years c) h (slots_within years c own)

-- each member and contract has a result of its own
pub indices_apart : (years m n : ℕ) (c d : Contract) → in_house years c ≡ true → in_house years d ≡ true → result_index years m c ≡ result_index years n d → (m ≡ n) × (c ≡ d)
indices_apart years m n c d hc hd e =
    let r = rows_apart m n (17 * years) (slot years c) (slot years d) (slots_within years c hc) (slots_within years d hd) e in
    (r.0, slots_apart years c d hc hd r.1)

-- each contract has a number of its own
pub numbers_apart : (years : ℕ) (c d : Contract) → years ≤ 4 → in_house years c ≡ true → in_house years d ≡ true → contract_number c ≡ contract_number d → c ≡ d
numbers_apart years (Month m) (Month n) few hc hd e = ap Month e
numbers_apart years (Month m) (Quarter q) few hc hd e = absurd (omega (arith, ltb-true m (12 * years) hc))
numbers_apart years (Month m) (Year n) few hc hd e = absurd (omega (arith, ltb-true m (12 * years) hc))
numbers_apart years (Quarter q) (Month m) few hc hd e = absurd (omega (arith, ltb-true m (12 * years) hd))
numbers_apart years (Quarter q) (Quarter p) few hc hd e = ap Quarter (omega arith)
numbers_apart years (Quarter q) (Year n) few hc hd e = absurd (omega (arith, ltb-true q (4 * years) hc))
numbers_apart years (Year n) (Month m) few hc hd e = absurd (omega (arith, ltb-true m (12 * years) hd))
numbers_apart years (Year n) (Quarter q) few hc hd e = absurd (omega (arith, ltb-true q (4 * years) hd))
numbers_apart years (Year n) (Year p) few hc hd e = ap Year (omega arith)
