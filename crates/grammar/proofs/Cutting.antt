-- Cutting at the first mark; a script is its first line and the lines of what stands behind it.
use Rattle.std.proofs.Common.{◌≡◌, ◌≢◌, ℕ, zero, suc, ◌+◌, ◌<◌, ◌≤◌, false, eqb, List, [], ◌∷◌, length, get_or, take, drop, Some, None, unwrap_or, inl, inr, sym, refl, ap, ◌∙◌, arith, false-eqb}
use Rattle.std.proofs.lemmas.Bool.{cases_Bool, ne_eqb, eq-eqb}
use Rattle.grammar.specs.Words.{before, behind, put_in_front, lines}

-- the first mark stands at n
pub record CutAt (mark : ℕ) (bytes : List ℕ) (n : ℕ) : Type 0 where
  pub front : take n bytes ≡ before mark bytes
  pub back : Some (drop (suc n) bytes) ≡ behind mark bytes

pub cut_at : (mark : ℕ) (bytes : List ℕ) (n : ℕ) → n < length bytes → get_or bytes n 0 ≡ mark → ((k : ℕ) → k < n → get_or bytes k 0 ≢ mark) → CutAt mark bytes n
cut_at mark [] n inside here before_it = absurd (omega arith)
cut_at mark (byte ∷ bytes) zero inside here before_it =
    let same = eq-eqb byte mark here in
    record { front = rw same refl; back = rw same refl }
cut_at mark (byte ∷ bytes) (suc n) inside here before_it =
    let rest = cut_at mark bytes n (omega arith) here (λ k below. before_it (suc k) (omega arith)) in
    let other = ne_eqb byte mark (before_it 0 (omega arith)) in
    record { front = rw other (ap (λ l. byte ∷ l) rest.front); back = rw other rest.back }

-- no mark stands in the bytes
pub record Uncut (mark : ℕ) (bytes : List ℕ) : Type 0 where
  pub front : bytes ≡ before mark bytes
  pub back : None ≡ behind mark bytes

pub uncut : (mark : ℕ) (bytes : List ℕ) → ((k : ℕ) → k < length bytes → get_or bytes k 0 ≢ mark) → Uncut mark bytes
uncut mark [] none = record { front = refl; back = refl }
uncut mark (byte ∷ bytes) none =
    let rest = uncut mark bytes (λ k below. none (suc k) (omega arith)) in
    let other = ne_eqb byte mark (none 0 (omega arith)) in
    record { front = rw other (ap (λ l. byte ∷ l) rest.front); back = rw other rest.back }

-- a text that is not empty is its first line and the lines of what stands behind that
split : (byte : ℕ) (bytes : List ℕ) → lines (byte ∷ bytes) ≡ before 10 (byte ∷ bytes) ∷ lines (unwrap_or (behind 10 (byte ∷ bytes)) [])
split byte [] = elim (cases_Bool (eqb byte 10)) [
  | inl mark ↦ rw mark refl
  | inr other ↦ rw other refl
]
split byte (b ∷ bytes) = elim (cases_Bool (eqb byte 10)) [
  | inl mark ↦ rw mark refl
  | inr other ↦ rw other (ap (put_in_front byte) (split b bytes))
]

pub first_line : (text line rest : List ℕ) → 0 < length text → line ≡ before 10 text → rest ≡ unwrap_or (behind 10 text) [] → lines text ≡ line ∷ lines rest
first_line [] line rest some front back = absurd (omega arith)
first_line (byte ∷ bytes) line rest some front back = rw (front, back) (split byte bytes)

-- what a call of `next` gives and leaves
pub next_line : (all : List (List ℕ)) (text line rest : List ℕ) → lines text ≡ all → false ≡ eqb (length text) 0 → line ≡ before 10 text → rest ≡ unwrap_or (behind 10 text) [] → all ≡ line ∷ lines rest
next_line all text line rest is some front back = sym is ∙ first_line text line rest (omega (arith, false-eqb (length text) 0 some)) front back

fewer : (byte : ℕ) (ls : List (List ℕ)) → length (put_in_front byte ls) ≤ length ls + 1
fewer byte [] = omega arith
fewer byte (l ∷ ls) = omega arith

-- a text has no more lines than bytes
pub lines_few : (bytes : List ℕ) → length (lines bytes) ≤ length bytes
lines_few [] = omega arith
lines_few (byte ∷ bytes) = elim (cases_Bool (eqb byte 10)) [
  | inl mark ↦ rw mark (omega (arith, lines_few bytes))
  | inr other ↦ rw other (omega (arith, fewer byte (lines bytes), lines_few bytes))
]
