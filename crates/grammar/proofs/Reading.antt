-- Reading a number byte by byte, held down to the most at each, reads the number that the whole word writes.
use Rattle.std.proofs.Common.{◌≡◌, ℕ, ◌+◌, ◌-◌, ◌*◌, ◌<◌, ◌≤◌, min, true, false, cond, List, [], ◌∷◌, length, get_or, drop, Some, None, Option, inl, inr, sym, refl, ◌∙◌, arith}
use Rattle.std.proofs.lemmas.Bool.{cases_Bool}
use Rattle.std.proofs.lemmas.List.{drop_more, drop_all}
use Rattle.grammar.specs.Numbers.{is_digit, all_digits, written_behind, number_up_to}

-- what reading on gives, with a number read so far
abbrev pub read : ℕ → ℕ → List ℕ → Option ℕ
read most number [] = Some number
read most number (byte ∷ bytes) = cond (is_digit byte) (read most (min (number * 10 + (byte - 48)) most) bytes) None

held_down : (most n d : ℕ) → min (min n most * 10 + d) most ≡ min (n * 10 + d) most
held_down most n d = omega arith

read_held : (most n : ℕ) (bytes : List ℕ) → read most (min n most) bytes ≡ cond (all_digits bytes) (Some (min (written_behind n bytes) most)) None
read_held most n [] = refl
read_held most n (byte ∷ bytes) = elim (cases_Bool (is_digit byte)) [
  | inl digit ↦ rw (digit, held_down most n (byte - 48)) (read_held most (n * 10 + (byte - 48)) bytes)
  | inr other ↦ rw other refl
]

read_whole : (most : ℕ) (bytes : List ℕ) → 0 < length bytes → read most 0 bytes ≡ number_up_to most bytes
read_whole most [] some = absurd (omega arith)
read_whole most (byte ∷ bytes) some =
    let none : min 0 most ≡ 0 = omega arith in
    rw none at (read_held most 0 (byte ∷ bytes))

module _ (most n i : ℕ) (word : List ℕ) (sofar : read most n (drop i word) ≡ read most 0 word) where
  pub read_stop : i < length word → is_digit (get_or word i 0) ≡ false → None ≡ number_up_to most word
  read_stop inside other =
      let stops : read most n (drop i word) ≡ None = rw (drop_more word i 0 inside, other) refl in
      sym stops ∙ sofar ∙ read_whole most word (omega arith)

  pub read_on : (next : ℕ) → i < length word → is_digit (get_or word i 0) ≡ true → next ≡ min (n * 10 + (get_or word i 0 - 48)) most → read most next (drop (i + 1) word) ≡ read most 0 word
  read_on next inside digit is =
      let goes : read most n (drop i word) ≡ read most next (drop (i + 1) word) = rw (is, drop_more word i 0 inside, digit) refl in
      sym goes ∙ sofar

  pub read_end : 0 < length word → length word ≤ i → Some n ≡ number_up_to most word
  read_end some past =
      let ends : read most n (drop i word) ≡ Some n = rw (drop_all i word past) refl in
      sym ends ∙ sofar ∙ read_whole most word some
