-- Lines and the words between their spaces.
--
-- mark: the byte that ends a word or a line, 32 (a space) or 10 (a line's end)
-- left: what follows a word and its space, or nothing where the word ended the line
use Rattle.std.specs.Prelude.{ℕ, cond, List, [], ◌∷◌, Some, None, Option, ◌==◌}
use Rattle.std.specs.Option.{option_map}
use Rattle.grammar.specs.Numbers.{number_up_to}

-- the bytes before the first mark, or all where there is none
abbrev pub before : ℕ → List ℕ → List ℕ
before mark [] = []
before mark (byte ∷ bytes) = cond (byte == mark) [] (byte ∷ before mark bytes)

-- the bytes behind the first mark, where there is one
abbrev pub behind : ℕ → List ℕ → Option (List ℕ)
behind mark [] = None
behind mark (byte ∷ bytes) = cond (byte == mark) (Some bytes) (behind mark bytes)

-- the next word, and what is left behind it
abbrev pub next_word : Option (List ℕ) → Option (List ℕ × Option (List ℕ))
next_word None = None
next_word (Some bytes) = Some (before 32 bytes, behind 32 bytes)

-- the next word read as a number, and what is left behind it
abbrev pub next_number : ℕ → Option (List ℕ) → Option (ℕ × Option (List ℕ))
next_number most None = None
next_number most (Some bytes) = option_map (λ number. (number, behind 32 bytes)) (number_up_to most (before 32 bytes))

-- the lines of a script: each ends with byte 10 or, if it has a byte, with the script
abbrev pub put_in_front : ℕ → List (List ℕ) → List (List ℕ)
put_in_front byte [] = (byte ∷ []) ∷ []
put_in_front byte (line ∷ lines) = (byte ∷ line) ∷ lines

abbrev pub lines : List ℕ → List (List ℕ)
lines [] = []
lines (byte ∷ bytes) = cond (byte == 10) ([] ∷ lines bytes) (put_in_front byte (lines bytes))
