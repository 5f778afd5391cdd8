-- Numbers as a script writes them.
use Rattle.std.specs.Prelude.{ℕ, ◌+◌, ◌-◌, ◌*◌, min, Bool, true, cond, ◌&&◌, List, [], ◌∷◌, Some, None, Option, nat_le}

-- a byte that writes a digit: 48 writes 0, and 57 writes 9
abbrev pub is_digit : ℕ → Bool
is_digit byte = nat_le 48 byte && nat_le byte 57

abbrev pub all_digits : List ℕ → Bool
all_digits [] = true
all_digits (byte ∷ bytes) = is_digit byte && all_digits bytes

-- the number that digits write behind a number
abbrev pub written_behind : ℕ → List ℕ → ℕ
written_behind number [] = number
written_behind number (byte ∷ bytes) = written_behind (number * 10 + (byte - 48)) bytes

-- the number that digits write
abbrev pub written : List ℕ → ℕ
written bytes = written_behind 0 bytes

-- what a word is read as: the number that it writes, or the most where that is smaller; a word that is empty or has another byte writes none
abbrev pub number_up_to : ℕ → List ℕ → Option ℕ
number_up_to most [] = None
number_up_to most (byte ∷ bytes) = cond (all_digits (byte ∷ bytes)) (Some (min (written (byte ∷ bytes)) most)) None
