-- Whether a word is a literal one, by its length and each of its bytes.
use Rattle.std.proofs.Common.{◌≡◌, ℕ, suc, List, [], ◌∷◌, length, get_or, nat_eq, Bool, true, ◌&&◌, refl, arith}
use Rattle.std.specs.Str.{bytes_eq}

-- whether a word has these bytes from an index on
abbrev pub has_bytes : List ℕ → ℕ → List ℕ → Bool
has_bytes word i [] = true
has_bytes word i (byte ∷ bytes) = nat_eq (get_or word i 0) byte && has_bytes word (suc i) bytes

shifted : (x i : ℕ) (xs bytes : List ℕ) → has_bytes (x ∷ xs) (suc i) bytes ≡ has_bytes xs i bytes
shifted x i xs [] = refl
shifted x i xs (byte ∷ bytes) = rw (shifted x (suc i) xs bytes) refl

pub spelled : (word bytes : List ℕ) → bytes_eq word bytes ≡ (nat_eq (length word) (length bytes) && has_bytes word 0 bytes)
spelled [] [] = refl
spelled [] (byte ∷ bytes) = grind arith
spelled (x ∷ xs) [] = grind arith
spelled (x ∷ xs) (byte ∷ bytes) = rw (shifted x 0 xs bytes, spelled xs bytes) (grind arith)
