-- The places that records have in a line.
-- rank: a number, rising or falling; place: a row of ranks; ahead: of two places the one that is sooner at the first rank in which they differ.
use Rattle.std.specs.Prelude.{◌≡◌, ℕ, Bool, true, false, cond, ◌⊎◌, List, [], ◌∷◌, ◌≢◌, nat_lt}

-- a rank whose lower number comes first, or whose higher number does
pub data Rank : Type 0 where
  rising : ℕ → Rank
  falling : ℕ → Rank

-- the first rank comes before the second; a rising one before any falling one, so that each two ranks compare
abbrev pub sooner : Rank → Rank → Bool
sooner (rising a) (rising b) = nat_lt a b
sooner (rising a) (falling b) = true
sooner (falling a) (rising b) = false
sooner (falling a) (falling b) = nat_lt b a

-- the first place comes before the second; one that is only the beginning of another comes before it
abbrev pub ahead : List Rank → List Rank → Bool
ahead [] [] = false
ahead [] (q ∷ qs) = true
ahead (p ∷ ps) [] = false
ahead (p ∷ ps) (q ∷ qs) = cond (sooner p q) true (cond (sooner q p) false (ahead ps qs))

-- exactly one of two places is ahead of the other
abbrev pub OneAhead : List Rank → List Rank → Type 0
OneAhead p q = ((ahead p q ≡ true) × (ahead q p ≡ false)) ⊎ ((ahead p q ≡ false) × (ahead q p ≡ true))

-- the laws of the order: no place is ahead of itself; one that is ahead of a second is ahead of all that the second is ahead of; of two different places exactly one is ahead
pub record Total : Type 0 where
  pub never_itself : (p : List Rank) → ahead p p ≡ false
  pub onward : (p q r : List Rank) → ahead p q ≡ true → ahead q r ≡ true → ahead p r ≡ true
  pub one_first : (p q : List Rank) → (p ≢ q) → OneAhead p q
