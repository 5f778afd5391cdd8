-- How many places a table has, and what a blank one holds.
use Rattle.std.proofs.Common.{◌≡◌, ℕ, ◌+◌, ◌-◌, ◌≤◌, List, length, take, drop, replicate, sym, ap, ◌∙◌, arith, length-append, take-append-drop}
use Rattle.std.proofs.lemmas.List.{take-replicate, drop-replicate, length-replicate}

-- the records and the places behind them are all places
pub places_are : {X : Type 0} (xs : List X) (n : ℕ) → length (take n xs) + length (drop n xs) ≡ length xs
places_are xs n = sym (length-append (take n xs) (drop n xs)) ∙ ap length (take-append-drop n xs)

-- a table all of whose places are blank
pub record Wiped {X : Type 0} (b : X) (ys : List X) (used n : ℕ) : Type 0 where
  pub within : used ≤ length ys
  pub records : take used ys ≡ replicate used b
  pub behind : drop used ys ≡ replicate (n - used) b
  pub cleared : drop used ys ≡ replicate (length (drop used ys)) b

pub wiped : {X : Type 0} (b : X) (xs ys : List X) (used n : ℕ) → n ≡ length xs → used ≤ n → ys ≡ replicate (length xs) b → Wiped b ys used n
wiped b xs ys used n is le e =
    let f : ys ≡ replicate n b = e ∙ ap (λ (k : ℕ). replicate k b) (sym is) in
    let d : drop used ys ≡ replicate (n - used) b = ap (drop used) f ∙ drop-replicate used n b in
    record {
      within = omega (arith, ap length f, length-replicate n b);
      records = ap (take used) f ∙ take-replicate used n b le;
      behind = d;
      cleared = d ∙ ap (λ (k : ℕ). replicate k b) (sym (ap length d ∙ length-replicate (n - used) b));
    }
