-- What a table holds after each change: its records, and blank places behind them if there were.
use Rattle.std.proofs.Common.{◌≡◌, ℕ, ◌+◌, ◌-◌, ◌<◌, ◌≤◌, List, ◌++◌, length, take, drop, set, replicate, sym, ap, ◌∙◌, arith}
use Rattle.std.proofs.lemmas.List.{length-append, length-replicate, length-take-le, length-drop, length-set, take_at, drop_at, drop-drop, drop-replicate, take-append-drop, set-append_left, replicate-append-replicate}
use Rattle.line.specs.Lines.{taken_out}
use Rattle.line.proofs.Moving.{put_in, length_taken_out, length_put_in}

-- every place behind the first n is blank
abbrev pub Blanked : {X : Type 0} → X → List X → ℕ → Type 0
Blanked blank xs n = drop n xs ≡ replicate (length (drop n xs)) blank

-- the places xs, with n records in use, have become ys, with m in use: the records fs
pub record Stands {X : Type 0} (blank : X) (xs ys fs : List X) (n m : ℕ) : Type 0 where
  pub long : length ys ≡ length xs
  pub records : take m ys ≡ fs
  pub cleared : Blanked blank xs n → Blanked blank ys m

module _ {X : Type 0} (blank : X) where
  all_blank : (zs : List X) (k : ℕ) → zs ≡ replicate k blank → zs ≡ replicate (length zs) blank
  all_blank zs k e = e ∙ ap (λ (j : ℕ). replicate j blank) (sym (ap length e ∙ length-replicate k blank))

  stands : (xs ys fs back : List X) (n m : ℕ) → length ys ≡ length xs → ys ≡ fs ++ back → length fs ≡ m → (Blanked blank xs n → (k : ℕ) × (back ≡ replicate k blank)) → Stands blank xs ys fs n m
  stands xs ys fs back n m long e lm b =
      let behind : drop m ys ≡ back = ap (drop m) e ∙ drop_at fs back m lm in
      record {
        long = long;
        records = ap (take m) e ∙ take_at fs back m lm;
        cleared = λ h. let k = b h in all_blank (drop m ys) k.0 (behind ∙ k.1);
      }

  -- a record put in
  pub put_there : (xs ys : List X) (x : X) (i n : ℕ) → i ≤ n → n < length xs → length ys ≡ length xs → ys ≡ put_in i x (take n xs) ++ drop (n + 1) xs → Stands blank xs ys (put_in i x (take n xs)) n (n + 1)
  put_there xs ys x i n le lt long e =
      stands xs ys (put_in i x (take n xs)) (drop (n + 1) xs) n (n + 1) long e
      (omega (arith, length_put_in (take n xs) i x (omega (arith, length-take-le n xs (omega arith))), length-take-le n xs (omega arith)))
      (λ h. (length (drop n xs) - 1, sym (drop-drop 1 n xs) ∙ ap (drop 1) h ∙ drop-replicate 1 (length (drop n xs)) blank))

  -- a run of records out
  pub cut_out : (xs ys : List X) (from to n : ℕ) → from ≤ to → to ≤ n → n ≤ length xs → ys ≡ taken_out from to (take n xs) ++ (replicate (to - from) blank ++ drop n xs) → Stands blank xs ys (taken_out from to (take n xs)) n (n - (to - from))
  cut_out xs ys from to n ft tn h e =
      let ln : length (take n xs) ≡ n = length-take-le n xs h in
      let back = replicate (to - from) blank ++ drop n xs in
      let long : length ys ≡ length xs = ap length e ∙ omega (arith, length-append (taken_out from to (take n xs)) back, length-append (replicate (to - from) blank) (drop n xs), length-replicate (to - from) blank, length_taken_out (take n xs) from to ft (omega arith), length-drop n xs) in
      stands xs ys (taken_out from to (take n xs)) (replicate (to - from) blank ++ drop n xs) n (n - (to - from)) long e
      (omega (arith, length_taken_out (take n xs) from to ft (omega arith)))
      (λ b. (to - from + length (drop n xs), ap (λ l. replicate (to - from) blank ++ l) b ∙ replicate-append-replicate (to - from) (length (drop n xs)) blank))

  -- the first k of them left, and the others blanked
  pub left_over : (xs ys zs : List X) (k n : ℕ) → k ≤ n → n ≤ length xs → length ys ≡ length xs → drop n ys ≡ drop n xs → zs ≡ take k ys ++ (replicate (n - k) blank ++ drop n ys) → Stands blank xs zs (take k ys) n k
  left_over xs ys zs k n le h same rest e =
      let back = replicate (n - k) blank ++ drop n ys in
      let long : length zs ≡ length xs = ap length e ∙ omega (arith, length-append (take k ys) back, length-append (replicate (n - k) blank) (drop n ys), length-replicate (n - k) blank, length-take-le k ys (omega arith), length-drop n ys) in
      stands xs zs (take k ys) (replicate (n - k) blank ++ drop n ys) n k long e
      (length-take-le k ys (omega arith))
      (λ b. (n - k + length (drop n xs), ap (λ l. replicate (n - k) blank ++ l) (rest ∙ b) ∙ replicate-append-replicate (n - k) (length (drop n xs)) blank))

  -- one written over another
  pub amended : (xs : List X) (x : X) (i n : ℕ) → n ≤ length xs → i < n → Stands blank xs (set xs i x) (set (take n xs) i x) n n
  amended xs x i n h lt =
      let ln : length (take n xs) ≡ n = length-take-le n xs h in
      stands xs (set xs i x) (set (take n xs) i x) (drop n xs) n n (length-set xs i x)
      (ap (λ l. set l i x) (sym (take-append-drop n xs)) ∙ set-append_left (take n xs) (drop n xs) i x (omega arith))
      (omega (arith, length-set (take n xs) i x))
      (λ b. (length (drop n xs), b))
