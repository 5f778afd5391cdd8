-- Moves within a list of places: one put in, a run taken out, and those that pass kept.
use Rattle.std.proofs.Common.{◌≡◌, ℕ, ◌+◌, ◌-◌, ◌<◌, ◌≤◌, List, [], ◌∷◌, ◌++◌, length, take, drop, set, replicate, sym, ap, ◌∙◌, arith}
use borrow.Rule.Slice.PartMut.{put_mid}
use Rattle.std.specs.List.{between}
use Rattle.std.specs.List.{copy_within}
use Rattle.std.proofs.lemmas.List.Edits.{take-paste, drop-paste}
use Rattle.std.proofs.lemmas.List.{append_assoc, take_more_set, drop-set-lt, take-append-le, drop-take, take-append-drop, drop-append-le, take-take, take_at, drop_at, drop-drop, length-take-le, length-drop, length-append}
use Rattle.line.specs.Lines.{taken_out}

-- the list with x put in at i
abbrev pub put_in : {X : Type 0} → ℕ → X → List X → List X
put_in i x xs = take i xs ++ x ∷ drop i xs

pub length_put_in : {X : Type 0} (xs : List X) (i : ℕ) (x : X) → i ≤ length xs → length (put_in i x xs) ≡ length xs + 1
length_put_in xs i x h = omega (arith, length-append (take i xs) (x ∷ drop i xs), length-take-le i xs h, length-drop i xs)

-- what copying the records from a up to b within the list, to d, leaves: those before d, then the copies; and behind them all as it was
pub record Copied {X : Type 0} (xs ys : List X) (a b d : ℕ) : Type 0 where
  pub front : take (d + (b - a)) ys ≡ take d xs ++ take (b - a) (drop a xs)
  pub behind : drop (d + (b - a)) ys ≡ drop (d + (b - a)) xs

copied : {X : Type 0} (xs ys : List X) (a b d : ℕ) → a ≤ b → b ≤ length xs → d ≤ length xs → ys ≡ copy_within xs a b d → Copied xs ys a b d
copied xs ys a b d ab bl dl e =
    let n : b - a ≤ length (drop a xs) = omega (arith, length-drop a xs) in
    record {
      front = ap (take (d + (b - a))) e ∙ take-paste xs d (drop a xs) (b - a) dl n;
      behind = ap (drop (d + (b - a))) e ∙ drop-paste xs d (drop a xs) (b - a) dl n;
    }

-- the records from i up to n move one back, and x is written at i
pub moved_back : {X : Type 0} (xs ys : List X) (i n : ℕ) (x : X) → i ≤ n → n < length xs → length ys ≡ length xs → ys ≡ copy_within xs i n (i + 1) → set ys i x ≡ put_in i x (take n xs) ++ drop (n + 1) xs
moved_back xs ys i n x le h long e =
    let c = copied xs ys i n (i + 1) le (omega arith) (omega arith) e in
    let m : i + 1 + (n - i) ≡ n + 1 = omega arith in
    let k : i + (n - i) ≡ n = omega arith in
    let A = take (i + 1) xs in
    let B = take (n - i) (drop i xs) in
    let C = drop (n + 1) xs in
    let la : length A ≡ i + 1 = length-take-le (i + 1) xs (omega arith) in
    let all : ys ≡ A ++ (B ++ C) = sym (take-append-drop (i + 1 + (n - i)) ys) ∙ ap (λ l. l ++ drop (i + 1 + (n - i)) ys) c.front ∙ ap (λ l. (A ++ B) ++ l) (c.behind ∙ ap (λ (j : ℕ). drop j xs) m) ∙ append_assoc A B C in
    let front : take i ys ≡ take i xs = ap (take i) all ∙ take-append-le i A (B ++ C) (omega arith) ∙ take-take i (i + 1) xs (omega arith) in
    let back : drop (i + 1) ys ≡ B ++ C = ap (drop (i + 1)) all ∙ drop_at A (B ++ C) (i + 1) la in
    let before : take i (take n xs) ≡ take i xs = take-take i n xs le in
    let behind : drop i (take n xs) ≡ B = ap (λ (j : ℕ). drop i (take j xs)) (sym k) ∙ drop-take i (n - i) xs in
    sym (take-append-drop (i + 1) (set ys i x))
    ∙ ap (λ l. l ++ drop (i + 1) (set ys i x)) (take_more_set ys i x (omega arith))
    ∙ ap (λ l. (take i ys ++ x ∷ []) ++ l) (drop-set-lt (i + 1) ys i x (omega arith) ∙ back)
    ∙ ap (λ l. (l ++ x ∷ []) ++ (B ++ C)) front
    ∙ append_assoc (take i xs) (x ∷ []) (B ++ C)
    ∙ sym (append_assoc (take i xs) (x ∷ B) C)
    ∙ ap (λ l. (l ++ x ∷ B) ++ C) (sym before)
    ∙ ap (λ l. (take i (take n xs) ++ x ∷ l) ++ C) (sym behind)

-- the records from `to` up to n move up to `from`: the gap from there on has moved to the end
pub moved_up : {X : Type 0} (xs ys : List X) (from to n : ℕ) → from ≤ to → to ≤ n → n ≤ length xs → ys ≡ copy_within xs to n from → taken_out (n - (to - from)) n ys ≡ taken_out from to xs
moved_up xs ys from to n ft tn h e =
    let c = copied xs ys to n from tn h (omega arith) e in
    let k : from + (n - to) ≡ n - (to - from) = omega arith in
    let m : to + (n - to) ≡ n = omega arith in
    let o : from + (n - to) + (to - from) ≡ n = omega arith in
    let last : drop n ys ≡ drop n xs =
    ap (λ (j : ℕ). drop j ys) (sym o) ∙ sym (drop-drop (to - from) (from + (n - to)) ys) ∙ ap (drop (to - from)) c.behind ∙ drop-drop (to - from) (from + (n - to)) xs ∙ ap (λ (j : ℕ). drop j xs) o in
    ap (λ (j : ℕ). take j ys ++ drop n ys) (sym k)
    ∙ ap (λ l. l ++ drop n ys) c.front
    ∙ ap (λ l. (take from xs ++ take (n - to) (drop to xs)) ++ l) last
    ∙ append_assoc (take from xs) (take (n - to) (drop to xs)) (drop n xs)
    ∙ ap (λ l. take from xs ++ (take (n - to) (drop to xs) ++ l)) (sym (drop-drop (n - to) to xs ∙ ap (λ (j : ℕ). drop j xs) (omega arith)))
    ∙ ap (λ l. take from xs ++ l) (take-append-drop (n - to) (drop to xs))

-- a run of places that is written over
pub over_run : {X : Type 0} (xs ys : List X) (k n : ℕ) → k ≤ n → put_mid k (n - k) xs ys ≡ take k xs ++ (ys ++ drop n xs)
over_run xs ys k n le =
    let e : k + (n - k) ≡ n = omega arith in
    ap (λ zs. take k xs ++ (ys ++ zs)) (drop-drop (n - k) k xs ∙ ap (λ (j : ℕ). drop j xs) e)

length_between : {X : Type 0} (xs : List X) (k n : ℕ) → k ≤ n → n ≤ length xs → length (between k n xs) ≡ n - k
length_between xs k n le h = length-take-le (n - k) (drop k xs) (omega (arith, length-drop k xs))

-- the places from k up to n are blanked
pub blanked : {X : Type 0} (xs ys : List X) (k n : ℕ) (b : X) → k ≤ n → n ≤ length xs → ys ≡ replicate (length (between k n xs)) b → put_mid k (n - k) xs ys ≡ take k xs ++ (replicate (n - k) b ++ drop n xs)
blanked xs ys k n b le h e =
    over_run xs ys k n le
    ∙ ap (λ l. take k xs ++ (l ++ drop n xs)) e
    ∙ ap (λ (j : ℕ). take k xs ++ (replicate j b ++ drop n xs)) (length_between xs k n le h)

-- a run taken out of the records is taken out of all places
out_of_all : {X : Type 0} (xs : List X) (from to n : ℕ) → from ≤ to → to ≤ n → n ≤ length xs → taken_out from to xs ≡ taken_out from to (take n xs) ++ drop n xs
out_of_all xs from to n ft tn h =
    let l : to ≤ length (take n xs) = omega (arith, length-take-le n xs h) in
    let r : drop to xs ≡ drop to (take n xs) ++ drop n xs = ap (drop to) (sym (take-append-drop n xs)) ∙ drop-append-le to (take n xs) (drop n xs) l in
    let f : take from xs ≡ take from (take n xs) = sym (take-take from n xs (omega arith)) in
    ap (λ z. z ++ drop to xs) f ∙ ap (λ z. take from (take n xs) ++ z) r ∙ sym (append_assoc (take from (take n xs)) (drop to (take n xs)) (drop n xs))

-- how many are left
pub length_taken_out : {X : Type 0} (xs : List X) (from to : ℕ) → from ≤ to → to ≤ length xs → length (taken_out from to xs) ≡ length xs - (to - from)
length_taken_out xs from to ft h = omega (arith, length-append (take from xs) (drop to xs), length-take-le from xs (omega arith), length-drop to xs)

-- all records behind the run have moved up, and the places that they left are blanked
pub run_out : {X : Type 0} (xs ys zs : List X) (from to n k : ℕ) (b : X) → from ≤ to → to ≤ n → n ≤ length xs → length ys ≡ length xs → k + (to - from) ≡ n
    → taken_out k n ys ≡ taken_out from to xs → zs ≡ replicate (length (between k n ys)) b
    → put_mid k (n - k) ys zs ≡ taken_out from to (take n xs) ++ (replicate (to - from) b ++ drop n xs)
run_out xs ys zs from to n k b ft tn h same e p q =
    let out = taken_out from to (take n xs) in
    let whole : taken_out k n ys ≡ out ++ drop n xs = p ∙ out_of_all xs from to n ft tn h in
    let lo : length out ≡ k = omega (arith, length_taken_out (take n xs) from to ft (omega (arith, length-take-le n xs h)), length-take-le n xs h) in
    let lk : length (take k ys) ≡ k = length-take-le k ys (omega arith) in
    let front : take k ys ≡ out = sym (take_at (take k ys) (drop n ys) k lk) ∙ ap (take k) whole ∙ take_at out (drop n xs) k lo in
    let back : drop n ys ≡ drop n xs = sym (drop_at (take k ys) (drop n ys) k lk) ∙ ap (drop k) whole ∙ drop_at out (drop n xs) k lo in
    let m : n - k ≡ to - from = omega arith in
    blanked ys zs k n b (omega arith) (omega arith) q
    ∙ ap (λ l. l ++ (replicate (n - k) b ++ drop n ys)) front
    ∙ ap (λ l. out ++ (replicate (n - k) b ++ l)) back
    ∙ ap (λ (j : ℕ). out ++ (replicate j b ++ drop n xs)) m
