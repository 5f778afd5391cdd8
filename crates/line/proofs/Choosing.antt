-- Going over a list with a test that may change, and moving to the front what it chose.
use Rattle.std.proofs.Common.{◌≡◌, ℕ, ◌+◌, ◌<◌, ◌≤◌, Bool, true, false, cond, List, [], ◌∷◌, ◌++◌, length, get_or, take, drop, set, filter, Bor, sym, refl, ap, ◌∙◌, subst, arith}
use Rattle.std.specs.Fn.{Mut, CalledAt, ComputesKey}
use Rattle.std.proofs.lemmas.List.{length-append, length-set, take_more, take_more_set, drop-set-lt, drop-drop, append-nil, get_or-drop}
use Rattle.std.specs.List.{AllByRecursion, items_where_true}
use Rattle.std.specs.List.Retain.{ReturnsInTurn, IsFiltered}
use Rattle.line.specs.Places.{Rank}
use Rattle.line.proofs.Lines.{InLine}

module _ {X P : Type 0} (R : P → X → Bool → P → Type 0) where
  told_more : (p q r : P) (bs : List Bool) (xs : List X) (b : Bool) (x : X) → length bs ≡ length xs → ReturnsInTurn R p bs xs q → R q x b r → ReturnsInTurn R p (bs ++ b ∷ []) (xs ++ x ∷ []) r
  told_more p q r [] [] b x e t h = (r, subst (λ z. R z x b r) (sym t) h, refl)
  told_more p q r [] (y ∷ ys) b x e t h = absurd (omega arith)
  told_more p q r (c ∷ bs) [] b x e t h = absurd (omega arith)
  told_more p q r (c ∷ bs) (y ∷ ys) b x e t h = (t.0, t.1, told_more t.0 q r bs ys b x (omega arith) t.2 h)

  chosen_more : (bs : List Bool) (xs : List X) (b : Bool) (x : X) → length bs ≡ length xs → items_where_true (bs ++ b ∷ []) (xs ++ x ∷ []) ≡ items_where_true bs xs ++ items_where_true (b ∷ []) (x ∷ [])
  chosen_more [] [] b x e = refl
  chosen_more [] (y ∷ ys) b x e = absurd (omega arith)
  chosen_more (c ∷ bs) [] b x e = absurd (omega arith)
  chosen_more (true ∷ bs) (y ∷ ys) b x e = ap (λ l. y ∷ l) (chosen_more bs ys b x (omega arith))
  chosen_more (false ∷ bs) (y ∷ ys) b x e = chosen_more bs ys b x (omega arith)

  -- ys began as xs: what the test chose in the first i of xs stands in the first k places of ys, and from i on ys is as xs was
  pub record Chosen (p : P) (xs ys : List X) (q : P) (k i : ℕ) : Type 0 where
    pub behind : k ≤ i
    pub within : i ≤ length xs
    pub long : length ys ≡ length xs
    pub rest : drop i ys ≡ drop i xs
    pub answers : List Bool
    pub count : length answers ≡ length (take i xs)
    pub told : ReturnsInTurn R p answers (take i xs) q
    pub front : take k ys ≡ items_where_true answers (take i xs)

  -- what was chosen, once all of xs was tested
  pub filtered : {p q : P} {xs ys : List X} {k i : ℕ} → Chosen p xs ys q k i → IsFiltered R p (take i xs) (take k ys)
  filtered {q = q} c = (c.answers, q, c.count, c.told, c.front)

  -- nothing was tested yet
  pub none_yet : (p : P) (xs : List X) → Chosen p xs xs p 0 0
  none_yet p xs = record { behind = omega arith; within = omega arith; long = refl; rest = refl; answers = []; count = refl; told = refl; front = refl }

  module _ {p q : P} {xs ys : List X} {k i : ℕ} (r : P) (x : X) (c : Chosen p xs ys q k i) (lt : i < length ys) (is : x ≡ get_or ys i x) where
    here : take (i + 1) xs ≡ take i xs ++ x ∷ []
    here =
        let l : i < length xs = omega (arith, c.long) in
        let zero_more : i + 0 ≡ i = omega arith in
        let same : get_or xs i x ≡ get_or ys i x = ap (λ (j : ℕ). get_or xs j x) (sym zero_more) ∙ sym (get_or-drop i xs 0 x) ∙ ap (λ zs. get_or zs 0 x) (sym c.rest) ∙ get_or-drop i ys 0 x ∙ ap (λ (j : ℕ). get_or ys j x) zero_more in
        take_more xs i x l ∙ ap (λ y. take i xs ++ y ∷ []) (same ∙ sym is)

    onward : (zs : List X) → drop (i + 1) zs ≡ drop (i + 1) ys → drop (i + 1) zs ≡ drop (i + 1) xs
    onward zs e = e ∙ sym (drop-drop 1 i ys) ∙ ap (drop 1) c.rest ∙ drop-drop 1 i xs

    more : (b : Bool) (zs : List X) (m : ℕ) → R q x b r → m ≤ i + 1 → length zs ≡ length ys → drop (i + 1) zs ≡ drop (i + 1) ys → take m zs ≡ take k ys ++ items_where_true (b ∷ []) (x ∷ []) → Chosen p xs zs r m (i + 1)
    more b zs m h le l e t =
        let bs = c.answers in
        let n = c.count in
        record {
          behind = le;
          within = omega (arith, c.long);
          long = l ∙ c.long;
          rest = onward zs e;
          answers = bs ++ b ∷ [];
          count = omega (arith, ap length here, length-append bs (b ∷ []), length-append (take i xs) (x ∷ []), n);
          told = subst (λ l. ReturnsInTurn R p (bs ++ b ∷ []) l r) (sym here) (told_more p q r bs (take i xs) b x n c.told h);
          front = t ∙ ap (λ l. l ++ items_where_true (b ∷ []) (x ∷ [])) c.front ∙ sym (chosen_more bs (take i xs) b x n) ∙ ap (items_where_true (bs ++ b ∷ [])) (sym here);
        }

    -- it stays, or goes
    pub one_chosen : R q x true r → Chosen p xs (set ys k x) r (k + 1) (i + 1)
    one_chosen h = more true (set ys k x) (k + 1) h (omega (arith, c.behind)) (length-set ys k x) (drop-set-lt (i + 1) ys k x (omega (arith, c.behind))) (take_more_set ys k x (omega (arith, c.behind)))

    pub one_left : R q x false r → Chosen p xs ys r k (i + 1)
    one_left h = more false ys k h (omega (arith, c.behind)) refl refl (sym (append-nil (take k ys)))

-- what is chosen of a line is in line
items_among : {X : Type 0} (place : X → List Rank) (P : X → Type 0) (bs : List Bool) (xs : List X) → AllByRecursion P xs → AllByRecursion P (items_where_true bs xs)
items_among place P [] xs h = tt
items_among place P (b ∷ bs) [] h = tt
items_among place P (true ∷ bs) (x ∷ xs) h = (h.0, items_among place P bs xs h.1)
items_among place P (false ∷ bs) (x ∷ xs) h = items_among place P bs xs h.1

items_in_line : {X : Type 0} (place : X → List Rank) (bs : List Bool) (xs : List X) → InLine place xs → InLine place (items_where_true bs xs)
items_in_line place [] xs h = tt
items_in_line place (b ∷ bs) [] h = tt
items_in_line place (true ∷ bs) (x ∷ xs) h = (items_among place _ bs xs h.0, items_in_line place bs xs h.1)
items_in_line place (false ∷ bs) (x ∷ xs) h = items_in_line place bs xs h.1

pub in_line_filtered : {X P : Type 0} {R : P → X → Bool → P → Type 0} (place : X → List Rank) (p : P) (xs ys : List X) → InLine place xs → IsFiltered R p xs ys → InLine place ys
in_line_filtered place p xs ys h f = subst (InLine place) (sym f.4) (items_in_line place f.0 xs h)

-- where each answer of the test is that of p, what was chosen are the records that pass p
module _ {X F : Type 0} (g : Mut F (Bor X × Unit {0}) Bool) (p : X → Bool) where
  kept_first : (x : X) (xs : List X) (bs : List Bool) (b : Bool) → b ≡ p x → items_where_true bs xs ≡ filter p xs → items_where_true (b ∷ bs) (x ∷ xs) ≡ filter p (x ∷ xs)
  kept_first x xs bs true e rest = ap (λ l. x ∷ l) rest ∙ ap (λ a. cond a (x ∷ filter p xs) (filter p xs)) e
  kept_first x xs bs false e rest = rest ∙ ap (λ a. cond a (x ∷ filter p xs) (filter p xs)) e

  told_by : (bs : List Bool) (xs : List X) (f q : F) → length bs ≡ length xs → ComputesKey g p f → ReturnsInTurn (CalledAt g) f bs xs q → items_where_true bs xs ≡ filter p xs
  told_by [] [] f q e h t = refl
  told_by [] (x ∷ xs) f q e h t = absurd (omega arith)
  told_by (b ∷ bs) [] f q e h t = absurd t
  told_by (b ∷ bs) (x ∷ xs) f q e h t =
      let one = t.1 in
      let says : b ≡ p x = (h.at ((one.shown, tt) ∷ []) b t.0 one.called).0 ∙ ap p one.shows in
      let on : ComputesKey g p t.0 = record { at = λ more. (h.at ((one.shown, tt) ∷ more) b t.0 one.called).1 } in
      kept_first x xs bs b says (told_by bs xs t.0 q (omega arith) on t.2)

  pub filtered_by : (f : F) (xs ys : List X) → ComputesKey g p f → IsFiltered (CalledAt g) f xs ys → ys ≡ filter p xs
  filtered_by f xs ys h k = k.4 ∙ told_by k.0 xs f k.1 k.2 h k.3
