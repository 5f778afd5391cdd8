-- What is known of each lot of a table: tests of all as facts about each, and the bounds of a lot that is fit.
use Rattle.std.proofs.Common.{◌≡◌, ℕ, zero, suc, ◌+◌, ◌-◌, ◌<◌, ◌≤◌, true, not, List, [], ◌∷◌, length, get_or, take, drop, sym, refl, ap, ◌∙◌, subst, arith}
use Rattle.std.proofs.lemmas.List.{take_all, length-drop, get_or-drop}
use Rattle.std.specs.List.{AllByRecursion}
use Rattle.std.proofs.lemmas.Bool.{and_parts, and_from, leb-true}
use Rattle.std.proofs.ByRecursion.{All-get_or, All-weaker}
use Rattle.market.specs.Records.{no_lot}
use Rattle.market.specs.declared.records.Lot.{Lot}
use Rattle.market.specs.Records.{is_sided}
use Rattle.line.specs.Lines.{each}
use Rattle.line.proofs.Lines.{each_opened, each_shut}
use Rattle.lots.specs.Lots.{opposes, fit, one_sided}

-- the bounds of a lot that is fit
pub record Fits (l : Lot) : Type 0 where
  pub sided : is_sided l.side ≡ true
  pub some : 1 ≤ l.quantity
  pub most : l.quantity ≤ 2500
  pub priced : 1 ≤ l.price
  pub dear : l.price ≤ 4000000

pub fit_parts : (l : Lot) → fit l ≡ true → Fits l
fit_parts l h =
    let a = and_parts _ _ h in let b = and_parts _ _ a.1 in let q = and_parts _ _ b.0 in let p = and_parts _ _ b.1 in
    record { sided = a.0; some = leb-true _ _ q.0; most = leb-true _ _ q.1; priced = leb-true _ _ p.0; dear = leb-true _ _ p.1 }

pub all_fit : (rs : List Lot) → each fit rs ≡ true → AllByRecursion Fits rs
all_fit rs h = All-weaker (λ l. fit l ≡ true) Fits fit_parts rs (each_opened fit rs h)

pub fit_at : (rs : List Lot) (i : ℕ) (l : Lot) → each fit rs ≡ true → i < length rs → l ≡ get_or rs i no_lot → fit l ≡ true
fit_at rs i l h lt is = subst (λ (k : Lot). fit k ≡ true) (sym is) (All-get_or (λ k. fit k ≡ true) rs i no_lot lt (each_opened fit rs h))

-- no lot opposes one that follows it
abbrev pub OneSided : List Lot → Type 0
OneSided [] = Unit {0}
OneSided (l ∷ ls) = AllByRecursion (λ k. not (opposes l k) ≡ true) ls × OneSided ls

pub sided_opened : (ls : List Lot) → one_sided ls ≡ true → OneSided ls
sided_opened [] h = tt
sided_opened (l ∷ ls) h = let b = and_parts _ _ h in (each_opened (λ k. not (opposes l k)) ls b.0, sided_opened ls b.1)

pub sided_shut : (ls : List Lot) → OneSided ls → one_sided ls ≡ true
sided_shut [] h = refl
sided_shut (l ∷ ls) h = and_from _ _ (each_shut (λ k. not (opposes l k)) ls h.0) (sided_shut ls h.1)

pub sided_drop : (n : ℕ) (ls : List Lot) → OneSided ls → OneSided (drop n ls)
sided_drop zero ls h = h
sided_drop (suc n) [] h = h
sided_drop (suc n) (l ∷ ls) h = sided_drop n ls h.1

-- a lot of the slice from an index on
abbrev pub lot_from : List Lot → ℕ → ℕ → Lot
lot_from xs n i = get_or (take (length xs - n) (drop n xs)) i no_lot

-- where it stands among all lots
pub record Seen (rs : List Lot) (n i : ℕ) (l : Lot) : Type 0 where
  pub there : n + i < length rs
  pub is : l ≡ get_or rs (n + i) no_lot

module _ (xs rs : List Lot) (n i : ℕ) (e : xs ≡ rs) where
  pub seen : n ≤ length xs → i < length (take (length xs - n) (drop n xs)) → Seen rs n i (lot_from xs n i)
  seen le lt =
      let whole : take (length xs - n) (drop n xs) ≡ drop n xs = take_all (length xs - n) (drop n xs) (omega (arith, length-drop n xs)) in
      record {
        there = omega (arith, ap length whole, length-drop n xs, ap length e);
        is = ap (λ l. get_or l i no_lot) whole ∙ get_or-drop n xs i no_lot ∙ ap (λ l. get_or l (n + i) no_lot) e;
      }

  -- behind the last of the slice stands nothing
  pub behind_all : length (take (length xs - n) (drop n xs)) ≤ i → length rs ≤ n + i
  behind_all le =
      let whole : take (length xs - n) (drop n xs) ≡ drop n xs = take_all (length xs - n) (drop n xs) (omega (arith, length-drop n xs)) in
      omega (arith, ap length whole, length-drop n xs, ap length e)
