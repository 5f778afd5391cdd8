-- The laws of an arrival, from what it does to sums, to others, and in which order it closes.
use Rattle.std.proofs.Common.{◌≡◌, ℕ, ◌+◌, ◌-◌, ◌*◌, ◌≤◌, Bool, true, false, cond, eqb, List, [], ◌∷◌, ℤ, ◌+ℤ◌, ◌-ℤ◌, nat_abs, filter, sym, refl, ap, ◌∙◌, ⊎_elim, arith}
use borrow.Author.Differences.{ints}
use Rattle.std.specs.List.{AllByRecursion}
use Rattle.std.proofs.lemmas.Bool.{and_from, cases_Bool, cond-true, cond-false, eq-eqb}
use Rattle.std.proofs.lemmas.Bool.Decides.{nat_tests}
use Rattle.line.specs.Places.{ahead}
use Rattle.line.specs.Lines.{in_line, each, entered}
use Rattle.line.proofs.Lines.{opened}
use Rattle.market.specs.Places.{lot_place}
use Rattle.market.specs.declared.records.Side.{Side}
use Rattle.market.specs.declared.records.Side.TheVariants.{Free, Buy, Sell}
use Rattle.market.specs.declared.records.Lot.{Lot}
use Rattle.lots.specs.Lots.{held_by, opposes, fit, one_sided}
use Rattle.lots.specs.Closing.{with_quantity, closes, earns, staying, Closed, closing, rested, arrived, earnings}
use Rattle.lots.specs.Sums.{signed, counted, net, value, gross, weight}
use Rattle.lots.specs.Laws.{Unmoved, Bought, Sold, Booked}
use Rattle.lots.proofs.Products.{bounded}
use Rattle.lots.proofs.Fits.{Fits, fit_parts, all_fit, sided_opened}
use Rattle.lots.proofs.Steps.{step_none}
use Rattle.lots.proofs.Keeping.{closes_le, arrived_fit, arrived_sided}
use Rattle.lots.proofs.Moves.{arrived_net, arrived_value}
use Rattle.lots.proofs.Grosses.{gross_net, arrived_bound}
use Rattle.lots.proofs.Oldest.{arrived_none_grows, arrived_oldest_first}

-- what a closing earns is at most the closed quantity at the highest price
earns_bounded : (s : Side) (k p old : ℕ) → p ≤ 4000000 → old ≤ 4000000 → nat_abs (earns s k p old) ≤ 4000000 * k
earns_bounded Free k p old hp ho = omega arith
earns_bounded Buy k p old hp ho = bounded k old p ho hp
earns_bounded Sell k p old hp ho = bounded k p old hp ho

pub closing_bound : (a : Lot) (q : ℕ) (ls : List Lot) → a.price ≤ 4000000 → AllByRecursion Fits ls → nat_abs (closing a q ls).earned + 4000000 * (closing a q ls).left ≤ 4000000 * q
closing_bound a q [] hp fs = omega arith
closing_bound a q (l ∷ ls) hp fs =
    let k = closes a q l in
    let e = earns_bounded a.side k a.price l.price hp fs.0.dear in
    let r = closing_bound a (q - k) ls hp fs.1 in
    let le = (closes_le a q l).0 in
    omega (arith, ints)

-- the lots of others stay as they are
not_theirs : (m c : ℕ) (a l : Lot) → held_by m c a ≡ false → held_by m c l ≡ true → opposes a l ≡ false
not_theirs m c a l ha hl = grind (arith, nat_tests)

staying_other : (test : Lot → Bool) (l : Lot) (n : ℕ) (ls : List Lot) → test (with_quantity l n) ≡ false → filter test (staying l n ls) ≡ filter test ls
staying_other test l n ls e =
    elim (eqb n 0) as (λ v. filter test (cond v ls (with_quantity l n ∷ ls)) ≡ filter test ls) [ true ↦ refl | false ↦ cond-false _ _ _ e ]

closing_others : (m c : ℕ) (a : Lot) (q : ℕ) (ls : List Lot) → held_by m c a ≡ false → AllByRecursion Fits ls → filter (held_by m c) (closing a q ls).lots ≡ filter (held_by m c) ls
closing_others m c a q [] h fs = refl
closing_others m c a q (l ∷ ls) h fs =
    ⊎_elim
    (λ e.
    let z : closes a q l ≡ 0 = cond-false _ _ _ (not_theirs m c a l h e) in
    ap (λ (r : Closed). filter (held_by m c) r.lots) (step_none a q l ls z fs.0.some)
    ∙ cond-true _ _ _ e ∙ ap (λ xs. l ∷ xs) (closing_others m c a q ls h fs.1) ∙ sym (cond-true _ _ _ e))
    (λ e.
    staying_other (held_by m c) l (l.quantity - closes a q l) (closing a (q - closes a q l) ls).lots e
    ∙ closing_others m c a (q - closes a q l) ls h fs.1 ∙ sym (cond-false _ _ _ e))
    (cases_Bool (held_by m c l))

entered_other : (test : Lot → Bool) (x : Lot) (ys : List Lot) → test x ≡ false → filter test (entered lot_place x ys) ≡ filter test ys
entered_other test x [] e = cond-false _ _ _ e
entered_other test x (y ∷ ys) e =
    let ih = entered_other test x ys e in
    elim (ahead (lot_place y) (lot_place x)) as (λ v. filter test (cond v (y ∷ entered lot_place x ys) (x ∷ y ∷ ys)) ≡ filter test (y ∷ ys))
    [ true ↦ ap (λ xs. cond (test y) (y ∷ xs) xs) ih | false ↦ cond-false _ _ _ e ]

rested_other : (test : Lot → Bool) (x : Lot) (ys : List Lot) → test x ≡ false → filter test (rested x ys) ≡ filter test ys
rested_other test x ys e =
    elim (eqb x.quantity 0) as (λ v. filter test (cond v ys (entered lot_place x ys)) ≡ filter test ys) [ true ↦ refl | false ↦ entered_other test x ys e ]

pub arrived_others : (m c : ℕ) (a : Lot) (ls : List Lot) → held_by m c a ≡ false → AllByRecursion Fits ls → filter (held_by m c) (arrived a ls) ≡ filter (held_by m c) ls
unfolding arrived
arrived_others m c a ls h fs =
    let r = closing a a.quantity ls in
    rested_other (held_by m c) (with_quantity a r.left) r.lots h ∙ closing_others m c a a.quantity ls h fs

module _ (a : Lot) (ls : List Lot) (before after : ℤ) (fitting : each fit ls ≡ true) (sided : one_sided ls ≡ true) (fits : fit a ≡ true) (adds : after ≡ before +ℤ earnings a ls) where
  own : held_by a.member a.contract a ≡ true
  own = and_from _ _ (eq-eqb a.member a.member refl) (eq-eqb a.contract a.contract refl)

  net_own : net a.member a.contract (arrived a ls) ≡ net a.member a.contract ls +ℤ signed a.side a.quantity
  net_own = arrived_net a ls a.member a.contract ∙ ap (λ b. net a.member a.contract ls +ℤ counted b (signed a.side a.quantity)) own

  value_own : value a.member a.contract (arrived a ls) +ℤ earnings a ls ≡ value a.member a.contract ls -ℤ signed a.side (a.quantity * a.price)
  value_own =
      ap (λ b. value a.member a.contract (arrived a ls) +ℤ counted b (earnings a ls)) (sym own)
      ∙ arrived_value a ls a.member a.contract
      ∙ ap (λ b. value a.member a.contract ls -ℤ counted b (signed a.side (a.quantity * a.price))) own

  is_bought : a.side ≡ Buy → Bought a ls (arrived a ls) before after
  is_bought e =
      let n = net_own ∙ ap (λ s. net a.member a.contract ls +ℤ signed s a.quantity) e in
      let v = value_own ∙ ap (λ s. value a.member a.contract ls -ℤ signed s (a.quantity * a.price)) e in
      record { net_rises = n; money_falls = omega (arith, ints) }

  is_sold : a.side ≡ Sell → Sold a ls (arrived a ls) before after
  is_sold e =
      let n = net_own ∙ ap (λ s. net a.member a.contract ls +ℤ signed s a.quantity) e in
      let v = value_own ∙ ap (λ s. value a.member a.contract ls -ℤ signed s (a.quantity * a.price)) e in
      record { net_falls = omega (arith, ints); money_rises = omega (arith, ints) }

  one_side : (m c : ℕ) → gross m c (arrived a ls) ≡ nat_abs (net m c (arrived a ls))
  one_side m c = gross_net m c (arrived a ls) (all_fit (arrived a ls) (arrived_fit a ls fitting fits)) (sided_opened (arrived a ls) (arrived_sided a ls sided))

  -- other members and contracts
  pub unmoved : (m c : ℕ) → held_by m c a ≡ false → Unmoved m c ls (arrived a ls)
  unmoved m c h =
      let n : net m c (arrived a ls) ≡ net m c ls = arrived_net a ls m c ∙ ap (λ b. net m c ls +ℤ counted b (signed a.side a.quantity)) h ∙ omega (arith, ints) in
      let v = arrived_value a ls m c in
      let x = ap (λ b. counted b (earnings a ls)) h in
      let y = ap (λ b. counted b (signed a.side (a.quantity * a.price))) h in
      record {
        same_lots = arrived_others m c a ls h (all_fit ls fitting);
        same_net = n;
        same_value = omega (arith, ints);
        same_gross = one_side m c ∙ ap nat_abs n ∙ sym (gross_net m c ls (all_fit ls fitting) (sided_opened ls sided));
      }

  -- how far the result can go
  pub weight_bound : weight a.member a.contract after (arrived a ls) ≤ weight a.member a.contract before ls + 4000000 * a.quantity
  unfolding earnings
  weight_bound =
      let b = arrived_bound a ls (earnings a ls) (closing_bound a a.quantity ls (fit_parts a fits).dear (all_fit ls fitting)) in
      omega (arith, ints)

  -- the laws of an arrival that adds what it earns to a result
  pub booked : in_line lot_place ls ≡ true → Booked a ls (arrived a ls) before after
  booked line = record {
    bought = is_bought;
    sold = is_sold;
    others = unmoved;
    one_side = one_side;
    none_grows = arrived_none_grows a ls;
    oldest_first = arrived_oldest_first a ls (opened lot_place ls line) (all_fit ls fitting) (sided_opened ls sided);
    bound = weight_bound;
  }
