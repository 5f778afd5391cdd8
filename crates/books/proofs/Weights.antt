-- An arrival adds to what its member's books weigh at most its quantity at the highest price, and nothing to any other's.
use Rattle.std.proofs.Common.{◌≡◌, ℕ, ◌+◌, ◌*◌, ◌/◌, ◌<◌, ◌≤◌, Bool, true, false, cond, ◌&&◌, eqb, List, length, ℤ, pos, ◌+ℤ◌, nat_abs, sym, refl, ap, ◌∙◌, subst, ⊎_elim, arith}
use borrow.Author.Differences.{ints}
use Rattle.std.proofs.lemmas.Bool.{cases_Bool, and_parts, eqb-true, lt-ltb}
use Rattle.std.proofs.lemmas.Bool.Decides.{nat_tests}
use Rattle.line.specs.Lines.{each}
use Rattle.market.specs.Calendar.{in_house, contract_number, quarter_of, year_of}
use Rattle.market.specs.declared.calendar.Contract.{Contract}
use Rattle.market.specs.declared.calendar.Contract.TheVariants.{Month}
use Rattle.market.specs.declared.records.Lot.{Lot}
use Rattle.lots.specs.Lots.{held_by, fit, one_sided}
use Rattle.lots.specs.Closing.{arrived, earnings}
use Rattle.lots.specs.Sums.{counted, gross, weight}
use Rattle.lots.proofs.Keeping.{arrived_fit, arrived_sided}
use Rattle.lots.proofs.Laws.{unmoved, weight_bound}
use Rattle.books.specs.Books.{Books, result_index, result_in, weight_in, month_weight, arrival}
use Rattle.books.proofs.Arrivals.{result_moved}

-- lots that are fit and of one side stay so
pub arrival_fit : (years : ℕ) (c : Contract) (l : Lot) (b : Books) → fit l ≡ true → each fit b.lots ≡ true → each fit (arrival years c l b).lots ≡ true
unfolding arrival
arrival_fit years c l b f h = arrived_fit l b.lots h f

pub arrival_sided : (years : ℕ) (c : Contract) (l : Lot) (b : Books) → one_sided b.lots ≡ true → one_sided (arrival years c l b).lots ≡ true
unfolding arrival
arrival_sided years c l b h = arrived_sided l b.lots h

-- at most one of three contracts, of which one is a month, one a quarter and one a year, is the lot's
one_of_three : (own : Bool) (a n p y q u v w x y' z : ℕ) → n < 100 → 100 ≤ p → p < 200 → 200 ≤ y
    → x ≤ u + cond (own && eqb a n) q 0 → y' ≤ v + cond (own && eqb a p) q 0 → z ≤ w + cond (own && eqb a y) q 0
    → x + (y' + z) ≤ u + (v + w) + cond own q 0
one_of_three own a n p y q u v w x y' z h1 h2 h3 h4 e f g = grind (arith, nat_tests)

module _ (years : ℕ) (few : years ≤ 4) (c : Contract) (own : in_house years c ≡ true) (l : Lot) (of : l.contract ≡ contract_number c) (b : Books)
    (fits : fit l ≡ true) (fitting : each fit b.lots ≡ true) (sided : one_sided b.lots ≡ true) (within : result_index years l.member c < length b.results) where
  moved_lots : (arrival years c l b).lots ≡ arrived l b.lots
  unfolding arrival
  moved_lots = refl

  held_weight : (m : ℕ) (d : Contract) → in_house years d ≡ true → held_by m (contract_number d) l ≡ true → weight_in years (arrival years c l b) m d ≤ weight_in years b m d + 4000000 * l.quantity
  unfolding weight_in
  held_weight m d hd e =
      let p = and_parts _ _ e in
      let em = eqb-true l.member m p.0 in
      let en = eqb-true l.contract (contract_number d) p.1 in
      let x = result_in years b m d in
      let y = result_in years (arrival years c l b) m d in
      let adds : y ≡ x +ℤ earnings l b.lots = result_moved years few c own l of b within m d hd ∙ ap (λ (t : Bool). x +ℤ counted t (earnings l b.lots)) e in
      let w = weight_bound l b.lots x y fitting sided fits adds in
      let w' : weight m (contract_number d) y (arrived l b.lots) ≤ weight m (contract_number d) x b.lots + 4000000 * l.quantity
      = subst (λ (k : ℕ). weight k (contract_number d) y (arrived l b.lots) ≤ weight k (contract_number d) x b.lots + 4000000 * l.quantity) em
      (subst (λ (k : ℕ). weight l.member k y (arrived l b.lots) ≤ weight l.member k x b.lots + 4000000 * l.quantity) en w) in
      subst (λ (ls : List Lot). weight m (contract_number d) y ls ≤ weight m (contract_number d) x b.lots + 4000000 * l.quantity) (sym moved_lots) w'

  other_weight : (m : ℕ) (d : Contract) → in_house years d ≡ true → held_by m (contract_number d) l ≡ false → weight_in years (arrival years c l b) m d ≡ weight_in years b m d
  unfolding weight_in
  other_weight m d hd e =
      let x = result_in years b m d in
      let none : x +ℤ pos 0 ≡ x = omega (arith, ints) in
      let r : result_in years (arrival years c l b) m d ≡ x = result_moved years few c own l of b within m d hd ∙ ap (λ (t : Bool). x +ℤ counted t (earnings l b.lots)) e ∙ none in
      let g : gross m (contract_number d) (arrival years c l b).lots ≡ gross m (contract_number d) b.lots
      = ap (gross m (contract_number d)) moved_lots ∙ (unmoved l b.lots x (x +ℤ earnings l b.lots) fitting sided fits refl m (contract_number d) e).same_gross in
      ap (λ (z : ℤ). nat_abs z + 4000000 * gross m (contract_number d) (arrival years c l b).lots) r
      ∙ ap (λ (k : ℕ). nat_abs x + 4000000 * k) g

  -- the weight in a contract
  pub weight_moved : (m : ℕ) (d : Contract) → in_house years d ≡ true → weight_in years (arrival years c l b) m d ≤ weight_in years b m d + cond (held_by m (contract_number d) l) (4000000 * l.quantity) 0
  weight_moved m d hd =
      ⊎_elim
      (λ (e : held_by m (contract_number d) l ≡ true).
      let w = held_weight m d hd e in
      subst (λ (t : Bool). weight_in years (arrival years c l b) m d ≤ weight_in years b m d + cond t (4000000 * l.quantity) 0) (sym e) w)
      (λ (e : held_by m (contract_number d) l ≡ false).
      let w = other_weight m d hd e in
      subst (λ (t : Bool). weight_in years (arrival years c l b) m d ≤ weight_in years b m d + cond t (4000000 * l.quantity) 0) (sym e) (omega (arith, w)))
      (cases_Bool (held_by m (contract_number d) l))

  -- the weight in the contracts that cover a month
  pub month_weight_moved : (m month : ℕ) → month < 12 * years → month_weight years (arrival years c l b) m month ≤ month_weight years b m month + cond (eqb l.member m) (4000000 * l.quantity) 0
  month_weight_moved m month h =
      let q : month / 3 < 4 * years = omega arith in
      let y : month / 12 < years = omega arith in
      one_of_three (eqb l.member m) l.contract month (100 + month / 3) (200 + month / 12) (4000000 * l.quantity)
      (weight_in years b m (Month month)) (weight_in years b m (quarter_of month)) (weight_in years b m (year_of month))
      (weight_in years (arrival years c l b) m (Month month)) (weight_in years (arrival years c l b) m (quarter_of month)) (weight_in years (arrival years c l b) m (year_of month))
      (omega arith) (omega arith) (omega arith) (omega arith)
      (weight_moved m (Month month) (lt-ltb month (12 * years) h))
      (weight_moved m (quarter_of month) (lt-ltb (month / 3) (4 * years) q))
      (weight_moved m (year_of month) (lt-ltb (month / 12) years y))
