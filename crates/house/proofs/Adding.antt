-- What contracts add to a requirement: by a contract's state, and summed over the slots.
use Rattle.std.proofs.Common.{◌≡◌, ℕ, zero, suc, ◌+◌, ◌-◌, ◌*◌, ◌<◌, ◌≤◌, ◌⊎◌, map, ℤ, pos, negsuc, ◌+ℤ◌, neg_ℤ, nat_abs, sym, refl, ap, ◌∙◌, subst, inl, inr, mul-le-mul, arith, w64, to_z, of_z}
use borrow.Author.Differences.{ints}
use mir.Syntax.{w128}
use Rattle.std.specs.Int.{int_max}
use Rattle.std.proofs.lemmas.Int.{int_max_is}
use Rattle.market.specs.Calendar.{gas_days, contract_at, contracts_of, numbers_from}
use Rattle.market.specs.declared.calendar.Contract.{Contract}
use Rattle.market.specs.declared.state.ContractState.{ContractState}
use Rattle.market.specs.declared.state.ContractState.TheVariants.{Unlisted, Trading, Halted, Delivering, Ended}
use Rattle.market.proofs.Days.{gas_days_at_most}
use Rattle.margin.specs.Cover.{added, loss, positive_part, sum_over, weight}
use Rattle.margin.specs.Units.{Units}
use Rattle.margin.specs.declared.position.Position.{Position}
use Rattle.history.specs.State.{State, Price}
use Rattle.history.specs.Standing.{state_of, price_of}
use Rattle.history.specs.Books.{position}
use Rattle.history.specs.BooksCover.{adds_by_state, contract_adds, added_by_books}

-- a small figure in 64 bits is itself
pub in_64 : (z : ℤ) → nat_abs z ≤ 100000000000000 → to_z w64 (of_z w64 z) ≡ z
in_64 z h = omega (arith, ints)

-- positions with the same figures are the same
pub same_position : (n m r q v w : ℤ) → n ≡ m → r ≡ q → v ≡ w
    → ◌≡◌ {A = Position} (record { net = n; buys = 0; sells = 0; result = r; value = v }) (record { net = m; buys = 0; sells = 0; result = q; value = w })
same_position n m r q v w a b d =
    ap (λ (x : ℤ). record { net = x; buys = 0; sells = 0; result = r; value = v }) a
    ∙ ap (λ (x : ℤ). record { net = m; buys = 0; sells = 0; result = x; value = v }) b
    ∙ ap (λ (x : ℤ). record { net = m; buys = 0; sells = 0; result = q; value = x }) d

-- what a position weighs, by the bounds of its figures
pub weighs : (net result value : ℤ) → nat_abs net ≤ 2500 * 8192 → nat_abs value ≤ 10000000000 * 8192 → nat_abs result ≤ 40960000000000
    → weight (record { net = net; buys = 0; sells = 0; result = result; value = value }) ≤ 400000000000000
weighs net result value a b d = omega arith

module _ (units : Units) (s : State) (member : ℕ) (c : Contract) where
  listed : (state : ContractState) (price : Price) (days : ℕ) (p : Position) → (state ≡ Trading) ⊎ (state ≡ Halted) → added units price.price price.rate days p ≡ adds_by_state state units price days p
  listed state price days p (inl e) = sym (ap (λ (x : ContractState). adds_by_state x units price days p) e)
  listed state price days p (inr e) = sym (ap (λ (x : ContractState). adds_by_state x units price days p) e)

  nothing : (state : ContractState) (price : Price) (days : ℕ) (p : Position) → (state ≡ Unlisted) ⊎ (state ≡ Ended) → pos 0 ≡ adds_by_state state units price days p
  nothing state price days p (inl e) = sym (ap (λ (x : ContractState). adds_by_state x units price days p) e)
  nothing state price days p (inr e) = sym (ap (λ (x : ContractState). adds_by_state x units price days p) e)

  -- a listed contract
  pub listed_adds : (state : ContractState) (price : Price) (days : ℕ) (p : Position) → (state ≡ Trading) ⊎ (state ≡ Halted)
      → state ≡ state_of s c → price ≡ price_of s c → days ≡ gas_days s.first_year c → p ≡ position s member c
      → added units price.price price.rate days p ≡ contract_adds units s member c
  unfolding contract_adds
  listed_adds state price days p w a b d e =
      listed state price days p w
      ∙ ap (λ (x : ContractState). adds_by_state x units price days p) a
      ∙ ap (λ (x : Price). adds_by_state (state_of s c) units x days p) b
      ∙ ap (λ (x : ℕ). adds_by_state (state_of s c) units (price_of s c) x p) d
      ∙ ap (λ (x : Position). adds_by_state (state_of s c) units (price_of s c) (gas_days s.first_year c) x) e

  -- a delivering month
  pub delivering_adds : (state : ContractState) (days : ℕ) (p : Position) → state ≡ Delivering
      → state ≡ state_of s c → days ≡ gas_days s.first_year c → p ≡ position s member c
      → pos (loss days p) ≡ contract_adds units s member c
  unfolding contract_adds
  delivering_adds state days p w a d e =
      ap (λ (x : ℕ). pos (loss x p)) d
      ∙ ap (λ (x : Position). pos (loss (gas_days s.first_year c) x)) e
      ∙ sym (ap (λ (x : ContractState). adds_by_state x units (price_of s c) (gas_days s.first_year c) (position s member c)) (sym a ∙ w))

  -- any other contract
  pub nothing_added : (state : ContractState) → (state ≡ Unlisted) ⊎ (state ≡ Ended) → state ≡ state_of s c → pos 0 ≡ contract_adds units s member c
  unfolding contract_adds
  nothing_added state w a =
      nothing state (price_of s c) (gas_days s.first_year c) (position s member c) w
      ∙ ap (λ (x : ContractState). adds_by_state x units (price_of s c) (gas_days s.first_year c) (position s member c)) a

-- a year at most of what a position weighs
pub days_bound : (first_year days w : ℕ) (c : Contract) → days ≡ gas_days first_year c → w ≤ 400000000000000 → days * w ≤ 148800000000000000
days_bound first_year days w c e h =
    let d : days ≤ 372 = omega (arith, gas_days_at_most first_year c) in
    mul-le-mul d h

part_of_weight : (z : ℤ) → positive_part (neg_ℤ z) ≤ nat_abs z
part_of_weight (pos zero) = omega arith
part_of_weight (pos (suc n)) = omega arith
part_of_weight (negsuc n) = omega arith

pub loss_bound : (first_year days : ℕ) (c : Contract) (p : Position) → days ≡ gas_days first_year c → weight p ≤ 400000000000000 → loss days p ≤ 148800000000000000
unfolding loss
loss_bound first_year days c p e h =
    days_bound first_year days (positive_part (neg_ℤ p.result)) c e (omega (arith, part_of_weight p.result))

-- ---- the sum over the slots

-- what the contracts of so many slots from one on add
unfoldable pub slots_add : Units → State → ℕ → ℕ → ℕ → ℤ
slots_add units s member from count = sum_over (contract_adds units s member) (map (contract_at s.years) (numbers_from from count))

module _ (units : Units) (s : State) (member : ℕ) where
  pub slots_all : slots_add units s member 0 (17 * s.years) ≡ added_by_books units s member
  unfolding slots_add added_by_books contracts_of
  slots_all = refl

  -- the first of those left, and the others
  pub slots_next : (at end : ℕ) → at < end → slots_add units s member at (end - at) ≡ contract_adds units s member (contract_at s.years at) +ℤ slots_add units s member (at + 1) (end - (at + 1))
  unfolding slots_add
  slots_next at end h =
      let e : end - at ≡ suc (end - (at + 1)) = omega arith in
      let f : suc at ≡ at + 1 = omega arith in
      ap (slots_add units s member at) e ∙ ap (λ (k : ℕ). contract_adds units s member (contract_at s.years at) +ℤ slots_add units s member k (end - (at + 1))) f

  -- none is left
  pub slots_none : (at end : ℕ) → end ≤ at → slots_add units s member at (end - at) ≡ pos 0
  unfolding slots_add
  slots_none at end h = let e : end - at ≡ 0 = omega arith in ap (slots_add units s member at) e

-- a running sum with one more figure
pub more_128 : (b : ℕ) (r x y z : ℤ) (h k : ℕ) → nat_abs (to_z w128 b) ≤ h → nat_abs r ≤ k → h + k ≤ 100000000000000000000 → x ≡ to_z w128 b +ℤ y → y ≡ r +ℤ z
    → (nat_abs (to_z w128 (of_z w128 (to_z w128 b +ℤ to_z w128 (of_z w128 r)))) ≤ h + k) × (x ≡ to_z w128 (of_z w128 (to_z w128 b +ℤ to_z w128 (of_z w128 r))) +ℤ z)
more_128 b r x y z h k hb hr le e d =
    let s : to_z w128 (of_z w128 (to_z w128 b +ℤ to_z w128 (of_z w128 r))) ≡ to_z w128 b +ℤ r = omega (arith, ints) in
    (subst (λ (v : ℤ). nat_abs v ≤ h + k) (sym s) (omega (arith, ints)), subst (λ (v : ℤ). x ≡ v +ℤ z) (sym s) (omega (arith, ints)))

-- the greater of a sum and 0 is its positive part, as the machine forms it
max_zero : (z : ℤ) → nat_abs (int_max z (pos 0)) ≡ positive_part z
max_zero (pos n) = omega (arith, ints, int_max_is (pos n) (pos 0))
max_zero (negsuc n) = omega (arith, ints, int_max_is (negsuc n) (pos 0))

pub or_zero : (z m : ℤ) → nat_abs z ≤ 10118400000000000000 → m ≡ int_max (to_z w128 (of_z w128 z)) (pos 0) → nat_abs (to_z w128 (of_z w128 m)) ≡ positive_part z
or_zero z m h e =
    let back : to_z w128 (of_z w128 z) ≡ z = omega (arith, ints) in
    let same : nat_abs m ≡ positive_part z = ap nat_abs (e ∙ ap (λ v. int_max v (pos 0)) back) ∙ max_zero z in
    let small : positive_part z ≤ nat_abs z = positive_within z in
    let again : to_z w128 (of_z w128 m) ≡ m = omega (arith, ints) in
    ap nat_abs again ∙ same
  where
    positive_within : (z : ℤ) → positive_part z ≤ nat_abs z
    positive_within (pos n) = omega arith
    positive_within (negsuc n) = omega arith
