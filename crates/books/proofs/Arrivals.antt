-- What an arrival does to every member's quantity and money in every contract.
use Rattle.std.proofs.Common.{◌≡◌, ℕ, ◌*◌, ◌<◌, ◌≤◌, Bool, true, false, length, get_or, set, pos, ◌+ℤ◌, ◌-ℤ◌, sym, ap, ◌∙◌, ⊎_elim, arith}
use borrow.Author.Differences.{ints}
use Rattle.std.proofs.lemmas.List.{get_or-set_same, get_or-set_other, length-set}
use Rattle.std.proofs.lemmas.Bool.{cases_Bool, both_ways, and_from, and_parts, eq-eqb, eqb-true}
use Rattle.market.specs.Calendar.{in_house, contract_number}
use Rattle.market.specs.declared.calendar.Contract.{Contract}
use Rattle.market.specs.declared.records.Lot.{Lot}
use Rattle.lots.specs.Lots.{held_by}
use Rattle.lots.specs.Closing.{earnings}
use Rattle.lots.specs.Sums.{counted, signed, value}
use Rattle.lots.proofs.Moves.{arrived_net, arrived_value}
use Rattle.books.specs.Books.{Books, result_index, result_in, net_in, money_in, arrival}
use Rattle.books.proofs.Rows.{indices_apart, numbers_apart}

-- an arrival has as many results
pub arrival_length : (years : ℕ) (c : Contract) (l : Lot) (b : Books) → length (arrival years c l b).results ≡ length b.results
unfolding arrival
arrival_length years c l b = length-set b.results _ _

module _ (years : ℕ) (few : years ≤ 4) (c : Contract) (own : in_house years c ≡ true) (l : Lot) (of : l.contract ≡ contract_number c) (b : Books) where
  -- the lot is one of this member in this contract
  here : (m : ℕ) (d : Contract) → in_house years d ≡ true → held_by m (contract_number d) l ≡ true → (l.member ≡ m) × (c ≡ d)
  here m d hd e =
      let p = and_parts _ _ e in
      (eqb-true l.member m p.0, numbers_apart years c d few own hd (sym of ∙ eqb-true l.contract (contract_number d) p.1))

  -- the result of this member in this contract is where the lot's earnings are added
  there : (m : ℕ) (d : Contract) → in_house years d ≡ true → result_index years m d ≡ result_index years l.member c → held_by m (contract_number d) l ≡ true
  there m d hd e =
      let p = indices_apart years m l.member d c hd own e in
      and_from _ _ (eq-eqb l.member m (sym p.0)) (eq-eqb l.contract (contract_number d) (of ∙ ap contract_number (sym p.1)))

  -- a result changes only where the lot arrives, by what it earns
  pub result_moved : result_index years l.member c < length b.results → (m : ℕ) (d : Contract) → in_house years d ≡ true
      → result_in years (arrival years c l b) m d ≡ result_in years b m d +ℤ counted (held_by m (contract_number d) l) (earnings l b.lots)
  unfolding arrival
  result_moved within m d hd =
      let i = result_index years l.member c in
      let v = result_in years b l.member c +ℤ earnings l b.lots in
      ⊎_elim
      (λ (e : held_by m (contract_number d) l ≡ true).
      let p = here m d hd e in
      let same : result_index years m d ≡ i = ap (λ (k : ℕ). result_index years k d) (sym p.0) ∙ ap (result_index years l.member) (sym p.1) in
      ap (λ (k : ℕ). get_or (set b.results i v) k (pos 0)) same
      ∙ get_or-set_same b.results i v (pos 0) within
      ∙ ap (λ (k : ℕ). get_or b.results k (pos 0) +ℤ earnings l b.lots) (sym same)
      ∙ ap (λ (t : Bool). result_in years b m d +ℤ counted t (earnings l b.lots)) (sym e))
      (λ (e : held_by m (contract_number d) l ≡ false).
      let other : result_index years m d ≡ i → ⊥ = λ q. both_ways _ e (there m d hd q) in
      let none : result_in years b m d +ℤ pos 0 ≡ result_in years b m d = omega (arith, ints) in
      get_or-set_other b.results i (result_index years m d) v (pos 0) other
      ∙ sym none
      ∙ ap (λ (t : Bool). result_in years b m d +ℤ counted t (earnings l b.lots)) (sym e))
      (cases_Bool (held_by m (contract_number d) l))

  -- a quantity changes only there, by what arrives
  pub net_moved : (m : ℕ) (d : Contract) → net_in (arrival years c l b) m d ≡ net_in b m d +ℤ counted (held_by m (contract_number d) l) (signed l.side l.quantity)
  unfolding net_in arrival
  net_moved m d = arrived_net l b.lots m (contract_number d)

  worth_moved : (m : ℕ) (d : Contract) → value m (contract_number d) (arrival years c l b).lots +ℤ counted (held_by m (contract_number d) l) (earnings l b.lots) ≡ value m (contract_number d) b.lots -ℤ counted (held_by m (contract_number d) l) (signed l.side (l.quantity * l.price))
  unfolding arrival
  worth_moved m d = arrived_value l b.lots m (contract_number d)

  -- money changes only there, by quantity × price: bought lowers it, sold raises it
  pub money_moved : result_index years l.member c < length b.results → (m : ℕ) (d : Contract) → in_house years d ≡ true
      → money_in years (arrival years c l b) m d ≡ money_in years b m d -ℤ counted (held_by m (contract_number d) l) (signed l.side (l.quantity * l.price))
  unfolding money_in
  money_moved within m d hd =
      let r = result_moved within m d hd in
      let v = worth_moved m d in
      omega (arith, ints)
