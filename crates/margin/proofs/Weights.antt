-- How large collateral, loss and adjustment get: for each gas day at most the weight of the position.
use Rattle.std.proofs.Common.{ℕ, ◌+◌, ◌*◌, ◌≤◌, max, ℤ, pos, negsuc, ◌+ℤ◌, ◌-ℤ◌, ◌*ℤ◌, neg_ℤ, nat_abs, mul-le-mul_left, mul-add, arith}
use borrow.Author.Differences.{ints}
use Rattle.std.proofs.lemmas.Nat.{mul-le}
use Rattle.margin.specs.declared.position.Position.{Position}
use Rattle.margin.specs.Units.{Units}
use Rattle.margin.specs.Cover.{positive_part, long_side, short_side, collateral, loss, adjustment, added, weight}
use Rattle.margin.proofs.Products.{size_le}

-- no side of a position is more than its net and the larger of its resting quantities together
abbrev pub reach : Position → ℕ
reach position = nat_abs position.net + max position.buys position.sells

positive_at_most : (z : ℤ) → positive_part z ≤ nat_abs z
positive_at_most (pos n) = omega arith
positive_at_most (negsuc n) = omega arith

pub long_reach : (position : Position) → long_side position ≤ reach position
long_reach position = omega (arith, ints, positive_at_most (position.net +ℤ pos position.buys))

pub short_reach : (position : Position) → short_side position ≤ reach position
short_reach position = omega (arith, ints, positive_at_most (pos position.sells -ℤ position.net))

-- units of at most 8,000,000
pub record UnitsBounded (units : Units) (opening rate : ℕ) : Type 0 where
  pub long : units.long opening rate ≤ 8000000
  pub short : units.short opening rate ≤ 8000000

pub collateral_weighed : (units : Units) (opening rate gas_days : ℕ) (position : Position) → UnitsBounded units opening rate → collateral units opening rate gas_days position ≤ gas_days * (8000000 * reach position)
unfolding collateral
collateral_weighed units opening rate gas_days position small =
    let long : long_side position * units.long opening rate ≤ reach position * 8000000 = mul-le (long_side position) (units.long opening rate) (reach position) 8000000 (long_reach position) small.long in
    let short : short_side position * units.short opening rate ≤ reach position * 8000000 = mul-le (short_side position) (units.short opening rate) (reach position) 8000000 (short_reach position) small.short in
    mul-le-mul_left gas_days (omega arith)

pub loss_weighed : (gas_days : ℕ) (position : Position) → loss gas_days position ≤ gas_days * nat_abs position.result
unfolding loss
loss_weighed gas_days position = mul-le-mul_left gas_days (omega (arith, ints, positive_at_most (neg_ℤ position.result)))

pub adjustment_weighed : (opening gas_days : ℕ) (position : Position) → opening ≤ 4000000 → nat_abs (adjustment opening gas_days position) ≤ gas_days * (nat_abs position.value + 4000000 * nat_abs position.net)
unfolding adjustment
adjustment_weighed opening gas_days position low =
    let net : nat_abs (pos opening *ℤ position.net) ≤ 4000000 * nat_abs position.net = size_le (pos opening) position.net 4000000 (nat_abs position.net) low (omega arith) in
    size_le (pos gas_days) (neg_ℤ position.value -ℤ pos opening *ℤ position.net) gas_days (nat_abs position.value + 4000000 * nat_abs position.net) (omega arith) (omega (arith, ints))

pub added_weighed : (units : Units) (opening rate gas_days : ℕ) (position : Position) → UnitsBounded units opening rate → opening ≤ 4000000 → nat_abs (added units opening rate gas_days position) ≤ gas_days * weight position
unfolding added
added_weighed units opening rate gas_days position small low =
    let a = collateral_weighed units opening rate gas_days position small in
    let b = loss_weighed gas_days position in
    let d = adjustment_weighed opening gas_days position low in
    omega (arith, ints, mul-add gas_days (8000000 * reach position + nat_abs position.result) (nat_abs position.value + 4000000 * nat_abs position.net), mul-add gas_days (8000000 * reach position) (nat_abs position.result))
