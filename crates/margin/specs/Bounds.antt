-- No unit of the gas rule or of a hub rule exceeds twice the opening price.
use Rattle.std.specs.Prelude.{ℕ, ◌+◌, ◌-◌, ◌*◌, ◌^◌, ◌≤◌}
use Rattle.std.proofs.Common.{arith}
use Rattle.std.proofs.lemmas.Nat.{mul-le}
use Rattle.margin.specs.Rounding.{rounded_up_least}
use Rattle.margin.specs.Units.{Units, square, gas_units, hub_units}

-- both units at an opening price and a rate are at most twice the price
abbrev pub WithinTwice : Units → ℕ → ℕ → Type 0
WithinTwice units price rate = (units.long price rate ≤ 2 * price) × (units.short price rate ≤ 2 * price)

pub gas_bounded : (price rate : ℕ) → rate ≤ 2000 → WithinTwice gas_units price rate
gas_bounded p a high =
    let squared : square (10000 + a) ≤ 12000 * 12000 = mul-le (10000 + a) (10000 + a) 12000 12000 (omega arith) (omega arith) in
    let gain : p * (square (10000 + a) - 10 ^ 8) ≤ p * 44000000 = mul-le p (square (10000 + a) - 10 ^ 8) p 44000000 (omega arith) (omega arith) in
    let unit : gas_units.long p a ≤ 2 * p = rounded_up_least (p * (square (10000 + a) - 10 ^ 8)) (10 ^ 8) (2 * p) (omega arith) (omega arith) in
    (unit, unit)

pub hub_bounded : (tax share price rate : ℕ) → tax ≤ 2500 → share ≤ 10000 → WithinTwice (hub_units tax share) price rate
hub_bounded t s p a taxable shareable =
    let taxed : p * (10000 + t) ≤ p * 12500 = mul-le p (10000 + t) p 12500 (omega arith) (omega arith) in
    let shared : p * s ≤ p * 10000 = mul-le p s p 10000 (omega arith) (omega arith) in
    let both : p * s * (10000 + t) ≤ p * 10000 * 12500 = mul-le (p * s) (10000 + t) (p * 10000) 12500 shared (omega arith) in (
      rounded_up_least (p * (10000 + t)) (10 ^ 4) (2 * p) (omega arith) (omega arith),
      rounded_up_least (p * s * (10000 + t)) (10 ^ 8) (2 * p) (omega arith) (omega arith),
    )
