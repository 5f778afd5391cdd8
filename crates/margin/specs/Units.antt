-- What a margin rule means, and the units of the gas rule and of the hub rule.
-- Units and prices are in kuruş per thousand Sm³; rates, taxes and shares in hundredths of a percent.
use Rattle.std.specs.Prelude.{ℕ, ◌+◌, ◌-◌, ◌*◌, ◌/◌, ◌%◌, ◌^◌, ◌≤◌, min, cond, ◌&&◌, Ok, Err, Result, nat_le}
use Rattle.market.specs.declared.refusal.Refusal.{Refusal}
use Rattle.market.specs.declared.refusal.Refusal.TheVariants.{HubRule}

-- what a margin rule means: its two units, of an opening price and a rate
pub record Units : Type 0 where
  pub long : ℕ → ℕ → ℕ
  pub short : ℕ → ℕ → ℕ

-- n is the least whole number that is not below x ÷ d
pub record RoundedUp (x d n : ℕ) : Type 0 where
  pub reaches : x ≤ n * d
  pub least : (k : ℕ) → x ≤ k * d → n ≤ k

-- x ÷ d rounded up: the quotient, and one more where something is left over
abbrev pub rounded_up : ℕ → ℕ → ℕ
rounded_up x d = x / d + min 1 (x % d)

-- a number times itself
abbrev pub square : ℕ → ℕ
square n = n * n

-- the unit of the gas rule, long and short: what two rises by the rate add to the opening price
abbrev pub gas_unit : ℕ → ℕ → ℕ
gas_unit price rate = rounded_up (price * (square (10000 + rate) - 10 ^ 8)) (10 ^ 8)

-- the long unit of the hub rule of a tax rate: the opening price with its tax
abbrev pub hub_long : ℕ → ℕ → ℕ
hub_long tax price = rounded_up (price * (10000 + tax)) (10 ^ 4)

-- the short unit of the hub rule of a tax rate and a share: that share of the opening price, with its tax
abbrev pub hub_short : ℕ → ℕ → ℕ → ℕ
hub_short tax share price = rounded_up (price * share * (10000 + tax)) (10 ^ 8)

-- the units of the gas rule
abbrev pub gas_units : Units
gas_units = record { long = gas_unit; short = gas_unit }

-- the units of the hub rule of a tax rate and a share, which ask for no rate
abbrev pub hub_units : ℕ → ℕ → Units
hub_units tax share = record { long = λ price rate. hub_long tax price; short = λ price rate. hub_short tax share price }

-- the tax rate and the share of a hub rule that is asked for, or the refusal where one is out of range
abbrev pub accepted_rule : ℕ → ℕ → Result (ℕ × ℕ) Refusal
accepted_rule tax share = cond (nat_le tax 2500 && nat_le share 10000) (Ok (tax, share)) (Err HubRule)
