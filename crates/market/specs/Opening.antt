-- Which opening prices and rates a contract may have, and which prices lie in its band.
-- Prices are in kuruş per thousand Sm³, rates in hundredths of a percent.
use Rattle.std.specs.Prelude.{ℕ, ◌+◌, ◌-◌, ◌*◌, Bool, cond, ◌&&◌, Some, None, Option, nat_le}

-- whether a number lies from 1 to the given bound
abbrev pub from_one_to : ℕ → ℕ → Bool
from_one_to bound n = nat_le 1 n && nat_le n bound

-- the price and the rate of a price record that is asked for, if both are in range
abbrev pub accepted : ℕ → ℕ → Option (ℕ × ℕ)
accepted price rate = cond (from_one_to 4000000 price && from_one_to 2000 rate) (Some (price, rate)) None

-- how far apart two numbers are
abbrev pub distance : ℕ → ℕ → ℕ
distance m n = (m - n) + (n - m)

-- whether a price is no further from the opening price than the rate allows
abbrev pub in_band : ℕ → ℕ → ℕ → Bool
in_band opening rate price = nat_le (10000 * distance price opening) (rate * opening)
