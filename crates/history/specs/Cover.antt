-- What cover a member owes, in kuruş.
use Rattle.std.specs.Prelude.{ℕ, ◌+◌, Bool, ℤ, pos, negsuc, nat_lt}
use Rattle.margin.specs.Units.{Units}
use Rattle.history.specs.State.{State}

-- a sum, or 0 where it is negative
abbrev pub at_least_zero : ℤ → ℕ
at_least_zero (pos n) = n
at_least_zero (negsuc n) = 0

-- what the contracts add to a member's requirement: as long as nothing can be held in them, nothing
abbrev pub added_by_contracts : Units → State → ℕ → ℤ
added_by_contracts units s member = pos 0

-- a member's requirement: the fixed part, and what the contracts add
abbrev pub requirement : Units → State → ℕ → ℕ
requirement units s member = 15000000 + at_least_zero (added_by_contracts units s member)

-- taking an amount from a balance would leave less than a requirement
abbrev pub leaves_too_little : ℕ → ℕ → ℕ → Bool
leaves_too_little balance amount required = nat_lt balance (required + amount)
