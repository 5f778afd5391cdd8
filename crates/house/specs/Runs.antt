-- Runs of contracts that stand next to each other.
use Rattle.std.specs.Prelude.{ℕ, zero, suc, Bool, false, ◌||◌, List, slice_index_or}
use Rattle.market.specs.States.{is_past}
use Rattle.market.specs.declared.state.ContractState.{ContractState}
use Rattle.market.specs.declared.state.ContractState.TheVariants.{Unlisted}

-- one of so many states from a slot on is delivering or ended
abbrev pub any_past : List ContractState → ℕ → ℕ → Bool
any_past states from zero = false
any_past states from (suc count) = is_past (slice_index_or states from Unlisted) || any_past states (suc from) count
