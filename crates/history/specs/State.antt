-- What a house holds, apart from how it holds it.
-- state: the phase, the house's size, and what stands in each lent table; now: a state beside the cash of the vault.
use Rattle.std.specs.Prelude.{ℕ, List, ℤ}
use Rattle.line.specs.Tables.{Held}
use Rattle.market.specs.declared.phase.Phase.{Phase}
use Rattle.market.specs.declared.state.ContractState.{ContractState}
use Rattle.market.specs.declared.records.Order.{Order}
use Rattle.market.specs.declared.records.Lot.{Lot}
use Rattle.market.specs.declared.records.Trade.{Trade}
use Rattle.vault.specs.Cash.{Cash}

-- the price record of a contract: the opening price in kuruş per thousand Sm³, and the rate in hundredths of a percent
pub record Price : Type 0 where
  pub price : ℕ
  pub rate : ℕ

-- a house: the contracts' states and price records by slot, and each table with every place that was lent
pub record State : Type 0 where
  pub phase : Phase
  pub members : ℕ
  pub first_year : ℕ
  pub years : ℕ
  pub next_number : ℕ
  pub states : List ContractState
  pub prices : List Price
  pub orders : Held Order
  pub lots : Held Lot
  pub tape : Held Trade
  pub results : Held ℤ

-- a house and the cash beside it
pub record Now : Type 0 where
  pub state : State
  pub cash : Cash

-- a house beside a cash
abbrev pub beside : State → Cash → Now
beside s c = record { state = s; cash = c }
