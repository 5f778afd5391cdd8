-- Lots: where they stand in line, whose they are, and what a table of lots keeps of all of them.
-- Quantities are in thousand Sm³ a gas day, prices in kuruş per thousand Sm³.
use Rattle.std.specs.Prelude.{ℕ, Bool, true, false, not, ◌&&◌, List, [], ◌∷◌, ◌==◌}
pub use Rattle.line.specs.Lines.{each}
use Rattle.line.specs.Places.{Rank, rising}
use Rattle.market.specs.Opening.{from_one_to}
pub use Rattle.market.specs.Records.{is_sided}
use Rattle.market.specs.declared.records.Side.{Side}
use Rattle.market.specs.declared.records.Side.TheVariants.{Free, Buy, Sell}
use Rattle.market.specs.declared.records.Lot.{Lot}

-- the place before which no lot of a member in a contract stands
abbrev pub first_place : ℕ → ℕ → List Rank
first_place member contract = rising contract ∷ rising member ∷ rising 0 ∷ []

-- whether a lot is one of a member in a contract
abbrev pub held_by : ℕ → ℕ → Lot → Bool
held_by member contract l = l.member == member && l.contract == contract

-- whether of two sides one is bought and the other sold
abbrev pub opposite : Side → Side → Bool
opposite Free Free = false
opposite Free Buy = false
opposite Free Sell = false
opposite Buy Free = false
opposite Buy Buy = false
opposite Buy Sell = true
opposite Sell Free = false
opposite Sell Buy = true
opposite Sell Sell = false

-- whether a lot is of the same member and contract as a first one, and on the other side
abbrev pub opposes : Lot → Lot → Bool
opposes first l = held_by first.member first.contract l && opposite first.side l.side

-- whether a lot is bought or sold, with a quantity from 1 to 2,500 and a price from 1 to 4,000,000
abbrev pub fit : Lot → Bool
fit l = is_sided l.side && (from_one_to 2500 l.quantity && from_one_to 4000000 l.price)

-- whether all lots of one member in one contract have one side: none opposes another
abbrev pub one_sided : List Lot → Bool
one_sided [] = true
one_sided (l ∷ ls) = each (λ k. not (opposes l k)) ls && one_sided ls
