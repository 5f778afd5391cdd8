-- The worked figures as one proposition: each is a named field of a record.
-- Bought 10 at 1,000,000, then 5 at 1,020,000, then sold 12 at 1,010,000, in January 2025.
use Rattle.std.specs.Prelude.{◌≡◌, [], ◌∷◌, replicate, pos, ◌*ℤ◌, neg_ℤ}
use Rattle.market.specs.Calendar.{gas_days}
use Rattle.market.specs.CalendarLaws.{CalendarFigures}
use Rattle.market.specs.declared.calendar.Contract.TheVariants.{Month}
use Rattle.market.specs.declared.phase.Phase.TheVariants.{Evening}
use Rattle.market.specs.declared.state.ContractState.TheVariants.{Unlisted, Trading}
use Rattle.margin.specs.Cover.{CoverFigures}
use Rattle.margin.specs.Figures as margin
use Rattle.margin.specs.Units.{gas_units}
use Rattle.lots.specs.Figures as lots
use Rattle.lots.specs.Sums.{money}
use Rattle.history.specs.State.{State}
use Rattle.history.specs.Standing.{no_price}
use Rattle.history.specs.BooksCover.{required_by_books}

-- a house of one member, for the year 2025: January trades at the opening price 1,000,000 with the rate 500, and the three trades are booked
abbrev pub january_traded : State
january_traded = record {
  phase = Evening;
  members = 1;
  first_year = 2025;
  years = 1;
  next_number = 1;
  states = Trading ∷ replicate 67 Unlisted;
  prices = record { price = 1000000; rate = 500 } ∷ replicate 67 no_price;
  orders = record { records = []; behind = [] };
  lots = record { records = lots.after_sale; behind = [] };
  tape = record { records = []; behind = [] };
  results = record { records = pos 80000 ∷ replicate 16 (pos 0); behind = [] };
}

-- all worked figures
pub record Figures : Type 0 where
  -- gas days of a common year and of a leap year
  pub calendar : CalendarFigures
  -- bands, and the units of the gas rule and of a hub rule
  pub rules : margin.Figures
  -- what the sale earns, and what it leaves
  pub trades : lots.Worked
  -- collateral, loss and adjustment of what is left
  pub cover : CoverFigures
  -- the member's requirement by its books, under the gas rule
  pub january_requirement : required_by_books gas_units january_traded 0 ≡ 26392500
  -- what a settlement of January would pay the member
  pub january_settlement : pos (gas_days 2025 (Month 0)) *ℤ money 0 0 (pos 80000) lots.after_sale ≡ neg_ℤ (pos 92380000)
