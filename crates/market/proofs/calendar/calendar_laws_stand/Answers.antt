-- The laws of the calendar and its figures, each by its own proof.
use Rattle.market.proofs.Months.{covers_own, one_quarter, one_year, quarter_of_year, months_by_parts, parts_within}
use Rattle.market.proofs.Days.{days_by_parts, calendar_figures}
use Rattle.market.proofs.Slots.{slots_within, slots_apart, slots_filled, slots_held}
use Rattle.market.proofs.Numbers.{numbers_named, numbers_own, numbers_back, numbers_within, indices_within}
use Rattle.market.proofs.calendar.calendar_laws_stand.Goals as goal

pub returns : goal.returns
returns c = record {
  laws = record {
    one_quarter = one_quarter;
    one_year = one_year;
    quarter_of_year = quarter_of_year;
    covers_own = covers_own;
    months_by_parts = months_by_parts;
    days_by_parts = days_by_parts;
    parts_within = parts_within;
    slots_within = slots_within;
    slots_apart = slots_apart;
    slots_filled = slots_filled;
    slots_held = slots_held;
    numbers_named = numbers_named;
    numbers_own = numbers_own;
    numbers_back = numbers_back;
    numbers_within = numbers_within;
    indices_within = indices_within;
  };
  figures = calendar_figures;
}
