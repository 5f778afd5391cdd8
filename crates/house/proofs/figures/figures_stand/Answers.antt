-- The figures are what the definitions compute.
use Rattle.std.proofs.Common.{refl}
use Rattle.market.specs.Calendar.{gas_days, contracts_of, contract_at}
use Rattle.market.proofs.Days.{calendar_figures}
use Rattle.margin.specs.Cover.{collateral, loss, adjustment, added}
use Rattle.lots.specs.Closing.{arrived, earnings}
use Rattle.history.specs.Books.{position}
use Rattle.history.specs.BooksCover.{contract_adds, added_by_books, required_by_books}
use Rattle.house.proofs.figures.figures_stand.Goals as goal

pub returns : goal.returns
unfolding gas_days contracts_of contract_at collateral loss adjustment added arrived earnings position contract_adds added_by_books required_by_books
returns c = record {
  calendar = calendar_figures;
  rules = record {
    gas_long = refl;
    gas_short = refl;
    gas_rounded_up = refl;
    hub_long = refl;
    hub_short = refl;
    last_in_band = refl;
    first_above_band = refl;
  };
  trades = record {
    first_earns = refl;
    second_earns = refl;
    two_lots = refl;
    sale_earns = refl;
    lot_left = refl;
    net_left = refl;
    value_left = refl;
  };
  cover = record {
    collateral_asked = refl;
    loss_asked = refl;
    adjustment_asked = refl;
    added_in_all = refl;
  };
  january_requirement = refl;
  january_settlement = refl;
}
