-- The figures follow by computing.
use Rattle.std.proofs.Common.{refl}
use Rattle.lots.specs.Closing.{arrived, earnings}
use Rattle.lots.proofs.figures.figures_stand.Goals as goal

pub returns : goal.returns
unfolding arrived earnings
returns c = record { first_earns = refl; second_earns = refl; two_lots = refl; sale_earns = refl; lot_left = refl; net_left = refl; value_left = refl }
