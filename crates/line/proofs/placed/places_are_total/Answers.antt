-- The laws, as proved of all places.
use Rattle.line.proofs.Order.{total}
use Rattle.line.proofs.placed.places_are_total.Goals as goal

pub returns : goal.returns
returns c = total
