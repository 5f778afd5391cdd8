use Rattle.history.proofs.Opening.{opening_begins}
use Rattle.house.specs.View.{view}
use Rattle.history.proofs.Refused.{refusal_is}
use Rattle.house.proofs.house.House.open.Goals as goal

pub returns : goal.returns
returns c = record {
  does = c.try_open.ensures;
  refused = refusal_is _ _ _ _ _ c.try_open.ensures;
  history = opening_begins (view c.args.self.now) c.args.members c.args.first_year c.args.years _ _ c.try_open.ensures;
}
