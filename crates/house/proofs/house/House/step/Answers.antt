use Rattle.std.proofs.Common.{ap}
use Rattle.history.specs.State.{beside}
use Rattle.history.specs.History.{step}
use Rattle.history.proofs.Facts.{goes_on}
use Rattle.history.proofs.Refused.{refusal_is}
use Rattle.house.proofs.house.House.step.Goals as goal

pub returns : goal.returns
returns c = record {
  does = c.go_on.ensures;
  refused = refusal_is _ _ _ _ _ c.go_on.ensures;
  history = λ cash. goes_on _ _ step (ap (λ o. beside o.left cash) c.go_on.ensures);
}
