use Rattle.std.proofs.Common.{ap}
use Rattle.history.specs.State.{beside}
use Rattle.history.specs.History.{halt}
use Rattle.history.proofs.Facts.{goes_on}
use Rattle.history.proofs.Refused.{refusal_is}
use Rattle.house.proofs.house.House.halt.Goals as goal

pub returns : goal.returns
returns c = record {
  does = c.try_halt.ensures;
  refused = refusal_is _ _ _ _ _ c.try_halt.ensures;
  history = λ cash. goes_on _ _ (halt c.args.contract) (ap (λ o. beside o.left cash) c.try_halt.ensures);
}
