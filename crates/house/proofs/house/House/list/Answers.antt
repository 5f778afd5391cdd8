use Rattle.std.proofs.Common.{ap}
use Rattle.history.specs.State.{beside}
use Rattle.history.specs.History.{list}
use Rattle.history.proofs.Facts.{goes_on}
use Rattle.history.proofs.Refused.{refusal_is}
use Rattle.house.proofs.house.House.list.Goals as goal

pub returns : goal.returns
returns c = record {
  does = c.try_list.ensures;
  refused = refusal_is _ _ _ _ _ c.try_list.ensures;
  history = λ cash. goes_on _ _ (list c.args.contract c.args.price c.args.rate) (ap (λ o. beside o.left cash) c.try_list.ensures);
}
