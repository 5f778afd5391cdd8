use Rattle.std.proofs.Common.{ap}
use Rattle.history.specs.History.{deposit}
use Rattle.history.proofs.Facts.{goes_on}
use Rattle.history.proofs.Refused.{refusal_is}
use Rattle.house.proofs.house.House.deposit.Goals as goal

pub returns : goal.returns
returns g c = record {
  does = c.pay_in.ensures;
  refused = refusal_is _ _ _ _ _ c.pay_in.ensures;
  history = goes_on _ _ (deposit c.args.member c.args.amount) (ap (λ o. o.left) c.pay_in.ensures);
}
