use Rattle.std.proofs.Common.{ap}
use Rattle.history.specs.History.{withdraw}
use Rattle.history.proofs.Facts.{goes_on}
use Rattle.history.proofs.Refused.{refusal_is}
use Rattle.house.proofs.house.House.withdraw.Goals as goal

pub returns : goal.returns
returns g c = record {
  does = c.pay_out.ensures;
  refused = refusal_is _ _ _ _ _ c.pay_out.ensures;
  history = goes_on _ _ (withdraw (g.R.MarginRule.units c.args.rule.now) c.args.member c.args.amount) (ap (λ o. o.left) c.pay_out.ensures);
}
