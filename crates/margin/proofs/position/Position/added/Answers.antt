-- The sum of the three is within the weight of the position, since the rule's units are at most twice the opening price.
use Rattle.std.proofs.Common.{arith}
use Rattle.std.proofs.lemmas.Int.{ints}
use Rattle.margin.specs.Cover.{added}
use Rattle.margin.proofs.Weights.{UnitsBounded, added_weighed}
use Rattle.margin.proofs.position.Position.added.Goals as goal

pub returns : goal.returns
unfolding added
returns g c =
    let opening = c.args.opening.now in
    let units = g.R.MarginRule.units c.args.rule.now in
    let small = g.met.R.MarginRule.bounded c.args.rule.now opening.price opening.rate (omega arith) (omega arith) (omega arith) (omega arith) in
    let bounded : UnitsBounded units opening.price opening.rate = record { long = omega arith; short = omega arith } in
    let most = added_weighed units opening.price opening.rate c.args.gas_days c.args.self.now bounded (omega arith) in
    record { cover = omega (arith, ints); weighed = omega (arith, ints, most); bounded = omega (arith, ints) }
