-- The daily adjustment for all gas days, and what it is for the lots of the position.
use Rattle.std.proofs.Common.{◌≡◌, ℤ, pos, ◌*ℤ◌, ap, ◌∙◌, to_z, of_z, rules}
use mir.Syntax.{w128}
use Rattle.std.proofs.lemmas.Int.{to_z-of_z}
use Rattle.margin.specs.Cover.{adjustment}
use Rattle.margin.proofs.Lots.{adjustment_of_lots}
use Rattle.margin.proofs.position.Position.adjustment.Goals as goal

cover : (c : goal.After-times) → to_z w128 (of_z w128 c.times.result) ≡ adjustment c.args.opening.now.price c.args.gas_days c.args.self.now
unfolding adjustment
cover c = to_z-of_z w128 c.times.result (search rules) ∙ c.times.ensures.product ∙ ap (λ (z : ℤ). pos c.args.gas_days *ℤ z) (to_z-of_z w128 c.daily_adjustment.result (search rules) ∙ c.daily_adjustment.ensures.daily)

pub returns-clause-cover : goal.returns-clause-cover
returns-clause-cover c = cover c

pub returns-clause-lots : goal.returns-clause-lots
returns-clause-lots c = λ lots held. cover c ∙ adjustment_of_lots c.args.opening.now.price c.args.gas_days c.args.self.now lots held
