-- Each state adds what it is said to add, and no more than a year of what the position weighs.
use Rattle.std.proofs.Common.{◌≡◌, ◌≤◌, ℤ, pos, nat_abs, sym, ap, ◌∙◌, subst, arith, to_z}
use borrow.Author.Differences.{ints}
use mir.Syntax.{w128}
use Rattle.std.proofs.lemmas.Int.{to_z-of_z}
use Rattle.margin.specs.Cover.{weight}
use Rattle.house.specs.View.{view, price_in}
use Rattle.house.proofs.Adding.{listed_adds, delivering_adds, nothing_added, days_bound, loss_bound}
use Rattle.house.proofs.house.House.adds.Goals as goal

pub returns-in-Trading : goal.returns-in-Trading
returns-in-Trading g c =
    let h = c.args.self.now in
    let units = g.R.MarginRule.units c.args.rule.now in
    let p = c.position in
    let back = to_z-of_z w128 c.added.result (record { sfits = c.added.type_inv }) in
    let most = days_bound h.first_year c.gas_days-gas_days.result (weight p.result) c.args.contract c.gas_days-gas_days.ensures p.ensures.bound in
    let small : nat_abs c.added.result ≤ 148800000000000000 = omega (arith, c.added.ensures.weighed, most) in
    record {
      is = back ∙ c.added.ensures.cover ∙ listed_adds units (view h) c.args.member c.args.contract c.state_of.result (price_in c.price_of-opening.result) c.gas_days-gas_days.result p.result c.in-Trading.is c.state_of.ensures c.price_of-opening.ensures c.gas_days-gas_days.ensures p.ensures.is;
      bound = subst (λ (z : ℤ). nat_abs z ≤ 148800000000000000) (sym back) small;
    }

pub returns-in-Delivering : goal.returns-in-Delivering
returns-in-Delivering g c =
    let h = c.args.self.now in
    let units = g.R.MarginRule.units c.args.rule.now in
    let p = c.position-in-Delivering in
    let days = c.gas_days in
    let most = loss_bound h.first_year days.result c.args.contract p.result days.ensures p.ensures.bound in
    let small : c.loss.result ≤ 148800000000000000 = omega (arith, c.loss.ensures.cover, most) in
    let back : to_z w128 c.loss.result ≡ pos c.loss.result = omega (arith, ints) in
    record {
      is = back ∙ ap pos c.loss.ensures.cover ∙ delivering_adds units (view h) c.args.member c.args.contract c.state_of.result days.result p.result c.in-Delivering.is c.state_of.ensures days.ensures p.ensures.is;
      bound = subst (λ (z : ℤ). nat_abs z ≤ 148800000000000000) (sym back) small;
    }

pub returns-in-Unlisted : goal.returns-in-Unlisted
returns-in-Unlisted g c =
    let h = c.args.self.now in
    let units = g.R.MarginRule.units c.args.rule.now in
    record { is = nothing_added units (view h) c.args.member c.args.contract c.state_of.result c.in-Unlisted.is c.state_of.ensures; bound = omega arith }
