-- The chain goes over the range of the months; their days are the gas days, of which there are few.
use Rattle.std.proofs.Common.{◌≡◌, ◌-◌, refl, ◌∙◌, arith, rules}
use Rattle.std.proofs.lemmas.Iterator.{YieldsList-from_range, YieldsList-from_map}
use Rattle.std.proofs.lemmas.Iterator.Consumers.{sum_by_from_yields_List, fits_by_from_yields_list}
use Rattle.market.specs.Calendar.{month_count, month_days}
use Rattle.market.proofs.Days.{gas_days_at_most, range_days}
use Rattle.market.proofs.calendar.Contract.gas_days.Goals as goal

pub sum-requires-clause-fits : goal.sum-requires-clause-fits
sum-requires-clause-fits c =
    let count : c.months.result.end - c.months.result.start ≡ month_count c.args.self = omega arith in
    fits_by_from_yields_list _ _ c.map.result _
    (YieldsList-from_map _ (month_days c.args.first_year) (YieldsList-from_range c.months.result.start c.months.result.end _ c.map.ensures.source count) c.map.ensures.closure (λ x r q k. search rules))
    (omega (arith, range_days c.args.first_year c.args.self _ _ c.months.ensures.first refl, gas_days_at_most c.args.first_year c.args.self))

pub returns : goal.returns
returns c =
    let count : c.months.result.end - c.months.result.start ≡ month_count c.args.self = omega arith in
    sum_by_from_yields_List _ _ c.map.result _ c.sum.ensures.ran
    (YieldsList-from_map _ (month_days c.args.first_year) (YieldsList-from_range c.months.result.start c.months.result.end _ c.map.ensures.source count) c.map.ensures.closure (λ x r q k. search rules))
    ∙ range_days c.args.first_year c.args.self _ _ c.months.ensures.first refl
