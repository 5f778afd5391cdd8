-- What a chosen rule means.
use Rattle.margin.specs.declared.chosen.ChosenRule.{ChosenRule}
use Rattle.margin.specs.declared.chosen.ChosenRule.TheVariants.{Gas, Hub}
use Rattle.margin.specs.Units.{Units, gas_units, hub_units}

-- the units of the gas rule, or of the hub rule that is chosen
abbrev pub chosen_units : ChosenRule → Units
chosen_units (Gas rule) = gas_units
chosen_units (Hub rule) = hub_units rule.tax rule.share
