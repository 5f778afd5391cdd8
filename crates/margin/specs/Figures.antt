-- The worked figures: units and bands at opening prices near 1,000,000 kuruş per thousand Sm³.
use Rattle.std.specs.Prelude.{◌≡◌, true, false}
use Rattle.market.specs.Opening.{in_band}
use Rattle.margin.specs.Units.{gas_units, hub_units}

-- the figures, each by what it shows
pub record Figures : Type 0 where
  pub gas_long : gas_units.long 1000000 500 ≡ 102500
  pub gas_short : gas_units.short 1000000 500 ≡ 102500
  pub gas_rounded_up : gas_units.long 1000001 500 ≡ 102501
  pub hub_long : (hub_units 1000 2500).long 1000000 500 ≡ 1100000
  pub hub_short : (hub_units 1000 2500).short 1000000 500 ≡ 275000
  pub last_in_band : in_band 1000000 500 1050000 ≡ true
  pub first_above_band : in_band 1000000 500 1050001 ≡ false
