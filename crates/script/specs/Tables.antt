-- Whose results the places of their table hold.
use Rattle.std.specs.Prelude.{ℕ, ℤ, ◌*◌, ◌/◌, ◌%◌}
use Rattle.market.specs.Calendar.{contract_at}
use Rattle.script.specs.declared.tables.Record.{Record}
use Rattle.script.specs.declared.tables.Record.TheVariants as record_of

-- the record of a result at a place, in a house of so many years
abbrev pub result_at : ℕ → ℕ → ℤ → Record
result_at years place value = record_of.Result (place / (17 * years)) (contract_at years (place % (17 * years))) value
