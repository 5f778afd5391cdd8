-- Refusals in order: reasons stand in a table, each beside its condition, and the first whose condition holds is the answer.
use Rattle.std.specs.Prelude.{Bool, cond, List, [], ◌∷◌, Some, None, Ok, Err, Option, Result}

-- the first reason whose condition holds, None if none does
abbrev pub first_that_holds : {F : Type 0} → List (F × Bool) → Option F
first_that_holds [] = None
first_that_holds (x ∷ xs) = cond x.1 (Some x.0) (first_that_holds xs)

-- what a check answers that found this reason, or none
abbrev pub verdict : {F : Type 0} → Option F → Result (Unit {0}) F
verdict None = Ok tt
verdict (Some f) = Err f
