-- What an answered line counts as.
use Rattle.std.specs.Prelude.{Bool, true, false, Ok, Err, Result}
use Rattle.script.specs.declared.answers.Reply.{Reply}
use Rattle.script.specs.declared.answers.Trouble.{Trouble}
use Rattle.script.specs.declared.answers.Trouble.TheVariants.{Refused, Bad}
use Rattle.script.specs.declared.summary.Outcome.{Outcome}
use Rattle.script.specs.declared.summary.Outcome.TheVariants as outcome

abbrev pub is_bad : Result Reply Trouble → Bool
is_bad (Ok reply) = false
is_bad (Err (Refused refusal)) = false
is_bad (Err (Bad form)) = true

-- a call counts as its answer says; a bad line is bad, whatever it asked for
abbrev pub outcome_of : Bool → Result Reply Trouble → Outcome
outcome_of call (Err (Bad form)) = outcome.Bad
outcome_of true (Ok reply) = outcome.Accepted
outcome_of true (Err (Refused refusal)) = outcome.Refused
outcome_of false (Ok reply) = outcome.NoCall
outcome_of false (Err (Refused refusal)) = outcome.NoCall
