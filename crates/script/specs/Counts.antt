-- How a run counts its lines.
use Rattle.std.specs.Prelude.{◌≡◌, ℕ, ◌+◌, Bool, false, List}
use Rattle.grammar.specs.Kinds.{one_if, call_line, bad_line, calls_among, bad_among}
use Rattle.grammar.specs.Words.{lines}
use Rattle.script.specs.declared.summary.Outcome.{Outcome}
use Rattle.script.specs.declared.summary.Outcome.TheVariants.{NoCall, Accepted, Refused, Bad}
use Rattle.script.specs.declared.summary.Summary.{Summary}

-- the counts with one line more
abbrev pub counted : Outcome → Summary → Summary
counted NoCall s = s
counted Accepted s = record { calls = s.calls + 1; accepted = s.accepted + 1; refused = s.refused; bad = s.bad }
counted Refused s = record { calls = s.calls + 1; accepted = s.accepted; refused = s.refused + 1; bad = s.bad }
counted Bad s = record { calls = s.calls; accepted = s.accepted; refused = s.refused; bad = s.bad + 1 }

-- every call of the house is accepted or refused
abbrev pub Answered : Summary → Type 0
Answered s = s.calls ≡ s.accepted + s.refused

-- the calls and the bad lines that a line of an outcome adds
abbrev pub calls_of : Outcome → ℕ
calls_of NoCall = 0
calls_of Accepted = 1
calls_of Refused = 1
calls_of Bad = 0

abbrev pub bad_of : Outcome → ℕ
bad_of NoCall = 0
bad_of Accepted = 0
bad_of Refused = 0
bad_of Bad = 1

-- a line comes to an outcome of its kind
abbrev pub Fitting : Bool → List ℕ → Outcome → Type 0
Fitting begun line o = (calls_of o ≡ one_if (call_line line)) × (bad_of o ≡ one_if (bad_line begun line))

-- the counts of a script: its calls, each accepted or refused, and its bad lines
pub record Counts (script : List ℕ) (s : Summary) : Type 0 where
  pub answered : Answered s
  pub calls : s.calls ≡ calls_among (lines script)
  pub bad : s.bad ≡ bad_among false (lines script)
