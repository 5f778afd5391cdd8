-- What is counted on the way through a script.
use Rattle.std.proofs.Common.{◌≡◌, ℕ, ◌+◌, ◌≤◌, Bool, false, List, ◌∷◌, length, arith}
use Rattle.script.specs.Counts.{Answered, counted, Fitting}
use Rattle.grammar.specs.Kinds.{begun_after, calls_among, bad_among}
use Rattle.script.specs.declared.summary.Outcome.{Outcome}
use Rattle.script.specs.declared.summary.Outcome.TheVariants.{NoCall, Accepted, Refused, Bad}
use Rattle.script.specs.declared.summary.Summary.{Summary}

-- what is counted so far, with the lines ls of all to come
pub record Sofar (all ls : List (List ℕ)) (begun : Bool) (s : Summary) : Type 0 where
  pub answered : Answered s
  pub calls : s.calls + calls_among ls ≡ calls_among all
  pub bad : s.bad + bad_among begun ls ≡ bad_among false all
  pub few : s.calls + s.bad + length ls ≤ length all

-- one line more, of the kind of its outcome
pub one_more : (all ls : List (List ℕ)) (line : List ℕ) (begun : Bool) (o : Outcome) (s : Summary) → Fitting begun line o → Sofar all (line ∷ ls) begun s → Sofar all ls (begun_after begun line) (counted o s)
one_more all ls line begun NoCall s fits old = grind arith
one_more all ls line begun Accepted s fits old = grind arith
one_more all ls line begun Refused s fits old = grind arith
one_more all ls line begun Bad s fits old = grind arith
