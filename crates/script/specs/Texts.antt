-- What a run writes: the answer to a line, and the counts at its end.
use Rattle.std.specs.Prelude.{◌≡◌, ℕ, List, [], ◌∷◌, ◌++◌, codes, decimal, Ok, Err, Result}
use Rattle.grammar.specs.Expected.{expected}
use Rattle.market.specs.Refusals.{refusal_number, refusal_spot}
use Rattle.market.specs.Words.{phase_word, refusal_words}
use Rattle.script.specs.declared.answers.Reply.{Reply}
use Rattle.script.specs.declared.answers.Reply.TheVariants.{Done, Figure, Now}
use Rattle.script.specs.declared.answers.Trouble.{Trouble}
use Rattle.script.specs.declared.answers.Trouble.TheVariants.{Refused, Bad}
use Rattle.script.specs.declared.summary.Summary.{Summary}

-- what a line is answered that did what it asks
abbrev pub reply_text : Reply → List ℕ
reply_text Done = codes "ok"
reply_text (Figure figure) = codes "ok " ++ decimal figure
reply_text (Now phase) = codes "ok " ++ phase_word phase

-- what one is answered that was refused, or that has no form
abbrev pub trouble_text : Trouble → List ℕ
trouble_text (Refused refusal) =
    codes "no " ++ (decimal (refusal_number refusal) ++ (codes " " ++ (decimal (refusal_spot refusal) ++ (codes " (" ++ (refusal_words refusal ++ codes ")")))))
trouble_text (Bad form) = codes "bad (" ++ (expected form ++ codes ")")

-- either of the two
abbrev pub answer_text : Result Reply Trouble → List ℕ
answer_text (Ok reply) = reply_text reply
answer_text (Err trouble) = trouble_text trouble

-- the counts of a run
abbrev pub summary_text : Summary → List ℕ
summary_text s =
    codes "# " ++ (decimal s.calls ++ (codes " calls, " ++ (decimal s.accepted ++ (codes " accepted, " ++ (decimal s.refused ++ (codes " refused, " ++ (decimal s.bad ++ codes " bad")))))))

-- the output ends with the counts on a line of their own
abbrev pub Ends : List ℕ → Summary → Type 0
Ends output s = (before : List ℕ) × (output ≡ (before ++ summary_text s) ++ 10 ∷ [])
