-- Which line of a script lends.
use Rattle.std.proofs.Common.{◌≡◌, ℕ, not, List, [], ◌∷◌, Option, Some, None, Result, Bor, inl, inr, refl, ap, ◌∙◌}
use Rattle.std.proofs.lemmas.Bool.{cases_Bool}
use Rattle.std.specs.List.{find}
use Rattle.std.specs.Option.{MatchOption, option_map, option_map_or}
use Rattle.grammar.specs.Forms.{meaning}
use Rattle.grammar.specs.Kinds.{is_copied, default_lending, lending_asked, lent}
use Rattle.grammar.specs.declared.commands.Command.{Command}
use Rattle.grammar.specs.declared.forms.Form.{Form}

-- the first line that is not copied decides
lent_first : (ls : List (List ℕ)) → option_map_or lending_asked (option_map meaning (find (λ line. not (is_copied line)) ls)) default_lending ≡ lent ls
lent_first [] = refl
lent_first (line ∷ ls) = elim (cases_Bool (is_copied line)) [
  | inl copied ↦ rw copied (lent_first ls)
  | inr other ↦ rw other refl
]

asked_of : (found : Option (Bor (List ℕ))) (asked : Option (Result Command Form)) → MatchOption found (asked ≡ None) (λ line. asked ≡ Some (meaning line.now)) → asked ≡ option_map meaning (option_map (λ x. x.now) found)
asked_of None asked is = is
asked_of (Some line) asked is = is

-- what that line asks for
pub asked_first : (ls : List (List ℕ)) (found : Option (Bor (List ℕ))) (asked : Option (Result Command Form)) → option_map (λ x. x.now) found ≡ find (λ line. not (is_copied line)) ls → MatchOption found (asked ≡ None) (λ line. asked ≡ Some (meaning line.now)) → option_map_or lending_asked asked default_lending ≡ lent ls
asked_first ls found asked first is =
    ap (λ a. option_map_or lending_asked a default_lending) (asked_of found asked is ∙ ap (option_map meaning) first) ∙ lent_first ls
