-- Which form a line has, by its first word, and what a line asks for.
use Rattle.std.specs.Prelude.{ℕ, Bool, cond, ◌||◌, List, Some, None, codes, Option, Result}
use Rattle.std.specs.Option.{ok_or}
use Rattle.std.specs.Str.{bytes_eq}
use Rattle.grammar.specs.Arguments.{ended, lend, rule, open_house, deposit, withdraw, list, halt, resume, requirement, show}
use Rattle.grammar.specs.Words.{before, behind}
use Rattle.grammar.specs.declared.commands.Command.{Command}
use Rattle.grammar.specs.declared.commands.Command.TheVariants as command
use Rattle.grammar.specs.declared.forms.Form.{Form}
use Rattle.grammar.specs.declared.forms.Form.TheVariants.{Lend, Rule, Open, Deposit, Withdraw, Halt, Resume, Step, Requirement, Show, NotBuilt, Unknown}
use Rattle.grammar.specs.declared.forms.Form.TheVariants as form

-- the calls that the house does not have yet
abbrev pub to_come : List ℕ → Bool
to_come word =
    bytes_eq word (codes "order") || bytes_eq word (codes "cancel") || bytes_eq word (codes "announce") || bytes_eq word (codes "cascade") || bytes_eq word (codes "close")
    || bytes_eq word (codes "settle") || bytes_eq word (codes "estimate") || bytes_eq word (codes "calls") || bytes_eq word (codes "books")

-- the first of some words' forms that there is
abbrev pub or_else : Option Form → Form → Form
or_else (Some f) g = f
or_else None g = g

-- the lines that no call of the house begins
abbrev pub desk_form : List ℕ → Option Form
desk_form word =
    cond (bytes_eq word (codes "lend")) (Some Lend)
    (cond (bytes_eq word (codes "rule")) (Some Rule)
    (cond (bytes_eq word (codes "show")) (Some Show) None))

-- the calls of a house, a member or the day
abbrev pub house_form : List ℕ → Option Form
house_form word =
    cond (bytes_eq word (codes "open")) (Some Open)
    (cond (bytes_eq word (codes "deposit")) (Some Deposit)
    (cond (bytes_eq word (codes "withdraw")) (Some Withdraw)
    (cond (bytes_eq word (codes "step")) (Some Step)
    (cond (bytes_eq word (codes "requirement")) (Some Requirement) None))))

-- the calls that name a contract
abbrev pub contract_form : List ℕ → Option Form
contract_form word =
    cond (bytes_eq word (codes "list")) (Some form.List)
    (cond (bytes_eq word (codes "halt")) (Some Halt)
    (cond (bytes_eq word (codes "resume")) (Some Resume) None))

-- the form of the lines that begin with a word
abbrev pub form_named : List ℕ → Form
form_named word = or_else (desk_form word) (or_else (house_form word) (or_else (contract_form word) (cond (to_come word) NotBuilt Unknown)))

-- what a line of a form asks for, by what stands behind its first word
abbrev pub asked : Form → Option (List ℕ) → Option Command
asked Lend left = lend left
asked Rule left = rule left
asked Open left = open_house left
asked Deposit left = deposit left
asked Withdraw left = withdraw left
asked form.List left = list left
asked Halt left = halt left
asked Resume left = resume left
asked Step left = ended left command.Step
asked Requirement left = requirement left
asked Show left = show left
asked NotBuilt left = Some command.NotBuilt
asked Unknown left = None

-- what a line asks for, or the form that was expected
abbrev pub meaning : List ℕ → Result Command Form
meaning line = ok_or (asked (form_named (before 32 line)) (behind 32 line)) (form_named (before 32 line))
