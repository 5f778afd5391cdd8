-- What the words behind the first of a line ask for.
--
-- left: what is left of a line, or nothing
use Rattle.std.specs.Prelude.{ℕ, cond, List, Some, None, codes, Option, nat_le}
use Rattle.std.specs.Str.{bytes_eq}
use Rattle.grammar.specs.Words.{next_word, next_number}
use Rattle.grammar.specs.declared.commands.Command.{Command}
use Rattle.grammar.specs.declared.commands.Command.TheVariants.{Lend, GasRule, HubRule, Open, Deposit, Withdraw, Halt, Resume, Requirement, Show}
use Rattle.grammar.specs.declared.commands.Command.TheVariants as command
use Rattle.grammar.specs.declared.commands.VaultKind.{VaultKind}
use Rattle.grammar.specs.declared.commands.VaultKind.TheVariants.{Table, Journal}
use Rattle.grammar.specs.declared.commands.What.{What}
use Rattle.grammar.specs.declared.commands.What.TheVariants.{Orders, Lots, Tape, Results, Balances, Phase}

-- goes on with what was read
abbrev pub then : {A B : Type 0} → Option A → (A → Option B) → Option B
then None f = None
then (Some x) f = f x

-- what was read, if no word is left
abbrev pub ended : {A : Type 0} → Option (List ℕ) → A → Option A
ended None x = Some x
ended (Some bytes) x = None

-- a length that can be lent
abbrev pub next_length : Option (List ℕ) → Option (ℕ × Option (List ℕ))
next_length left = then (next_number 18446744073709551615 left) (λ p. cond (nat_le p.0 70000) (Some p) None)

abbrev pub vault_kind : Option (List ℕ) → Option (VaultKind × Option (List ℕ))
vault_kind left = then (next_word left) (λ p. cond (bytes_eq p.0 (codes "table")) (Some (Table, p.1)) (cond (bytes_eq p.0 (codes "journal")) (then (next_length p.1) (λ q. Some (Journal q.0, q.1))) None))

abbrev pub lend : Option (List ℕ) → Option Command
lend left =
    then (next_length left) (λ orders. then (next_length orders.1) (λ lots. then (next_length lots.1) (λ tape. then (next_length tape.1) (λ results. then (vault_kind results.1) (λ vault. ended vault.1 (Lend (record { orders = orders.0; lots = lots.0; tape = tape.0; results = results.0; vault = vault.0 })))))))

abbrev pub rule : Option (List ℕ) → Option Command
rule left =
    then (next_word left) (λ p. cond (bytes_eq p.0 (codes "gas")) (ended p.1 GasRule) (cond (bytes_eq p.0 (codes "hub")) (then (next_number 4294967295 p.1) (λ tax. then (next_number 4294967295 tax.1) (λ share. ended share.1 (HubRule tax.0 share.0)))) None))

abbrev pub open_house : Option (List ℕ) → Option Command
open_house left =
    then (next_number 255 left) (λ members. then (next_number 65535 members.1) (λ year. then (next_number 255 year.1) (λ years. ended years.1 (Open members.0 year.0 years.0))))

-- a member and an amount
abbrev pub payment : Option (List ℕ) → Option (ℕ × ℕ)
payment left = then (next_number 255 left) (λ member. then (next_number 18446744073709551615 member.1) (λ amount. ended amount.1 (member.0, amount.0)))

abbrev pub deposit : Option (List ℕ) → Option Command
deposit left = then (payment left) (λ p. Some (Deposit p.0 p.1))

abbrev pub withdraw : Option (List ℕ) → Option Command
withdraw left = then (payment left) (λ p. Some (Withdraw p.0 p.1))

abbrev pub list : Option (List ℕ) → Option Command
list left =
    then (next_number 255 left) (λ contract. then (next_number 4294967295 contract.1) (λ price. then (next_number 4294967295 price.1) (λ rate. ended rate.1 (command.List contract.0 price.0 rate.0))))

abbrev pub halt : Option (List ℕ) → Option Command
halt left = then (next_number 255 left) (λ contract. ended contract.1 (Halt contract.0))

abbrev pub resume : Option (List ℕ) → Option Command
resume left = then (next_number 255 left) (λ contract. then (next_number 4294967295 contract.1) (λ price. ended price.1 (Resume contract.0 price.0)))

abbrev pub requirement : Option (List ℕ) → Option Command
requirement left = then (next_number 255 left) (λ member. ended member.1 (Requirement member.0))

abbrev pub what_named : List ℕ → Option What
what_named word =
    cond (bytes_eq word (codes "orders")) (Some Orders)
    (cond (bytes_eq word (codes "lots")) (Some Lots)
    (cond (bytes_eq word (codes "tape")) (Some Tape)
    (cond (bytes_eq word (codes "results")) (Some Results)
    (cond (bytes_eq word (codes "balances")) (Some Balances)
    (cond (bytes_eq word (codes "phase")) (Some Phase) None)))))

abbrev pub show : Option (List ℕ) → Option Command
show left = then (next_word left) (λ p. then (what_named p.0) (λ what. ended p.1 (Show what)))
