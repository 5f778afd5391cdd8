-- The kinds of lines: copied, calls of the house, bad ones, and a first line that lends.
--
-- begun: whether a line that is not copied came before
use Rattle.std.specs.Prelude.{ℕ, ◌+◌, Bool, true, false, cond, not, ◌||◌, List, [], ◌∷◌, Ok, Err, Result, ◌==◌}
use Rattle.grammar.specs.Forms.{meaning}
use Rattle.grammar.specs.declared.commands.Command.{Command}
use Rattle.grammar.specs.declared.commands.Command.TheVariants.{Lend, GasRule, HubRule, Open, Deposit, Withdraw, Halt, Resume, Step, Requirement, Show, NotBuilt}
use Rattle.grammar.specs.declared.commands.Command.TheVariants as command
use Rattle.grammar.specs.declared.commands.Lending.{Lending}
use Rattle.grammar.specs.declared.commands.VaultKind.TheVariants.{Table}
use Rattle.grammar.specs.declared.forms.Form.{Form}

-- a line that is copied as it stands: one of no bytes, or one that begins with byte 35
abbrev pub is_copied : List ℕ → Bool
is_copied [] = true
is_copied (byte ∷ bytes) = byte == 35

-- the calls of the house
abbrev pub is_call : Command → Bool
is_call (Lend l) = false
is_call GasRule = false
is_call (HubRule t s) = false
is_call (Open m y n) = true
is_call (Deposit m a) = true
is_call (Withdraw m a) = true
is_call (command.List c p r) = true
is_call (Halt c) = true
is_call (Resume c p) = true
is_call Step = true
is_call (Requirement m) = true
is_call (Show w) = false
is_call NotBuilt = false

-- a lending that is not the first line, and a call that is not built yet, are bad
abbrev pub out_of_place : Bool → Command → Bool
out_of_place begun (Lend l) = begun
out_of_place begun GasRule = false
out_of_place begun (HubRule t s) = false
out_of_place begun (Open m y n) = false
out_of_place begun (Deposit m a) = false
out_of_place begun (Withdraw m a) = false
out_of_place begun (command.List c p r) = false
out_of_place begun (Halt c) = false
out_of_place begun (Resume c p) = false
out_of_place begun Step = false
out_of_place begun (Requirement m) = false
out_of_place begun (Show w) = false
out_of_place begun NotBuilt = true

abbrev pub asks_call : Result Command Form → Bool
asks_call (Ok c) = is_call c
asks_call (Err f) = false

abbrev pub asks_wrongly : Bool → Result Command Form → Bool
asks_wrongly begun (Ok c) = out_of_place begun c
asks_wrongly begun (Err f) = true

abbrev pub call_line : List ℕ → Bool
call_line line = cond (is_copied line) false (asks_call (meaning line))

abbrev pub bad_line : Bool → List ℕ → Bool
bad_line begun line = cond (is_copied line) false (asks_wrongly begun (meaning line))

abbrev pub begun_after : Bool → List ℕ → Bool
begun_after begun line = begun || not (is_copied line)

abbrev pub one_if : Bool → ℕ
one_if b = cond b 1 0

-- how many of these lines are calls of the house
abbrev pub calls_among : List (List ℕ) → ℕ
calls_among [] = 0
calls_among (line ∷ lines) = one_if (call_line line) + calls_among lines

-- how many of these lines are bad
abbrev pub bad_among : Bool → List (List ℕ) → ℕ
bad_among begun [] = 0
bad_among begun (line ∷ lines) = one_if (bad_line begun line) + bad_among (begun_after begun line) lines

-- 64 members times 17 results a year times four years
abbrev pub default_lending : Lending
default_lending = record { orders = 256; lots = 8192; tape = 4096; results = 4352; vault = Table }

abbrev pub lending_command : Command → Lending
lending_command (Lend l) = l
lending_command GasRule = default_lending
lending_command (HubRule t s) = default_lending
lending_command (Open m y n) = default_lending
lending_command (Deposit m a) = default_lending
lending_command (Withdraw m a) = default_lending
lending_command (command.List c p r) = default_lending
lending_command (Halt c) = default_lending
lending_command (Resume c p) = default_lending
lending_command Step = default_lending
lending_command (Requirement m) = default_lending
lending_command (Show w) = default_lending
lending_command NotBuilt = default_lending

abbrev pub lending_asked : Result Command Form → Lending
lending_asked (Ok c) = lending_command c
lending_asked (Err f) = default_lending

-- what a script runs on: what its first line that is not copied lends
abbrev pub lent : List (List ℕ) → Lending
lent [] = default_lending
lent (line ∷ lines) = cond (is_copied line) (lent lines) (lending_asked (meaning line))
