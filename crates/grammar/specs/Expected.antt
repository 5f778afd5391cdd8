-- What is said of a line that is not of its form.
use Rattle.std.specs.Prelude.{ℕ, List, codes}
use Rattle.grammar.specs.declared.forms.Form.{Form}
use Rattle.grammar.specs.declared.forms.Form.TheVariants.{Lend, Rule, Open, Deposit, Withdraw, Halt, Resume, Step, Requirement, Show, NotBuilt, Unknown}
use Rattle.grammar.specs.declared.forms.Form.TheVariants as form

abbrev pub expected : Form → List ℕ
expected Lend = codes "expected, as the first line: lend ORDERS LOTS TAPE RESULTS table, or lend ORDERS LOTS TAPE RESULTS journal ENTRIES, each length at most 70000"
expected Rule = codes "expected: rule gas, or rule hub TAX SHARE"
expected Open = codes "expected: open MEMBERS YEAR YEARS"
expected Deposit = codes "expected: deposit MEMBER AMOUNT"
expected Withdraw = codes "expected: withdraw MEMBER AMOUNT"
expected form.List = codes "expected: list CONTRACT PRICE RATE"
expected Halt = codes "expected: halt CONTRACT"
expected Resume = codes "expected: resume CONTRACT PRICE"
expected Step = codes "expected: step"
expected Requirement = codes "expected: requirement MEMBER"
expected Show = codes "expected: show orders, lots, tape, results, balances or phase"
expected NotBuilt = codes "not built yet"
expected Unknown = codes "expected: lend, rule, open, deposit, withdraw, list, halt, resume, step, requirement or show"
