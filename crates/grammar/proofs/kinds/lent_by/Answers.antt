use Rattle.std.proofs.Common.{◌≡◌, not, rules, tests}
use Rattle.std.proofs.lemmas.Iterator.Consumers.{YieldsList-from_first}
use Rattle.std.proofs.lemmas.Iterator.Search.{find_from_yields_List}
use Rattle.std.specs.Option.{option_map_or}
use Rattle.grammar.specs.Kinds.{is_copied, lent, lending_asked, default_lending}
use Rattle.grammar.specs.Words.{lines}
use Rattle.grammar.proofs.Lender.{asked_first}
use Rattle.grammar.proofs.kinds.lent_by.Goals as goal

pub returns-in-Some-Ok-Lend : goal.returns-in-Some-Ok-Lend
returns-in-Some-Ok-Lend c =
    let all = lines c.args.script.now in
    let first = find_from_yields_List (λ line. not (is_copied line)) _ _ c.find-first.result c.find-first.ensures.ran (YieldsList-from_first (λ x. x.now) (λ ls. ls) all c.new.ensures) (λ x b q k. search (rules, tests)) in
    let told : option_map_or lending_asked c.map.result default_lending ≡ lent all = asked_first all c.find-first.result c.map.result first (search rules) in
    search rules

pub returns-in_default : goal.returns-in_default
returns-in_default c =
    let all = lines c.args.script.now in
    let first = find_from_yields_List (λ line. not (is_copied line)) _ _ c.find-first.result c.find-first.ensures.ran (YieldsList-from_first (λ x. x.now) (λ ls. ls) all c.new.ensures) (λ x b q k. search (rules, tests)) in
    let told : option_map_or lending_asked c.map.result default_lending ≡ lent all = asked_first all c.find-first.result c.map.result first (search rules) in
    search rules
