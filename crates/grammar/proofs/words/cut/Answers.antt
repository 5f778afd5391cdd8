use Rattle.std.proofs.Common.{rules, add-one}
use Rattle.std.proofs.lemmas.List.{take_rest}
use Rattle.grammar.proofs.Cutting.{cut_at, uncut}
use Rattle.grammar.proofs.words.cut.Goals as goal

pub returns-in-Some : goal.returns-in-Some
returns-in-Some c =
    let here = cut_at c.args.mark c.args.bytes.now c.in-Some.at (search rules) (search rules) (search rules) in
    record { front = here.front; back = simp (take_rest, add-one) here.back }

pub returns-in-None : goal.returns-in-None
returns-in-None c =
    let nowhere = uncut c.args.mark c.args.bytes.now (search rules) in
    record { front = nowhere.front; back = nowhere.back }
