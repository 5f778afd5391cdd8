use Rattle.std.proofs.Common.{codes, refl, rules, arith}
use Rattle.std.proofs.lemmas.Slice.Eq.{text_from_reads}
use Rattle.grammar.proofs.forms.FormFromRefSliceU8.from.Goals as goal

-- The check finds these alone too, but not at half of its limits.
pub returns-in-order-2 : goal.returns-in-order-2
returns-in-order-2 c = rw (text_from_reads c.args.word.now (codes "close") (omega arith) (search rules)) refl

pub returns-in-order-3 : goal.returns-in-order-3
returns-in-order-3 c = rw (text_from_reads c.args.word.now (codes "calls") (omega arith) (search rules)) refl

pub returns-in-order-4 : goal.returns-in-order-4
returns-in-order-4 c = rw (text_from_reads c.args.word.now (codes "books") (omega arith) (search rules)) refl

pub returns-in-order-5 : goal.returns-in-order-5
returns-in-order-5 c = rw (text_from_reads c.args.word.now (codes "cancel") (omega arith) (search rules)) refl

pub returns-in-order-6 : goal.returns-in-order-6
returns-in-order-6 c = rw (text_from_reads c.args.word.now (codes "settle") (omega arith) (search rules)) refl
