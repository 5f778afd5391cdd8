use Rattle.std.proofs.Common.{◌≡◌, drop}
use Rattle.grammar.proofs.Reading.{read}
use Rattle.grammar.proofs.numbers.number_up_to.Given as goal

abbrev pub invariant-loop-byte : goal.invariant-loop-byte
invariant-loop-byte l = read l.most l.number (drop l.byte-index l.word) ≡ read l.most 0 l.word
