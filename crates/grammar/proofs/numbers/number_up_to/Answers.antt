use Rattle.std.proofs.Common.{◌≡◌, ◌+◌, ◌-◌, ◌*◌, ◌<◌, min, length, get_or, arith, false-eqb}
use Rattle.grammar.proofs.Reading.{read_stop, read_on, read_end}
use Rattle.grammar.proofs.numbers.number_up_to.Goals as goal

pub returns-then-not-is_ascii_digit : goal.returns-then-not-is_ascii_digit
returns-then-not-is_ascii_digit c =
    read_stop c.args.most c.loop-byte.number c.loop-byte.byte-index c.args.word.now c.loop-byte.invariant c.loop-byte-test.true (cc)

pub loop-byte-preserved : goal.loop-byte-preserved
loop-byte-preserved c =
    let byte = get_or c.args.word.now c.loop-byte.byte-index 0 in
    let next : c.min-number.result ≡ min (c.loop-byte.number * 10 + (byte - 48)) c.args.most = omega arith in
    read_on c.args.most c.loop-byte.number c.loop-byte.byte-index c.args.word.now c.loop-byte.invariant c.min-number.result c.loop-byte-test.true (cc) next

pub returns : goal.returns
returns c =
    let word = c.args.word.now in
    let some : 0 < length word = omega (arith, false-eqb (length word) 0 c.if-is_empty.ensures) in
    read_end c.args.most c.loop-byte.number c.loop-byte.byte-index word c.loop-byte.invariant some c.loop-byte-test.false
