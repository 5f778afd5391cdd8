-- Each turn, closing the whole run is what was earned so far and closing with what is left from here on.
use Rattle.std.proofs.Common.{◌≡◌, ◌+◌, ◌*◌, ◌≤◌, drop, nat_abs}
use Rattle.line.specs.Tables.{records}
use Rattle.lots.specs.Closing.{closing, with_earned}
use Rattle.lots.proofs.close.used_up.Given as goal

abbrev pub invariant-loop-index : goal.invariant-loop-index
invariant-loop-index l = record {
  bound : nat_abs l.earned + 4000000 * l.left ≤ 4000000 * l.arrival.lot.quantity;
  does : closing l.arrival.lot l.arrival.lot.quantity (drop l.from (records l.line.table)) ≡ with_earned l.earned (closing l.arrival.lot l.left (drop (l.from + l.index) (records l.line.table)));
}
