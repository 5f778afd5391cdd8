-- Each turn, the sums over the run are those so far and those from here on.
use Rattle.std.proofs.Common.{◌≡◌, ◌+◌, ◌*◌, ◌≤◌, drop, ◌+ℤ◌, nat_abs}
use Rattle.line.specs.Tables.{records}
use Rattle.lots.specs.Sums.{net, value}
use Rattle.lots.proofs.table.Lots.holding.Given as goal

abbrev pub invariant-loop-lot : goal.invariant-loop-lot
invariant-loop-lot l = record {
  small : nat_abs l.held.net ≤ 2500 * l.lot-index;
  bound : nat_abs l.held.value ≤ 10000000000 * l.lot-index;
  net : net l.member l.contract (drop l.from (records l.self.line.table)) ≡ l.held.net +ℤ net l.member l.contract (drop (l.from + l.lot-index) (records l.self.line.table));
  value : value l.member l.contract (drop l.from (records l.self.line.table)) ≡ l.held.value +ℤ value l.member l.contract (drop (l.from + l.lot-index) (records l.self.line.table));
}
