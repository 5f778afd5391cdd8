-- The books of an opened house weigh nothing, and each table has as many places as were lent.
use Rattle.std.proofs.Common.{◌*◌, ap, arith}
use Rattle.line.specs.Tables.{held, places}
use Rattle.market.specs.Records.{no_order, no_lot, no_trade}
use Rattle.house.proofs.Books.{blank_length, blank_weighed}
use Rattle.house.proofs.house.House.begin.Goals as goal

pub invariant_of-self-clause-weighed : goal.invariant_of-self-clause-weighed
invariant_of-self-clause-weighed c =
    let b = c.clear-2.ensures in
    blank_weighed c.clear-2.new.self c.clear-3.new.self (c.args.size.members * (17 * c.args.size.years)) (ap (λ h. h.records) b.results) (ap (λ h. h.records) b.lots)

pub invariant_of-self-clause-few_orders : goal.invariant_of-self-clause-few_orders
invariant_of-self-clause-few_orders c _ =
    omega (arith, c.requires.lengths.0, blank_length c.clear.new.self.table no_order 0 (places (held c.args.self.now.orders.table)) (omega arith) c.clear.ensures.holds)

pub invariant_of-self-clause-few_lots : goal.invariant_of-self-clause-few_lots
invariant_of-self-clause-few_lots c _ =
    omega (arith, c.requires.lengths.1, blank_length c.clear-2.new.self.lots.line.table no_lot 0 (places (held c.args.self.now.books.lots.line.table)) (omega arith) c.clear-2.ensures.lots)

pub invariant_of-self-clause-few_trades : goal.invariant_of-self-clause-few_trades
invariant_of-self-clause-few_trades c _ =
    omega (arith, c.requires.lengths.2, blank_length c.clear-3.new.self no_trade 0 (places (held c.args.self.now.tape)) (omega arith) c.clear-3.ensures.holds)
