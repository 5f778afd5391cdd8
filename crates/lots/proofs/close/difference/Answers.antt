-- The product is the difference as ℤ has it.
use Rattle.lots.proofs.Products.{product_bound}
use Rattle.lots.proofs.close.difference.Goals as goal

pub returns-clause-bound : goal.returns-clause-bound
returns-clause-bound c = product_bound c.args.quantity c.args.sold c.args.bought c.from.result c.from-2.result c.from-3.result c.from.ensures c.from-2.ensures c.from-3.ensures c.requires.quantity c.requires.sold c.requires.bought
