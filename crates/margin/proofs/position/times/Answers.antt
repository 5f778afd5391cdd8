-- A number of at most 32 bits times an amount of fewer than 96 bits fits 128 bits.
use Rattle.std.proofs.Common.{◌^◌, pos, nat_abs, arith}
use Rattle.std.proofs.lemmas.Int.{ints}
use Rattle.margin.proofs.Products.{Small, product_exact, size_mul, size_le}
use Rattle.margin.proofs.position.times.Goals as goal

small : (c : goal.After-from) → Small c.from.result c.args.amount (pos c.args.count) c.args.amount
small c =
    let most = size_le (pos c.args.count) c.args.amount (2 ^ 32) (nat_abs c.args.amount) (omega arith) (omega arith) in
    record { left = omega (arith, ints); right = omega (arith, ints); small = omega arith }

pub returns : goal.returns
returns c =
    let exact = product_exact c.from.result c.args.amount (pos c.args.count) c.args.amount (small c) in
    record { product = exact; size = rw exact (size_mul (pos c.args.count) c.args.amount) }
