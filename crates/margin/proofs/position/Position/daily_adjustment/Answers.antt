-- A net of 64 bits is read in 128 bits as it is, and at a price of at most 4,000,000 its value is small.
use Rattle.std.proofs.Common.{◌≡◌, ℕ, ◌*◌, ◌^◌, ◌≤◌, ℤ, pos, ◌*ℤ◌, nat_abs, ap, ◌∙◌, arith, w64, SFits, to_z, of_z, rules}
use mir.Syntax.{w128}
use Rattle.std.proofs.lemmas.Int.{ints}
use Rattle.std.proofs.lemmas.Nat.{mul-le}
use Rattle.margin.proofs.position.Position.daily_adjustment.Goals as goal

small : (c : goal.After-times) → nat_abs c.times.result ≤ 4000000 * 2 ^ 63
small c =
    let fits : SFits w64 c.args.self.now.net = search rules in
    let most : c.price.result * nat_abs (to_z w128 (of_z w128 c.from.result)) ≤ 4000000 * 2 ^ 63 = mul-le c.price.result (nat_abs (to_z w128 (of_z w128 c.from.result))) 4000000 (2 ^ 63) (omega arith) (omega (arith, ints)) in
    omega (arith, c.times.ensures.size, most)

pub overflow_sub-result : goal.overflow_sub-result
overflow_sub-result c = omega (arith, ints, small c)

pub returns : goal.returns
returns c =
    let fits : SFits w64 c.args.self.now.net = search rules in
    let net : to_z w128 (of_z w128 c.from.result) ≡ c.args.self.now.net = omega (arith, ints) in
    let product : c.times.result ≡ pos c.args.opening.now.price *ℤ c.args.self.now.net = c.times.ensures.product ∙ ap (λ (z : ℤ). pos c.price.result *ℤ z) net ∙ ap (λ (p : ℕ). pos p *ℤ c.args.self.now.net) c.price.ensures in
    let most = small c in
    record { daily = omega (arith, ints); bounded = omega (arith, ints) }
