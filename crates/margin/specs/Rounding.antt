-- A quotient that is rounded up is at most each whole number that is not below it.
use Rattle.std.specs.Prelude.{◌≡◌, ℕ, ◌+◌, ◌*◌, ◌/◌, ◌%◌, ◌<◌, ◌≤◌}
use Rattle.std.proofs.Common.{ap, add-mul, div-add-mod', div-lt_iff_lt-mul, arith}
use Rattle.margin.specs.Units.{rounded_up}

-- the quotient is below k, or is k with nothing left over
pub rounded_up_least : (x d k : ℕ) → 0 < d → x ≤ k * d → rounded_up x d ≤ k
rounded_up_least x d k above le =
    let quotient : x / d < k + 1 = (div-lt_iff_lt-mul above).1 (omega (arith, add-mul k 1 d)) in
    let whole : x / d ≡ k → x % d ≡ 0 = λ e. omega (arith, div-add-mod' x d, ap (λ (n : ℕ). n * d) e) in
    grind arith
