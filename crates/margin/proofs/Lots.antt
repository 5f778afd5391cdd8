-- The adjustment, by a position's net and value, is that of its lots, one by one.
use Rattle.std.proofs.Common.{◌≡◌, ℕ, ◌*◌, List, [], ◌∷◌, ℤ, pos, ◌+ℤ◌, ◌-ℤ◌, ◌*ℤ◌, neg_ℤ, sym, ap, ◌∙◌, arith}
use borrow.Author.Differences.{ints}
use Rattle.market.specs.declared.records.Lot.{Lot}
use Rattle.market.specs.declared.records.Side.{Side}
use Rattle.market.specs.declared.records.Side.TheVariants.{Free, Buy, Sell}
use Rattle.margin.specs.declared.position.Position.{Position}
use Rattle.margin.specs.Cover.{adjustment, bought_less_sold, worse_by, lots_net, lots_value, lots_adjustment, LotsOf}
use Rattle.margin.proofs.Products.{mul-add, mul-neg, mul-sub}

-- one lot: its quantity and its quantity × price, counted by its side
one_lot : (opening : ℕ) (side : Side) (quantity price : ℕ) → pos quantity *ℤ worse_by opening side price ≡ bought_less_sold side (quantity * price) -ℤ pos opening *ℤ bought_less_sold side quantity
one_lot opening Free quantity price = omega (arith, ints)
one_lot opening Buy quantity price = omega (arith, ints, mul-sub quantity price opening)
one_lot opening Sell quantity price = omega (arith, ints, mul-sub quantity opening price, mul-neg (pos opening) (pos quantity))

-- one more: what a lot and the others count, put together
one_more : (opening : ℕ) (here q n : ℤ) (rest value net : ℤ) → here ≡ q -ℤ pos opening *ℤ n → rest ≡ neg_ℤ value -ℤ pos opening *ℤ net → here +ℤ rest ≡ neg_ℤ (neg_ℤ q +ℤ value) -ℤ pos opening *ℤ (n +ℤ net)
one_more opening here q n rest value net e f = omega (arith, ints, mul-add (pos opening) n net)

-- the lots' own adjustments sum to less their value and less their net at the opening price
pub lots_sum : (opening : ℕ) (lots : List Lot) → lots_adjustment opening lots ≡ neg_ℤ (lots_value lots) -ℤ pos opening *ℤ lots_net lots
lots_sum opening [] = omega (arith, ints)
lots_sum opening (lot ∷ lots) =
    one_more opening
    (pos lot.quantity *ℤ worse_by opening lot.side lot.price) (bought_less_sold lot.side (lot.quantity * lot.price)) (bought_less_sold lot.side lot.quantity)
    (lots_adjustment opening lots) (lots_value lots) (lots_net lots)
    (one_lot opening lot.side lot.quantity lot.price) (lots_sum opening lots)

-- so a position's adjustment is that of its lots
pub adjustment_of_lots : (opening gas_days : ℕ) (position : Position) (lots : List Lot) → LotsOf position lots → adjustment opening gas_days position ≡ pos gas_days *ℤ lots_adjustment opening lots
unfolding adjustment
adjustment_of_lots opening gas_days position lots held =
    ap (λ (z : ℤ). pos gas_days *ℤ z) (ap (λ (v : ℤ). neg_ℤ v -ℤ pos opening *ℤ position.net) held.value ∙ ap (λ (n : ℤ). neg_ℤ (lots_value lots) -ℤ pos opening *ℤ n) held.net ∙ sym (lots_sum opening lots))
