-- One turn adds one lot; behind the run the sums are 0.
use Rattle.std.proofs.Common.{◌≡◌, ℕ, ◌+◌, ◌*◌, ◌≤◌, true, false, length, drop, ℤ, pos, ◌+ℤ◌, sym, ap, ◌∙◌, arith}
use borrow.Author.Differences.{ints}
use Rattle.std.proofs.lemmas.List.{length-take-le}
use Rattle.std.proofs.lemmas.Bool.{and_from, and_left, and_right, eq-eqb, ne_eqb}
use Rattle.line.specs.Lines.{spot}
use Rattle.line.specs.Tables.{records, whole}
use Rattle.line.proofs.Lines.{opened}
use Rattle.market.specs.Places.{lot_place}
use Rattle.lots.specs.Lots.{first_place, held_by}
use Rattle.lots.specs.Sums.{lot_net, lot_value, net, value}
use Rattle.lots.proofs.Products.{more}
use Rattle.lots.proofs.Fits.{fit_at, lot_from, seen, behind_all}
use Rattle.lots.proofs.Sums.{sum_whole, sum_more, sum_end, sum_past}
use Rattle.lots.proofs.table.Lots.holding.Goals as goal
use Rattle.lots.proofs.table.Lots.holding.Goals.{then-lot-member-via-then-lot-member, then-lot-member-via-else-lot-member+then-lot-contract}

pub holding_of-one-requires : goal.holding_of-one-requires
holding_of-one-requires c =
    let b = c.args.self.now in let t = b.line.table in
    let rs = records t in
    let from = c.spot-from.result in
    let s = seen c.records.result.now rs from c.loop-lot.lot-index c.records.ensures (omega (arith, c.spot-from.ensures.within, ap length c.records.ensures, length-take-le t.used (whole t) c.args.self.now.line.within)) c.loop-lot-test.true in
    fit_at rs (from + c.loop-lot.lot-index) _ b.fitting s.there s.is

pub overflow_add-held : goal.overflow_add-held
overflow_add-held c =
    let t = c.args.self.now.line.table in
    let i = c.loop-lot.invariant in
    let s = seen c.records.result.now (records t) c.spot-from.result c.loop-lot.lot-index c.records.ensures (omega (arith, c.spot-from.ensures.within, ap length c.records.ensures, length-take-le t.used (whole t) c.args.self.now.line.within)) c.loop-lot-test.true in
    let few : c.loop-lot.lot-index ≤ 8192 = omega (arith, c.requires, s.there, length-take-le t.used (whole t) c.args.self.now.line.within, c.args.self.now.line.within) in
    let b = i.small in let w = c.holding_of-one.ensures.small in
    omega (arith, ints)

pub overflow_add-held-in-loop-lot : goal.overflow_add-held-in-loop-lot
overflow_add-held-in-loop-lot c =
    let t = c.args.self.now.line.table in
    let i = c.loop-lot.invariant in
    let s = seen c.records.result.now (records t) c.spot-from.result c.loop-lot.lot-index c.records.ensures (omega (arith, c.spot-from.ensures.within, ap length c.records.ensures, length-take-le t.used (whole t) c.args.self.now.line.within)) c.loop-lot-test.true in
    let few : c.loop-lot.lot-index ≤ 8192 = omega (arith, c.requires, s.there, length-take-le t.used (whole t) c.args.self.now.line.within, c.args.self.now.line.within) in
    let b = i.bound in let w = c.holding_of-one.ensures.bound in
    omega (arith, ints)

pub loop-lot-preserved : goal.loop-lot-preserved
loop-lot-preserved c =
    let a = c.args in let t = a.self.now.line.table in let i = c.loop-lot.invariant in let w = c.holding_of-one in
    let rs = records t in
    let from = c.spot-from.result in
    let k = c.loop-lot.lot-index in
    let s = seen c.records.result.now rs from k c.records.ensures (omega (arith, c.spot-from.ensures.within, ap length c.records.ensures, length-take-le t.used (whole t) c.args.self.now.line.within)) c.loop-lot-test.true in
    let onward : from + k + 1 ≡ from + (k + 1) = omega arith in
    let l = lot_from c.records.result.now from k in
    let o : held_by a.member a.contract l ≡ true = and_from _ _ (eq-eqb _ _ c.if-lot-member.false) (eq-eqb _ _ c.if-lot-contract.false) in
    let n = sum_more lot_net a.member a.contract rs (from + k) l s.there s.is o ∙ ap (λ (j : ℕ). lot_net l +ℤ net a.member a.contract (drop j rs)) onward in
    let v = sum_more lot_value a.member a.contract rs (from + k) l s.there s.is o ∙ ap (λ (j : ℕ). lot_value l +ℤ value a.member a.contract (drop j rs)) onward in
    let few : k ≤ 8192 = omega (arith, c.requires, s.there, length-take-le t.used (whole t) c.args.self.now.line.within, c.args.self.now.line.within) in
    let ln : 2500 * k + 2500 ≤ 100000000000000 = omega arith in
    let lv : 10000000000 * k + 10000000000 ≤ 100000000000000 = omega arith in
    let bn = more c.loop-lot.held.net w.result.net _ _ _ (2500 * k) 2500 i.small w.ensures.small ln i.net (n ∙ ap (λ z. z +ℤ net a.member a.contract (drop (from + (k + 1)) rs)) (sym w.ensures.net)) in
    let bv = more c.loop-lot.held.value w.result.value _ _ _ (10000000000 * k) 10000000000 i.bound w.ensures.bound lv i.value (v ∙ ap (λ z. z +ℤ value a.member a.contract (drop (from + (k + 1)) rs)) (sym w.ensures.value)) in
    record {
      small = omega (arith, bn.0);
      bound = omega (arith, bv.0);
      net = bn.1;
      value = bv.1;
    }

-- the sum so far is the whole sum, where that of what is left is 0
so_far : (whole run so-far left : ℤ) → whole ≡ run → run ≡ so-far +ℤ left → left ≡ pos 0 → so-far ≡ whole
so_far whole run so-far left a b e = omega (arith, ints)

pub returns-after-loop-lot-clause-net : goal.returns-after-loop-lot-clause-net
returns-after-loop-lot-clause-net c =
    let a = c.args in let t = a.self.now.line.table in let rs = records t in
    let from = c.spot-from.result in let k = c.loop-lot.lot-index in
    let is : from ≡ spot lot_place (first_place a.member a.contract) rs = c.spot-from.ensures.spot ∙ ap (λ p. spot lot_place p rs) c.first_key.ensures in
    so_far _ _ _ _ (sum_whole lot_net a.member a.contract rs from is) c.loop-lot.invariant.net (sum_end lot_net a.member a.contract rs (from + k) (behind_all c.records.result.now rs from k c.records.ensures c.loop-lot-test.false))

pub returns-after-loop-lot-clause-value : goal.returns-after-loop-lot-clause-value
returns-after-loop-lot-clause-value c =
    let a = c.args in let t = a.self.now.line.table in let rs = records t in
    let from = c.spot-from.result in let k = c.loop-lot.lot-index in
    let is : from ≡ spot lot_place (first_place a.member a.contract) rs = c.spot-from.ensures.spot ∙ ap (λ p. spot lot_place p rs) c.first_key.ensures in
    so_far _ _ _ _ (sum_whole lot_value a.member a.contract rs from is) c.loop-lot.invariant.value (sum_end lot_value a.member a.contract rs (from + k) (behind_all c.records.result.now rs from k c.records.ensures c.loop-lot-test.false))

pub returns-then-lot-member-clause-net : goal.returns-then-lot-member-clause-net
returns-then-lot-member-clause-net c =
    let a = c.args in let t = a.self.now.line.table in let rs = records t in
    let from = c.spot-from.result in let k = c.loop-lot.lot-index in
    let l = lot_from c.records.result.now from k in
    let is : from ≡ spot lot_place (first_place a.member a.contract) rs = c.spot-from.ensures.spot ∙ ap (λ p. spot lot_place p rs) c.first_key.ensures in
    let s = seen c.records.result.now rs from k c.records.ensures (omega (arith, c.spot-from.ensures.within, ap length c.records.ensures, length-take-le t.used (whole t) c.args.self.now.line.within)) c.loop-lot-test.true in
    let o : held_by a.member a.contract l ≡ false = elim c.then-lot-member.branch [
      | then-lot-member-via-then-lot-member w ↦ and_left _ _ (ne_eqb _ _ w.if-lot-member.true)
      | then-lot-member-via-else-lot-member+then-lot-contract w ↦ and_right _ _ (ne_eqb _ _ w.if-lot-contract.true)
    ] in
    so_far _ _ _ _ (sum_whole lot_net a.member a.contract rs from is) c.loop-lot.invariant.net (sum_past lot_net a.member a.contract rs from (from + k) l (opened lot_place rs a.self.now.line.lined) is (omega arith) s.there s.is o)

pub returns-then-lot-member-clause-value : goal.returns-then-lot-member-clause-value
returns-then-lot-member-clause-value c =
    let a = c.args in let t = a.self.now.line.table in let rs = records t in
    let from = c.spot-from.result in let k = c.loop-lot.lot-index in
    let l = lot_from c.records.result.now from k in
    let is : from ≡ spot lot_place (first_place a.member a.contract) rs = c.spot-from.ensures.spot ∙ ap (λ p. spot lot_place p rs) c.first_key.ensures in
    let s = seen c.records.result.now rs from k c.records.ensures (omega (arith, c.spot-from.ensures.within, ap length c.records.ensures, length-take-le t.used (whole t) c.args.self.now.line.within)) c.loop-lot-test.true in
    let o : held_by a.member a.contract l ≡ false = elim c.then-lot-member.branch [
      | then-lot-member-via-then-lot-member w ↦ and_left _ _ (ne_eqb _ _ w.if-lot-member.true)
      | then-lot-member-via-else-lot-member+then-lot-contract w ↦ and_right _ _ (ne_eqb _ _ w.if-lot-contract.true)
    ] in
    so_far _ _ _ _ (sum_whole lot_value a.member a.contract rs from is) c.loop-lot.invariant.value (sum_past lot_value a.member a.contract rs from (from + k) l (opened lot_place rs a.self.now.line.lined) is (omega arith) s.there s.is o)
