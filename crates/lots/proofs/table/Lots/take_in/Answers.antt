-- What closing leaves of the lot has a free place and room; the lots are those after the arrival, kept as before.
use Rattle.std.proofs.Common.{◌≡◌, ◌*◌, ◌≤◌, List, nat_abs, sym, ap, ◌∙◌, subst, arith, w64}
use Rattle.std.proofs.lemmas.Int.{to_z-of_z}
use Rattle.line.specs.Lines.{Free, each}
use Rattle.line.specs.Tables.{records}
use Rattle.market.specs.Places.{lot_place}
use Rattle.market.specs.declared.records.Lot.{Lot}
use Rattle.lots.specs.Lots.{fit, one_sided}
use Rattle.lots.specs.Closing.{with_quantity, closing, rested, arrived, earnings}
use Rattle.lots.proofs.Products.{small}
use Rattle.lots.proofs.Fits.{fit_parts}
use Rattle.lots.proofs.Keeping.{closing_free, arrived_fit, arrived_sided}
use Rattle.lots.proofs.table.Lots.take_in.Goals as goal

pub put_rest-requires : goal.put_rest-requires
put_rest-requires c =
    let a = c.args.arrival.lot in let k = c.close-rest in
    let ku = k.ensures.used in let kl = k.ensures.lent.length in let rm = c.requires.room in
    record {
      room = omega arith;
      free = subst (λ (xs : List Lot). Free lot_place (with_quantity a k.result.left) xs) (sym k.ensures.records) (closing_free a k.result.left (records c.args.self.now.line.table) c.requires.free);
    }

pub invariant_of-self : goal.invariant_of-self
unfolding arrived
invariant_of-self c =
    let a = c.args.arrival.lot in let k = c.close-rest in
    let rs = records c.args.self.now.line.table in
    let e : records c.put_rest.new.line.table ≡ arrived a rs = c.put_rest.ensures.records ∙ ap (rested (with_quantity a k.result.left)) k.ensures.records ∙ ap (λ n. rested (with_quantity a n) (closing a a.quantity rs).lots) k.ensures.left in
    record { fitting = ap (each fit) e ∙ arrived_fit a rs c.args.self.now.fitting c.args.arrival.fit; sided = ap one_sided e ∙ arrived_sided a rs c.args.self.now.sided }

pub returns : goal.returns
unfolding arrived earnings
returns c =
    let a = c.args.arrival.lot in let k = c.close-rest in let p = c.put_rest.ensures in
    let rs = records c.args.self.now.line.table in
    let e : records c.put_rest.new.line.table ≡ arrived a rs = p.records ∙ ap (rested (with_quantity a k.result.left)) k.ensures.records ∙ ap (λ n. rested (with_quantity a n) (closing a a.quantity rs).lots) k.ensures.left in
    let hb = k.ensures.bound in
    let hq = (fit_parts a c.args.arrival.fit).most in
    let sm : nat_abs k.result.earned ≤ 4000000 * 2500 = omega arith in
    let g = to_z-of_z w64 k.result.earned (small k.result.earned sm) in
    let ku = k.ensures.used in let pu = p.used in
    record {
      lent = record { same = p.lent.same ∙ k.ensures.lent.same; length = p.lent.length ∙ k.ensures.lent.length; cleared = λ h. p.lent.cleared (k.ensures.lent.cleared h) };
      used = omega arith;
      records = e;
      earned = g ∙ k.ensures.earned;
      bound = omega (arith, ap nat_abs g);
    }
