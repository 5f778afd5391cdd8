-- Each turn chooses one record more, or leaves it out.
use Rattle.std.proofs.Common.{take, refl, subst, arith}
use Rattle.std.proofs.lemmas.List.{take_all}
use denote.Param.Always.{mut_next}
use Rattle.std.specs.Fn.{CalledAt}
use Rattle.std.specs.List.Retain.{IsFiltered}
use Rattle.line.proofs.Choosing.{none_yet, one_chosen, one_left, filtered}
use Rattle.line.proofs.sift.sift.Goals as goal
use Rattle.line.proofs.sift.sift.Goals.{then-test, else-test}

pub loop-i-init : goal.loop-i-init
loop-i-init g c = record { callable = c.requires; chosen = none_yet (CalledAt g.F.FnMut) c.args.test c.args.records.now }

pub loop-i-preserved : goal.loop-i-preserved
loop-i-preserved g c =
    let i = c.loop-i.invariant in
    let R = CalledAt g.F.FnMut in
    let callable = mut_next g.F.FnMut c.loop-i.test _ c.test.result c.test.new.self c.test.new.self c.test.ensures refl i.callable in
    elim c.if-test.branch [
      | then-test w ↦ rw (w.records-is, w.chosen-is) (record { callable = callable; chosen = one_chosen R c.test.new.self c.index-records-i.result i.chosen (omega (arith, i.chosen.long)) c.index-records-i.is (record { shown = _; shows = refl; called = w.if-test.ensures }) })
      | else-test w ↦ rw (w.records-is, w.chosen-is) (record { callable = callable; chosen = one_left R c.test.new.self c.index-records-i.result i.chosen (omega (arith, i.chosen.long)) c.index-records-i.is (record { shown = _; shows = refl; called = w.if-test.ensures }) })
    ]

pub returns : goal.returns
returns g c =
    let i = c.loop-i.invariant in
    let xs = c.args.records.now in
    let le = i.chosen.behind in
    let within = i.chosen.within in
    record {
      within = omega (arith, le, within);
      length = i.chosen.long;
      chosen = subst (λ l. IsFiltered (CalledAt g.F.FnMut) c.args.test l (take c.loop-i.chosen c.loop-i.records)) (take_all c.loop-i.i xs c.loop-i-test.false) (filtered (CalledAt g.F.FnMut) i.chosen);
    }
