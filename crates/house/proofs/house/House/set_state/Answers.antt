-- The price records stay.
use Rattle.std.proofs.Common.{get_or, refl}
use Rattle.std.proofs.lemmas.List.{map-set}
use Rattle.house.specs.View.{state_in}
use Rattle.house.specs.declared.house.Standing.{Standing}
use Rattle.house.proofs.Standings.{same_terms}
use Rattle.house.proofs.house.House.set_state.Goals as goal

pub returns : goal.returns
returns c =
    let e = c.slot-at.ensures in
    let cs = c.args.self.now.contracts in
    let old = c.index-self-at.result in
    let new : Standing = record { state = c.args.state; opening = (get_or cs c.slot-at.result old).opening } in
    let m = map-set state_in cs c.slot-at.result new in
    let n = same_terms cs c.slot-at.result old new refl in
    cc
