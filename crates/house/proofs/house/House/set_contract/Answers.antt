use Rattle.std.proofs.lemmas.List.{map-set}
use Rattle.house.specs.View.{state_in, terms_in}
use Rattle.house.specs.declared.house.Standing.{Standing}
use Rattle.house.proofs.house.House.set_contract.Goals as goal

pub returns : goal.returns
returns c =
    let e = c.slot-at.ensures in
    let cs = c.args.self.now.contracts in
    let new : Standing = record { state = c.args.state; opening = c.args.opening } in
    let m = map-set state_in cs c.slot-at.result new in
    let n = map-set terms_in cs c.slot-at.result new in
    cc
