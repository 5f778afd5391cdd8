use Rattle.std.proofs.Common.{[], ◌∷◌}
use Rattle.std.proofs.lemmas.Result.{err_from_is_err_and}
use Rattle.market.specs.Calendar.{contract_of}
use Rattle.market.specs.declared.phase.Event.TheVariants as event
use Rattle.market.specs.declared.refusal.Refusal.TheVariants as no
use Rattle.history.specs.Standing.{of_contract, past_inside}
use Rattle.history.specs.Listing.{contract_refusals, wrong_base}
use Rattle.history.proofs.Refused.{first_append}
use Rattle.house.specs.View.{view}
use Rattle.house.proofs.house.House.may_list.Goals as goal

pub returns-in_err-contract : goal.returns-in_err-contract
returns-in_err-contract c =
    let s = view c.args.self.now in
    let p = err_from_is_err_and c.from_residual.result c.from_residual.ensures.1 in
    rw (p.1, p.2) (first_append (contract_refusals s event.List c.args.number)
    ((no.BasePrice, wrong_base c.args.price c.args.rate) ∷ (no.PastInside, of_contract (contract_of c.args.number s.years) (past_inside s)) ∷ [])
    c.in_err-contract.field-0.0 c.in_err-contract.ensures)
