-- A number that names a contract names one of the house.
use Rattle.std.proofs.Common.{◌≡◌, ℕ, true, subst, sym}
use Rattle.std.specs.Prelude.{IfOk}
use Rattle.std.specs.Option.{ok_or}
use Rattle.std.specs.declared.option.Option.{Option}
use Rattle.std.specs.declared.option.Option.TheVariants.{Some, None}
use Rattle.market.specs.Calendar.{contract_of, in_house}
use Rattle.market.specs.declared.calendar.Contract.{Contract}
use Rattle.market.specs.declared.refusal.Refusal.{Refusal}
use Rattle.market.proofs.Numbers.{numbers_own}
use Rattle.house.proofs.house.House.contract.Goals as goal

own : (years n : ℕ) (o : Option Contract) (e : Refusal) → o ≡ contract_of n years → IfOk (ok_or o e) (λ c. in_house years c ≡ true)
own years n None e h = tt
own years n (Some c) e h = (numbers_own years n c (sym h)).0

pub returns-clause-within : goal.returns-clause-within
returns-clause-within c = subst (λ r. IfOk r (λ k. in_house c.args.self.now.books.years k ≡ true)) (sym c.ok_or.ensures.value) (own c.args.self.now.books.years c.args.number c.of.result _ c.of.ensures)
