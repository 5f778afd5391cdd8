-- A result weighs no more than the trades on the tape can have brought.
use Rattle.std.proofs.Common.{◌*◌, ◌≤◌, length, ℤ, nat_abs, sym, ◌∙◌, subst, arith, w64}
use Rattle.std.proofs.lemmas.Int.{to_z-of_z}
use Rattle.line.specs.Tables.{whole}
use Rattle.books.specs.Books.{result_in, weight_in}
use Rattle.books.specs.View.{books_of}
use Rattle.house.proofs.Books.{contract_weighed, opened_by}
use Rattle.house.proofs.house.House.result_of.Goals as goal

pub returns : goal.returns
unfolding weight_in
returns c =
    let h = c.args.self.now in let b = h.books in
    let back = to_z-of_z w64 c.result.result (record { sfits = c.result.type_inv }) in
    let is = c.result.ensures in
    let brief : length (whole h.tape) ≤ 4096 = h.few_trades (opened_by h.phase b.members c.args.member h.vacant c.requires.member) in
    let taped = h.taped.0 in
    let weighed = contract_weighed b.years (books_of b) c.args.member (10000000000 * h.tape.used) (λ month lt. h.weighed c.args.member month c.requires.member lt) c.args.contract c.requires.contract in
    let small : nat_abs (result_in b.years (books_of b) c.args.member c.args.contract) ≤ 40960000000000 = omega (arith, weighed, brief, taped) in
    record { is = back ∙ is; bound = subst (λ (z : ℤ). nat_abs z ≤ 40960000000000) (sym (back ∙ is)) small }
