-- The lot arrives at the result of its member in its contract.
use Rattle.std.proofs.Common.{◌≡◌, ℕ, List, get_or, set, ℤ, pos, ◌+ℤ◌, ap, ◌∙◌, arith}
use Rattle.line.specs.Tables.{records}
use Rattle.market.specs.declared.records.Lot.{Lot}
use Rattle.lots.specs.Closing.{earnings}
use Rattle.lots.specs.Sums.{weight}
use Rattle.books.specs.Books.{result_in, weight_in, arrival}
use Rattle.books.specs.View.{books_of}
use Rattle.books.proofs.Rows.{index_within}
use Rattle.books.proofs.books.Books.book_lot.Goals as goal

pub arrive-requires-clause-there : goal.arrive-requires-clause-there
arrive-requires-clause-there c =
    let b = c.args.self.now in
    omega (arith, index_within b.members b.years c.args.arriving.lot.member c.args.contract c.requires.member c.requires.house, c.result_index-index.ensures, b.counted)

pub arrive-requires-clause-weight : goal.arrive-requires-clause-weight
unfolding weight_in
arrive-requires-clause-weight c =
    let b = c.args.self.now in let l = c.args.arriving.lot in let p = c.requires in
    let rs = records b.results in let ls = records b.lots.line.table in
    let same : weight l.member l.contract (get_or rs c.result_index-index.result (pos 0)) ls ≡ weight_in b.years (books_of b) l.member c.args.contract
    = ap (λ (k : ℕ). weight l.member l.contract (get_or rs k (pos 0)) ls) c.result_index-index.ensures
    ∙ ap (λ (k : ℕ). weight l.member k (result_in b.years (books_of b) l.member c.args.contract) ls) p.contract in
    omega (arith, same, p.weighed l.member p.member)

pub returns-clause-does : goal.returns-clause-does
unfolding arrival
returns-clause-does c =
    let b = c.args.self.now in let l = c.args.arriving.lot in let e = c.arrive.ensures in
    let rs = records b.results in let ls = records b.lots.line.table in
    let after = arrival b.years c.args.contract l (books_of b) in
    let results : records c.arrive.new.results ≡ after.results
    = e.results ∙ ap (λ (k : ℕ). set rs k (get_or rs k (pos 0) +ℤ earnings l ls)) c.result_index-index.ensures in
    ap (λ (x : List Lot). record { lots = x; results = records c.arrive.new.results }) e.lots ∙ ap (λ (x : List ℤ). record { lots = after.lots; results = x }) results
