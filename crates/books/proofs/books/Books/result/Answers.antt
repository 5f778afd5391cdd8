-- The row of a member lies within the results.
use Rattle.std.proofs.Common.{arith}
use Rattle.books.proofs.Rows.{index_within}
use Rattle.books.proofs.books.Books.result.Goals as goal

pub at-requires : goal.at-requires
at-requires c =
    let b = c.args.self.now in
    omega (arith, index_within b.members b.years c.args.member c.args.contract c.requires.member c.requires.contract, c.result_index.ensures, b.counted)
