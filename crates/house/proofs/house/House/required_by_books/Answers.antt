-- What the contracts add, or nothing where that is negative.
use Rattle.std.proofs.Common.{ℕ, ◌+◌, ap, ◌∙◌}
use Rattle.margin.specs.Cover.{positive_part}
use Rattle.history.specs.BooksCover.{required_by_books}
use Rattle.house.proofs.Adding.{or_zero}
use Rattle.house.proofs.house.House.required_by_books.Goals as goal

pub returns : goal.returns
unfolding required_by_books
returns g c =
    let more = c.added_by_books in
    ap (λ (n : ℕ). 15000000 + n) (or_zero more.result c.max.result more.ensures.bound c.max.ensures.value ∙ ap positive_part more.ensures.is)
