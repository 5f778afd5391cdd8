-- What the books of a house mean.
use Rattle.books.specs.Books.{Books, books_in}
use Rattle.books.specs.declared.books.Books as books

-- the lots in line, and the results
abbrev pub books_of : books.Books → Books
books_of b = books_in b.lots.line.table b.results
