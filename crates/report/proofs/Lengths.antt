-- What is printed of a book and of an order fits on a page. Assumes nothing.
use Rattle.std.proofs.Common.{ℕ, ◌≤◌, ◌++◌, length, codes, decimal, arith, length-append}
use Rattle.text.proofs.Chaining.{decimal_short}
use Rattle.book.specs.declared.books.Book.{Book}
use Rattle.book.specs.Ranges.{Lawful}
use Rattle.book.specs.Writing.{book_text}
use Rattle.book.proofs.Putting.{written_length}
use Rattle.sheet.specs.Pairs.{Pairs}
use Rattle.order.specs.declared.limits.Limit.{Limit}
use Rattle.order.specs.declared.limits.Limit.TheVariants.{Time, Grade, Both}
use Rattle.order.specs.Statements.{ShortLimit}
use Rattle.order.specs.Limits.{time_name, grade_name, limit_name}
use Rattle.report.specs.Sheets.{sheet_text}
use Rattle.report.specs.Reports.{heading, book_summary, order_summary}
use Rattle.report.proofs.Listing.{places_length}

limit_length : (l : Limit) → ShortLimit l → length (limit_name l) ≤ 40
limit_length (Time time) h = omega (arith, length-append (codes "time ") (decimal time), decimal_short time h)
limit_length (Grade grade) h = omega (arith, length-append (codes "grade ") (decimal grade), decimal_short grade h)
limit_length (Both time grade) h =
    omega (arith, length-append (time_name time) (codes " " ++ grade_name grade), length-append (codes "time ") (decimal time), length-append (codes "grade ") (decimal grade), decimal_short time h.0, decimal_short grade h.1)

pub summary_length : (b : Book) → Lawful b.parts b.rules → length (book_summary b) ≤ 8192
summary_length b h =
    let rest = codes "\nrules " ++ (decimal (length b.rules) ++ codes "\n") in
    omega (arith, length-append (heading b) (book_text b), length-append (codes "parts ") (decimal b.parts ++ rest), length-append (decimal b.parts) rest, length-append (decimal (length b.rules)) (codes "\n"), decimal_short b.parts (omega (arith, h.few_parts)), decimal_short (length b.rules) (omega (arith, h.few_rules)), written_length b.parts b.rules h)

pub order_length : (l : Limit) (f : Pairs) (n : ℕ) → ShortLimit l → n ≤ 24 → length (order_summary l f n) ≤ 8192
order_length l f n h few =
    omega (arith, length-append (codes "limit " ++ (limit_name l ++ codes "\n")) (sheet_text f n), length-append (limit_name l) (codes "\n"), limit_length l h, places_length f n few)
