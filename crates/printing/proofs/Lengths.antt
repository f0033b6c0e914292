-- What is printed of a quote and of a card fits on a page. Assumes nothing.
use Rattle.std.proofs.Common.{ℕ, ◌≤◌, List, ◌++◌, length, codes, decimal, arith, length-append}
use Rattle.sheet.specs.Pairs.{Pairs}
use Rattle.report.specs.Sheets.{sheet_text}
use Rattle.report.proofs.Listing.{places_length}
use Rattle.printing.specs.Quotes.{quote_text}

pub quote_length : (cost run : List ℕ) (closed : ℕ) (f : Pairs) (n : ℕ) → length cost ≤ 32 → length run ≤ 24 → length (decimal closed) ≤ 20 → n ≤ 24 → length (quote_text cost run closed f n) ≤ 8192
quote_length cost run closed f n short stands few places =
    let lines = codes "\n" ++ sheet_text f n in
    let struck = codes "\nstruck " ++ (decimal closed ++ lines) in
    let rest = codes "\nrun " ++ (run ++ struck) in
    omega (arith, length-append (codes "cost ") (cost ++ rest), length-append cost rest, length-append (codes "\nrun ") (run ++ struck), length-append run struck, length-append (codes "\nstruck ") (decimal closed ++ lines), length-append (decimal closed) lines, length-append (codes "\n") (sheet_text f n), places_length f n places)
