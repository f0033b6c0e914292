-- What the programs print. Assumes nothing.
use Rattle.std.specs.Prelude.{◌≡◌, ℕ, ◌⊎◌, List, [], ◌∷◌, ◌++◌, length, Option, Some, None, Result, Ok, Err, codes, decimal}
use Rattle.refusal.specs.declared.Source.{Source}
use Rattle.refusal.specs.declared.Source.TheVariants as source
use Rattle.refusal.specs.declared.Fault.{Fault}
use Rattle.refusal.specs.Faults.{fault_line}
use Rattle.text.specs.Lines.{FaultyLine}
use Rattle.book.specs.declared.books.Book.{Book}
use Rattle.book.specs.BookSaid.{parts_of, rules_of}
use Rattle.book.specs.Texts as books
use Rattle.book.specs.Writing.{book_text}
use Rattle.sheet.specs.Pairs.{Pairs}
use Rattle.order.specs.declared.limits.Limit.{Limit}
use Rattle.order.specs.Limits.{limit_name}
use Rattle.order.specs.Texts as orders
use Rattle.order.specs.Texts.{drawn_pairs}
use Rattle.report.specs.declared.errors.Refused.{Refused}
use Rattle.report.specs.declared.errors.Refused.TheVariants.{Sheet, Book as RefusedBook, Order}
use Rattle.report.specs.ReportSaid.{ReportSaid}
use Rattle.report.specs.Sheets.{sheet_text}
use Rattle.report.specs.Told.{BookRefused, OrderRefused}

-- bs is the refusal's line and then the faulty line of the two texts, if there is one
abbrev pub FaultShown : List ℕ → List ℕ → Fault → List ℕ → Type 0
FaultShown book order f bs =
    ((line : List ℕ) × FaultyLine f.source book order f.line line × (bs ≡ (fault_line f ++ 10 ∷ []) ++ (line ++ 10 ∷ [])))
    ⊎ (((line : List ℕ) → FaultyLine f.source book order f.line line → ⊥) × (bs ≡ fault_line f ++ 10 ∷ []))

-- that what was read from there is refused
abbrev pub refused_of : Source → Refused
refused_of source.Sheet = Sheet
refused_of source.Book = RefusedBook
refused_of source.Order = Order

-- how a program ends: with an error where something is refused
abbrev pub ended : Option Source → Result (Unit {0}) Refused
ended None = Ok tt
ended (Some s) = Err (refused_of s)

module _ (book order : List ℕ) (Prints : List ℕ → Type 0) (Faulty : Fault → Type 0) where
  -- a text as it is wanted, where nothing is refused; or else a fault, whose line and faulty line are the text
  abbrev pub ReportsSo : List ℕ → Option Source → Type 0
  ReportsSo text None = Prints text
  ReportsSo text (Some s) = (f : Fault) × Faulty f × (s ≡ f.source) × FaultShown book order f text

  -- what a report says
  abbrev pub Reports : ReportSaid → Type 0
  Reports r = ReportsSo r.text r.refused

-- `parts` and `rules` with their numbers, a line each
abbrev pub heading : Book → List ℕ
heading b = codes "parts " ++ (decimal (parts_of b) ++ (codes "\nrules " ++ (decimal (length (rules_of b)) ++ codes "\n")))

-- the heading, and the book as it is written
abbrev pub book_summary : Book → List ℕ
book_summary b = heading b ++ book_text b

-- the text tells a book, whose summary is printed
abbrev pub BookPrinted : List ℕ → List ℕ → Type 0
BookPrinted text bytes = (b : Book) × books.Tells text b × (bytes ≡ book_summary b)

-- that, or the text is refused, and the fault is printed
abbrev pub BookReport : List ℕ → ReportSaid → Type 0
BookReport text r = Reports text [] (BookPrinted text) (BookRefused text) r

-- `limit` and what it is, and a line for each place
abbrev pub order_summary : Limit → Pairs → ℕ → List ℕ
order_summary l f n = (codes "limit " ++ (limit_name l ++ codes "\n")) ++ sheet_text f n

-- the text tells an order, whose summary is printed
abbrev pub OrderPrinted : List ℕ → List ℕ → Type 0
OrderPrinted text bytes =
    (l : Limit) × (places : List (List ℕ)) × orders.Tells text l places × (bytes ≡ order_summary l (drawn_pairs places) (length places))

-- that, or the text is refused, and the fault is printed
abbrev pub OrderReport : List ℕ → ReportSaid → Type 0
OrderReport text r = Reports [] text (OrderPrinted text) (OrderRefused text) r
