-- A quote as it is printed. Assumes nothing.
use Rattle.std.specs.Prelude.{◌≡◌, ℕ, List, [], ◌++◌, length, codes, decimal, Result, MatchResult}
use Rattle.scale.specs.Ops.{Ops}
use Rattle.refusal.specs.declared.Fault.{Fault}
use Rattle.text.specs.declared.pages.Page.{Page}
use Rattle.text.specs.Pages.{page_text}
use Rattle.book.specs.declared.books.Book.{Book}
use Rattle.book.specs.BookSaid.{rules_of}
use Rattle.sheet.specs.Pairs.{Pairs}
use Rattle.derivations.specs.Trees.{weights}
use Rattle.order.specs.declared.limits.Limit.{Limit}
use Rattle.order.specs.Texts.{drawn_pairs}
use Rattle.planner.specs.Outcomes.{PrunedTo, QuotedAs}
use Rattle.report.specs.ReportSaid.{ReportSaid}
use Rattle.report.specs.Prices.{bound_of}
use Rattle.report.specs.Sheets.{sheet_text}
use Rattle.report.specs.Told.{Told, FirstRefused}
use Rattle.report.specs.Reports.{Reports}
use Rattle.printing.specs.Refusals.{SheetRefused}

-- `cost` and what the run costs, `run` and its strokes, `struck` and how many strokes the prune closed, and a line for each
-- place with the strokes that it left open
abbrev pub quote_text : List ℕ → List ℕ → ℕ → Pairs → ℕ → List ℕ
quote_text cost run closed shown n =
    codes "cost " ++ (cost ++ (codes "\nrun " ++ (run ++ (codes "\nstruck " ++ (decimal closed ++ (codes "\n" ++ sheet_text shown n))))))

-- the sheet of n places with the open pairs `before` is pruned, then quoted, and that is printed
pub record QuotePrinted {S : Type 0} (o : Ops S) (text : S → List ℕ) (limit : S) (b : Book) (n : ℕ) (before : Pairs) (bytes : List ℕ) : Type 0 where
  pub after : Pairs
  pub least : S
  pub closed : ℕ
  pub pruned : PrunedTo o (weights o b) (rules_of b) n before limit after least closed
  -- the quote is of the pairs that the prune left open; nothing but the run is written
  pub run : List ℕ
  pub cost : S
  pub quoted : QuotedAs o (weights o b) (rules_of b) n after limit [] run cost
  pub printed : bytes ≡ quote_text (text cost) run closed after n

-- a sheet is quoted within an order's limit, or it is refused
abbrev pub QuoteEnds : Limit → Book → ℕ → Pairs → Result Page Fault → Type 0
QuoteEnds l b n shown r =
    MatchResult r (λ page. QuotePrinted (bound_of l).ops (bound_of l).text (bound_of l).limit b n shown (page_text page)) (SheetRefused (bound_of l).ops (bound_of l).limit b n shown)

module _ (book order : List ℕ) where
  -- both texts are told, and the sheet that the order draws is pruned and quoted within its limit
  abbrev pub QuoteTold : List ℕ → Type 0
  QuoteTold bytes =
      Told book order (λ b l places. QuotePrinted (bound_of l).ops (bound_of l).text (bound_of l).limit b (length places) (drawn_pairs places) bytes)

  -- a fault of the book, of the order, or of the sheet that the order draws
  abbrev pub QuoteRefused : Fault → Type 0
  QuoteRefused f = FirstRefused book order (λ b l places f. SheetRefused (bound_of l).ops (bound_of l).limit b (length places) (drawn_pairs places) f) f

  -- what is said of an order
  abbrev pub QuoteReport : ReportSaid → Type 0
  QuoteReport r = Reports book order QuoteTold QuoteRefused r
