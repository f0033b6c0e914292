-- Events at the sheet of an order: what is played, and what is printed of it. Assumes nothing.
use Rattle.std.specs.Prelude.{◌≡◌, ◌<◌, ◌≤◌, ℕ, List, ◌++◌, map, length, drop, Result, Ok, Err}
use Rattle.scale.specs.Ops.{Ops}
use Rattle.refusal.specs.declared.Refusal.{Refusal}
use Rattle.refusal.specs.declared.Refusal.TheVariants.{LentTooShort}
use Rattle.refusal.specs.declared.Fault.{Fault}
use Rattle.refusal.specs.Faults.{on_sheet}
use Rattle.book.specs.declared.books.Book.{Book}
use Rattle.sheet.specs.Pairs.{Pairs}
use Rattle.order.specs.declared.limits.Limit.{Limit}
use Rattle.order.specs.declared.limits.Limit.TheVariants as limits
use Rattle.order.specs.Texts.{drawn_pairs}
use Rattle.planner.specs.Boards.{board_entries}
use Rattle.events.specs.declared.Event.{Event}
use Rattle.events.specs.declared.Accepted.{Accepted}
use Rattle.events.specs.Steps.{Lent, lent_all, book_setting}
use Rattle.events.specs.Ledgers.{ledger_at_birth}
use Rattle.events.specs.Lives.{QuotesAsAtBirth}
use Rattle.marks.specs.Replays.{Replayed, each_lent}
use Rattle.report.specs.ReportSaid.{ReportSaid}
use Rattle.report.specs.Prices.{bound_of}
use Rattle.report.specs.Told.{Told, FirstRefused}
use Rattle.report.specs.Reports.{Reports}
use Rattle.answers.specs.Notations.{Notation, time_notation, grade_notation, time_grade_notation}
use Rattle.answers.specs.Texts.{EventTextLine, reading_of, HasLines, Lined}
use Rattle.answers.specs.Slips.{office_sheet_number, events_of}
use Rattle.answers.specs.Reports.{paragraphs, printed_lines}

-- how limits are written where an order has such a limit
abbrev pub notation_of : (l : Limit) → Notation (bound_of l).Price
notation_of (limits.Time t) = time_notation
notation_of (limits.Grade g) = grade_notation
notation_of (limits.Both t g) = time_grade_notation

-- how many entries each board has that is lent to an event: as many as a sheet of 16 places and a book of 32 parts want, the most
-- that there are
abbrev pub office_board : ℕ
office_board = board_entries 16 32

abbrev pub office_lent : Lent
office_lent = lent_all office_board office_board office_board

-- the boards have so many entries each
abbrev pub BoardsOf : ℕ → ℕ → ℕ → Type 0
BoardsOf inside outside choices = (inside ≡ office_board) × (outside ≡ office_board) × (choices ≡ office_board)

-- the events that these lines state, with what is lent to each
abbrev pub played_of : {S : Type 0} → List (EventTextLine S) → List (Event S × Lent)
played_of lines = each_lent office_lent (events_of 0 (map reading_of lines))

-- the events of the text are played on the sheet of n places with the open pairs `birth`, one after the other, and these are the texts
-- that are printed, one a line; each quote ends as on the sheet at its birth less the strikes that stand
pub record EventsPrinted {S : Type 0} (o : Ops S) (notation : Notation S) (price_text : S → List ℕ) (b : Book) (n : ℕ) (birth : Pairs) (text : List ℕ) (texts : List (List ℕ)) : Type 0 where
  pub lines : List (EventTextLine S)
  pub lined : Lined notation text lines
  pub answers : List (Result (Accepted S) Refusal)
  pub after : Pairs
  pub replayed : Replayed o (book_setting o b n office_sheet_number) birth (played_of lines) answers after
  pub quotes : QuotesAsAtBirth o (book_setting o b n office_sheet_number) birth ledger_at_birth (played_of lines) answers
  pub printed : texts ≡ printed_lines 1 lines (paragraphs price_text n (events_of 0 (map reading_of lines)) answers)

-- the first n entries of a list that is lent are now such texts, and the others are as they were
pub record Heads (Wanted : List (List ℕ) → Type 0) (n : ℕ) (old new : List (List ℕ)) : Type 0 where
  pub texts : List (List ℕ)
  pub wanted : Wanted texts
  pub count : length texts ≡ n
  pub fits : n ≤ length old
  pub written : new ≡ texts ++ drop n old

-- a list of so many entries is too short for the lines of the events
abbrev pub ListTooShort : List ℕ → ℕ → Fault → Type 0
ListTooShort events room f = (f ≡ on_sheet LentTooShort) × ((lines : ℕ) × HasLines events lines × (room < lines))

module _ (book order events : List ℕ) where
  -- the events are played on the sheet of an order, with limits as its limit is one
  abbrev pub EventsTold : Book → Limit → List (List ℕ) → List (List ℕ) → Type 0
  EventsTold b l places texts = EventsPrinted (bound_of l).ops (notation_of l) (bound_of l).text b (length places) (drawn_pairs places) events texts

  -- what is refused: the book's text, else the order's, else the list of so many entries
  abbrev pub OfficeRefused : ℕ → Fault → Type 0
  OfficeRefused room f = FirstRefused book order (λ b l places f. ListTooShort events room f) f

  -- how the events end, and what is then in the list that was `old`: both texts are told, n is how many lines the events have, and
  -- the first n entries are what is printed, one a line; or a fault is reported, and the list is as it was
  abbrev pub OfficeReport : List (List ℕ) → Result ℕ ReportSaid → List (List ℕ) → Type 0
  OfficeReport old (Ok n) new = HasLines events n × Told book order (λ b l places. Heads (EventsTold b l places) n old new)
  OfficeReport old (Err r) new = Reports book order (λ _. ⊥) (OfficeRefused (length old)) r × (new ≡ old)
