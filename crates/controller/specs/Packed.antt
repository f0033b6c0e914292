-- What the controller's entry answers: a time or a refusal, in one number. Assumes nothing.
use Rattle.std.specs.Prelude.{◌≡◌, ℕ, ◌*◌, not, Option, Some, None, Result, Ok, Err, List, length, nat_lt, if◌then◌else◌, ◌==◌}
use Rattle.std.specs.List.{list_all}
use Rattle.scale.specs.declared.prices.times.Time.{Time}
use Rattle.scale.specs.Times.{time_ops}
use Rattle.refusal.specs.declared.Refusal.{Refusal}
use Rattle.refusal.specs.declared.Refusal.TheVariants.{NotAStroke, BadLength, TooManyPlaces}
use Rattle.refusal.specs.declared.Fault.{Fault}
use Rattle.refusal.specs.Numbers.{number_of}
use Rattle.book.specs.declared.books.Book.{Book}
use Rattle.book.specs.BookSaid.{parts_of}
use Rattle.book.specs.Texts.{Outcome, Told}
use Rattle.sheet.specs.Pairs.{is_stroke}
use Rattle.planner.specs.Outcomes.{priced, price_refused}

-- a time in tenths of a second, which is below 2 to the 32nd, or the number of a refusal times that
abbrev pub packed : Result Time Refusal → ℕ
packed (Ok t) = t.tenths
packed (Err r) = number_of r * 4294967296

-- the first check that a run fails at the controller: that it has no 17th place, and then as for any price
abbrev pub entry_refused : ℕ → List ℕ → ℕ → Option Refusal
entry_refused k run room = if nat_lt 16 (length run) then Some TooManyPlaces else price_refused k run room

-- what is answered of a book as it was read: the refusal of its text, or what the run costs by it, or why that is refused
abbrev pub answered : Result Book Fault → List ℕ → ℕ → ℕ
answered (Err f) run room = packed (Err f.refusal)
answered (Ok b) run room = packed (priced time_ops b (entry_refused (parts_of b) run room) run)

-- the same checks where the board has room
abbrev pub run_refused : List ℕ → Option Refusal
run_refused run =
    if nat_lt 16 (length run) then Some TooManyPlaces else (if length run == 0 then Some BadLength else (if not (list_all is_stroke run) then Some NotAStroke else None))

-- what is answered then
abbrev pub entry_answer : Result Book Fault → List ℕ → ℕ
entry_answer (Err f) run = packed (Err f.refusal)
entry_answer (Ok b) run = packed (priced time_ops b (run_refused run) run)

-- the answer is of the book that the text tells, or of the refusal of the text, as the reader finds it
abbrev pub EntryAnswers : List ℕ → List ℕ → ℕ → Type 0
EntryAnswers text run answer = (read : Result Book Fault) × Outcome text read × Told text read × (answer ≡ entry_answer read run)
