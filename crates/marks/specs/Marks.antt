-- What a marked sheet means. Assumes nothing.
use Rattle.std.specs.Prelude.{◌≡◌, ℕ, List, map, reverse}
use Rattle.std.specs.Borrow.{GName}
use Rattle.scale.specs.Ops.{Ops}
use Rattle.book.specs.declared.books.Book.{Book}
use Rattle.sheet.specs.Pairs.{Pairs}
use Rattle.sheet.specs.Masks.{mask_shown}
use Rattle.events.specs.States.{State}
use Rattle.events.specs.Steps.{Setting, book_setting}
use Rattle.marks.specs.Copies.{copied}
use Rattle.marks.specs.declared.marked.Marked.{Marked}
use Rattle.marks.specs.declared.standing.StandingMarks.{StandingMarks}

-- the sheet below, and who lent it
abbrev pub sheet_below : {H : Type 0} → Marked H → H
sheet_below m = m.below.now

abbrev pub lender : {H : Type 0} → Marked H → GName
lender m = m.below.ghost_name

-- its number, and the marks that stand
abbrev pub sheet_number : {H : Type 0} → Marked H → ℕ
sheet_number m = m.marks.number

abbrev pub standing_marks : {H : Type 0} → Marked H → StandingMarks
standing_marks m = m.marks

-- what marks go back to whose masks are these, the oldest first, on a sheet of n places
abbrev pub saved_by : ℕ → List (List ℕ) → List Pairs
saved_by n rows = map (λ row. copied n (mask_shown row)) (reverse rows)

-- its open pairs are those of the sheet below; what a mark goes back to is read from its masks, as far as the sheet has the places
abbrev pub state : {H : Type 0} → (H → ℕ) → (H → Pairs) → Marked H → State
state places shown m =
    record { shown = shown (sheet_below m); saved = saved_by (places (sheet_below m)) m.marks.rows.items }

-- two states of one marked sheet: its number and the lender of the sheet below stay, and that sheet is kept
pub record SameSheet {H : Type 0} (kept : H → H → Type 0) (old new : Marked H) : Type 0 where
  pub number : sheet_number new ≡ sheet_number old
  pub lender : lender new ≡ lender old
  pub memory : kept (sheet_below old) (sheet_below new)

-- what stays the same through its life, with a book and the prices of that book
abbrev pub setting : {S H : Type 0} → Ops S → (H → ℕ) → Book → Marked H → Setting S
setting o places book m = book_setting o book (places (sheet_below m)) (sheet_number m)
