-- The marks that stand are counted from the lines of the events. Assumes nothing.
use Rattle.std.specs.Prelude.{◌≡◌, ℕ, List, [], ◌∷◌, length, Result, Ok, Err}
use Rattle.scale.specs.Ops.{Ops}
use Rattle.refusal.specs.declared.Refusal.{Refusal}
use Rattle.sheet.specs.Pairs.{Pairs}
use Rattle.events.specs.declared.Accepted.{Accepted}
use Rattle.events.specs.States.{State}
use Rattle.events.specs.Steps.{Setting, Lent}
use Rattle.events.specs.Ledgers.{Ledger}
use Rattle.events.specs.Lives.{HasLived}
use Rattle.marks.specs.Replays.{each_lent}
use Rattle.answers.specs.declared.lines.EventLine.{EventLine}
use Rattle.answers.specs.Slips.{office_sheet_number, marks_after, events_of}

-- how many marks stand after these lines, where so many stand before them
abbrev pub marks_left : {S : Type 0} → ℕ → List (Result (EventLine S) Refusal) → ℕ
marks_left marks [] = marks
marks_left marks (Ok said ∷ more) = marks_left (marks_after marks said) more
marks_left marks (Err r ∷ more) = marks_left marks more

-- after any lines as many marks stand as are counted, so that each keep and back names the slip of the latest mark
abbrev pub MarksCounted : {S : Type 0} → Ops S → Type 0
MarksCounted {S} o =
    (w : Setting S) (birth : Pairs) (readings : List (Result (EventLine S) Refusal)) (lent : Lent) (answers : List (Result (Accepted S) Refusal)) (s : State) (g : Ledger S) → w.number ≡ office_sheet_number → HasLived o w birth (each_lent lent (events_of 0 readings)) answers s g → length s.saved ≡ marks_left 0 readings
