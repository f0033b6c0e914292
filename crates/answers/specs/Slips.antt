-- The events of a text's lines, with the slips that they name. Assumes nothing.
use Rattle.std.specs.Prelude.{ℕ, ◌+◌, ◌-◌, min, List, [], ◌∷◌, Result, Ok, Err}
use Rattle.refusal.specs.declared.Refusal.{Refusal}
use Rattle.events.specs.declared.Event.{Event}
use Rattle.events.specs.declared.Event.TheVariants as events
use Rattle.events.specs.States.{most_marks}
use Rattle.answers.specs.declared.lines.EventLine.{EventLine}
use Rattle.answers.specs.declared.lines.EventLine.TheVariants.{Strike, Mark, Keep, Back, Prune, Quote}

-- the number of the sheet that the office plays events on
abbrev pub office_sheet_number : ℕ
office_sheet_number = 1

-- the event that a line states where so many marks stand: a keep and a back name the slip of the latest
abbrev pub event_of : {S : Type 0} → ℕ → EventLine S → Event S
event_of marks (Strike place stroke) = events.Strike place stroke
event_of marks Mark = events.Mark
event_of marks Keep = events.Keep office_sheet_number marks
event_of marks Back = events.Back office_sheet_number marks
event_of marks (Prune limit) = events.Prune limit
event_of marks (Quote limit) = events.Quote limit

-- how many marks stand after it
abbrev pub marks_after : {S : Type 0} → ℕ → EventLine S → ℕ
marks_after marks (Strike place stroke) = marks
marks_after marks Mark = min (marks + 1) most_marks
marks_after marks Keep = marks - 1
marks_after marks Back = marks - 1
marks_after marks (Prune limit) = marks
marks_after marks (Quote limit) = marks

-- the events of these lines, where so many marks stand before them
abbrev pub events_of : {S : Type 0} → ℕ → List (Result (EventLine S) Refusal) → List (Event S)
events_of marks [] = []
events_of marks (Ok said ∷ more) = event_of marks said ∷ events_of (marks_after marks said) more
events_of marks (Err r ∷ more) = events_of marks more
