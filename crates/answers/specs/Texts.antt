-- The text of events: its lines, each with what it states or why it is refused. Assumes nothing.
use Rattle.std.specs.Prelude.{◌≡◌, ◌<◌, ℕ, zero, suc, List, [], ◌∷◌, ◌⊎◌, length, Result, Ok, Err}
use Rattle.refusal.specs.declared.Refusal.{Refusal}
use Rattle.refusal.specs.declared.Refusal.TheVariants.{UnknownLine}
use Rattle.text.specs.Fields.{Lacks}
use Rattle.text.specs.Lines.{Starts}
use Rattle.answers.specs.declared.lines.EventLine.{EventLine}
use Rattle.answers.specs.Notations.{Notation}
use Rattle.answers.specs.Lines.{LineRead}

-- a line of such a text: an event that it states, or its refusal and its bytes
pub data EventTextLine (S : Type 0) : Type 0 where
  event : EventLine S → EventTextLine S
  refused : Refusal → List ℕ → EventTextLine S

-- the line of these bytes, where it is read so
abbrev pub line_as : {S : Type 0} → Result (EventLine S) Refusal → List ℕ → EventTextLine S
line_as (Ok said) bytes = event said
line_as (Err r) bytes = refused r bytes

-- how it is read
abbrev pub reading_of : {S : Type 0} → EventTextLine S → Result (EventLine S) Refusal
reading_of (event said) = Ok said
reading_of (refused r bytes) = Err r

-- the first line of the text, which byte 10 or the end of the text ends, and what follows it
abbrev pub FirstLineOf : (text line after : List ℕ) → Type 0
FirstLineOf text line after = Starts text line after ⊎ (Lacks 10 text × (line ≡ text) × (after ≡ []))

-- the text has so many lines
abbrev pub HasLines : List ℕ → ℕ → Type 0
HasLines text zero = text ≡ []
HasLines text (suc n) = (0 < length text) × ((line : List ℕ) × (after : List ℕ) × FirstLineOf text line after × HasLines after n)

module _ {S : Type 0} (notation : Notation S) where
  -- the text is not empty, its first line is such, and after follows it; a last line that byte 10 does not end is refused
  -- as one of no known word, whatever it says
  abbrev pub FirstRead : List ℕ → EventTextLine S → List ℕ → Type 0
  FirstRead text (event said) after = (line : List ℕ) × Starts text line after × LineRead notation line (Ok said)
  FirstRead text (refused r bytes) after =
      (Starts text bytes after × LineRead notation bytes (Err r))
      ⊎ ((0 < length text) × Lacks 10 text × (bytes ≡ text) × (after ≡ []) × (r ≡ UnknownLine))

  -- the text is these lines
  abbrev pub Lined : List ℕ → List (EventTextLine S) → Type 0
  Lined text [] = text ≡ []
  Lined text (line ∷ lines) = (after : List ℕ) × FirstRead text line after × Lined after lines

  -- a text has its lines in one way only
  abbrev pub OneLining : Type 0
  OneLining = (text : List ℕ) (one two : List (EventTextLine S)) → Lined text one → Lined text two → one ≡ two
