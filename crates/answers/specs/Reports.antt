-- The events of a text as they are printed: the answer of each, and each line that is refused. Assumes nothing.
use Rattle.std.specs.Prelude.{ℕ, ◌+◌, List, [], ◌∷◌, ◌++◌, Result}
use Rattle.refusal.specs.declared.Refusal.{Refusal}
use Rattle.refusal.specs.declared.Source.TheVariants as source
use Rattle.refusal.specs.Faults.{in_text, fault_line}
use Rattle.events.specs.declared.Event.{Event}
use Rattle.events.specs.declared.Accepted.{Accepted}
use Rattle.answers.specs.Texts.{EventTextLine, event, refused}
use Rattle.answers.specs.Paragraphs.{answer_text}

-- what the events answer, one after the other, on a sheet of so many places
abbrev pub paragraphs : {S : Type 0} → (S → List ℕ) → ℕ → List (Event S) → List (Result (Accepted S) Refusal) → List (List ℕ)
paragraphs price_text places [] answers = []
paragraphs price_text places (e ∷ events) [] = []
paragraphs price_text places (e ∷ events) (a ∷ answers) = answer_text price_text places e a ∷ paragraphs price_text places events answers

-- a line that is refused: `refused`, the number, `reader` and the line's number, and below it the line; the source does not show,
-- since the refusals of a line are of the layer `reader`
abbrev pub refused_line_text : Refusal → ℕ → List ℕ → List ℕ
refused_line_text r number bytes = (fault_line (in_text source.Order r number) ++ 10 ∷ []) ++ (bytes ++ 10 ∷ [])

-- what is printed of lines, of which the first has that number, one text a line: the paragraphs of their events, and the lines that
-- are refused
abbrev pub printed_lines : {S : Type 0} → ℕ → List (EventTextLine S) → List (List ℕ) → List (List ℕ)
printed_lines number [] told = []
printed_lines number (event said ∷ lines) [] = []
printed_lines number (event said ∷ lines) (paragraph ∷ told) = paragraph ∷ printed_lines (number + 1) lines told
printed_lines number (refused r bytes ∷ lines) told = refused_line_text r number bytes ∷ printed_lines (number + 1) lines told
