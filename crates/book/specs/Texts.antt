-- What a text says of a book, and how its reading ends. Assumes nothing.
use Rattle.std.specs.Prelude.{◌≡◌, ℕ, ◌≤◌, List, [], ◌∷◌, map, length, Some, Ok, Err, Result}
use Rattle.refusal.specs.declared.Source.TheVariants as source
use Rattle.refusal.specs.declared.Fault.{Fault}
use Rattle.text.specs.Reading.{Listed}
use Rattle.text.specs.Readings.{ReadAs}
use Rattle.book.specs.declared.books.Book.{Book}
use Rattle.book.specs.Ranges.{Lawful}
use Rattle.book.specs.Statements.{Said, parts, rule, note, Stated, book_form}

-- the lines without the notes
abbrev pub without_notes : List Said → List Said
without_notes [] = []
without_notes (parts k ∷ more) = parts k ∷ without_notes more
without_notes (rule u ∷ more) = rule u ∷ without_notes more
without_notes (note words ∷ more) = without_notes more

-- Notes aside, the text is the line of the number of parts and then the lines of the rules, and these make the book.
pub record Tells (text : List ℕ) (b : Book) : Type 0 where
  pub short : length text ≤ 8192
  pub lines : List Said
  pub listed : Listed book_form lines text
  pub told : without_notes lines ≡ parts b.parts ∷ map rule b.rules
  pub lawful : Lawful b.parts b.rules

-- what the lines of a book state together
abbrev pub stated_in : Book → Stated
stated_in b = record { parts = Some b.parts; rules = b.rules }

-- r is the book that the text states, or the first refusal with its line
abbrev pub Outcome : List ℕ → Result Book Fault → Type 0
Outcome text r = ReadAs book_form stated_in source.Book text r

-- an accepted text tells the book that was read; a refused one tells none
abbrev pub Told : List ℕ → Result Book Fault → Type 0
Told text (Ok b) = Tells text b
Told text (Err f) = (b : Book) → Tells text b → ⊥
