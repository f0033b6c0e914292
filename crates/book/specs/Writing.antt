-- A book as it is written, and written again. Assumes nothing.
use Rattle.std.specs.Prelude.{◌≡◌, ℕ, ◌<◌, List, [], ◌∷◌, ◌++◌, length, drop, Ok, Err, Result}
use Rattle.std.specs.List.{flat_map}
use Rattle.refusal.specs.declared.Refusal.{Refusal}
use Rattle.refusal.specs.declared.Refusal.TheVariants.{LentTooShort}
use Rattle.book.specs.declared.rules.Rule.{Rule}
use Rattle.book.specs.declared.books.Book.{Book}
use Rattle.book.specs.Statements.{Said, parts, rule, line_text}
use Rattle.book.specs.Texts.{Tells}

-- a statement as a line, ended by byte 10
abbrev pub ended_line : Said → List ℕ
ended_line said = line_text said ++ 10 ∷ []

-- k parts and these rules as they are written: the line of the number of parts, and the lines of the rules in their order
unfoldable pub written : ℕ → List Rule → List ℕ
written k rules = ended_line (parts k) ++ flat_map (λ u. ended_line (rule u)) rules

-- the book as it is written
abbrev pub book_text : Book → List ℕ
book_text b = written b.parts b.rules

-- the text is at the front of after, and the rest of before stays; or before is too short for it, and stays as it is
abbrev pub Wrote : List ℕ → List ℕ → Result ℕ Refusal → List ℕ → Type 0
Wrote text before (Ok n) after = (n ≡ length text) × (after ≡ text ++ drop n before)
Wrote text before (Err r) after = (LentTooShort ≡ r) × (length before < length text) × (after ≡ before)

-- what is read again is b, whose text tells it and stands at the front of after; or before is too short for the text, and stays
-- as it is
abbrev pub ReadBack : Book → List ℕ → Result Book Refusal → List ℕ → Type 0
ReadBack b before (Ok c) after = (c ≡ b) × Tells (book_text b) b × (after ≡ book_text b ++ drop (length (book_text b)) before)
ReadBack b before (Err r) after = (LentTooShort ≡ r) × (length before < length (book_text b)) × (after ≡ before)
