-- What the lines so far of a book's text state together, and one statement more. Assumes nothing.
use Rattle.std.specs.Prelude.{◌≡◌, Ok, Err, Result}
use Rattle.refusal.specs.declared.Refusal.{Refusal}
use Rattle.text.specs.Reading.{Passes, Fails}
use Rattle.book.specs.declared.drafts.BookDraft.{BookDraft}
use Rattle.book.specs.Statements.{Said, Stated, stated_after, book_tests}

-- what the draft's lines state together
abbrev pub stated_by : BookDraft → Stated
stated_by d = record { parts = d.parts; rules = d.rules.items }

-- d takes the statement and becomes e, or is refused for the first test that fails and states what it stated
abbrev pub Adds : BookDraft → Said → Result (Unit {0}) Refusal → BookDraft → Type 0
Adds d said (Ok _) e = Passes (book_tests (stated_by d) said) × (stated_by e ≡ stated_after (stated_by d) said)
Adds d said (Err r) e = Fails (book_tests (stated_by d) said) r × (stated_by e ≡ stated_by d)
