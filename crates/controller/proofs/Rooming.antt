-- The controller's board has room for each run that it takes; and a text and a run have one answer.
use Rattle.std.proofs.Common.{◌≡◌, ℕ, ◌<◌, ◌≤◌, ◌⊎◌, inl, inr, Ok, Err, Result, List, length, ap, refl, subst, sym, ◌∙◌, arith}
use Rattle.std.proofs.lemmas.Bool.{cases_lt}
use Rattle.std.proofs.lemmas.Bool.Decides.{nat_tests}
use Rattle.std.proofs.lemmas.Nat.{mul-le}
use Rattle.scale.specs.Times.{time_ops}
use Rattle.refusal.specs.declared.Fault.{Fault}
use Rattle.book.specs.declared.books.Book.{Book}
use Rattle.book.specs.Texts.{Told}
use Rattle.book.proofs.Telling.{one_outcome}
use Rattle.planner.specs.Boards.{board_entries, spans_before}
use Rattle.planner.specs.Outcomes.{priced}
use Rattle.planner.proofs.Indexing.{entries_are, spans_mono}
use Rattle.controller.specs.Packed.{packed, answered, entry_answer, EntryAnswers, entry_refused, run_refused}

room : (n k : ℕ) → n ≤ 16 → k ≤ 32 → board_entries n k ≤ 4352
room n k few parts = subst (λ e. e ≤ 4352) (sym (entries_are n k)) (mul-le (spans_before n) k 136 32 (spans_mono n 16 few) parts)

same_refusal : (k : ℕ) (run : List ℕ) → k ≤ 32 → (16 < length run) ⊎ (length run ≤ 16) → entry_refused k run 4352 ≡ run_refused run
same_refusal k run parts (inl more) = grind (arith, nat_tests)
same_refusal k run parts (inr few) = let e = room (length run) k few parts in grind (arith, nat_tests)

-- so it is never refused for want of room
pub roomy : (text : List ℕ) (read : Result Book Fault) (run : List ℕ) → Told text read → answered read run 4352 ≡ entry_answer read run
roomy text (Ok b) run told = ap (λ r. packed (priced time_ops b r run)) (same_refusal b.parts run told.lawful.few_parts (cases_lt 16 (length run)))
roomy text (Err f) run told = refl

-- a text has one outcome, and so there is one answer to a run by it
pub one_entry_answer : (text : List ℕ) (run : List ℕ) (a b : ℕ) → EntryAnswers text run a → EntryAnswers text run b → a ≡ b
one_entry_answer text run a b (read, o, told, e) (read', o', told', e') =
    e ∙ ap (λ r. entry_answer r run) (one_outcome text read read' o o') ∙ sym e'
