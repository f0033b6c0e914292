-- What stands after the first lines of a text: it keeps to a book's ranges. Assumes nothing.
use Rattle.std.proofs.Common.{◌≡◌, ℕ, ◌≤◌, true, List, [], ◌∷◌, length, Some, None, All, Option, refl, subst, arith}
use Rattle.std.proofs.lemmas.List.Elements.{All-push}
use Rattle.std.proofs.lemmas.List.{length_push}
use Rattle.std.proofs.lemmas.Bool.Decides.{nat_tests}
use Rattle.text.specs.Reading.{Reads, Passes}
use Rattle.book.specs.declared.rules.RightSide.{RightSide}
use Rattle.book.specs.declared.rules.RightSide.TheVariants.{Cut, Pair}
use Rattle.book.specs.declared.rules.Rule.{Rule}
use Rattle.book.specs.Ranges.{InRange, lettered}
use Rattle.book.specs.Statements.{Said, parts, rule, note, ShortSide, States, Stated, stated_after, book_tests, book_form}

-- without a number of parts there is no rule, and with it all is in range
abbrev pub Sound : Option ℕ → List Rule → Type 0
Sound None rules = length rules ≡ 0
Sound (Some k) rules = (1 ≤ k) × (k ≤ 32) × (length rules ≤ 128) × All (InRange k) rules × All (λ u. lettered u.side ≡ true) rules

side_lettered : (s : RightSide) → ShortSide s → lettered s ≡ true
side_lettered (Cut s) h = grind (arith, nat_tests, h)
side_lettered (Pair l r) h = refl

sound_after : (o : Option ℕ) (rules : List Rule) (line : List ℕ) (said : Said) → Sound o rules → States line said → Passes (book_tests (record { parts = o; rules = rules }) said) → Sound (stated_after (record { parts = o; rules = rules }) said).parts (stated_after (record { parts = o; rules = rules }) said).rules
sound_after None rules line (parts k) s t p = (p.1.0.0, p.1.0.1, omega arith, λ i d h. absurd (omega arith), λ i d h. absurd (omega arith))
sound_after None rules line (rule u) s t p = let e = p.0 in let z : ◌≡◌ {A = ℕ} 0 1 = cc in absurd (omega arith)
sound_after None rules line (note w) s t p = s
sound_after (Some k) rules line (parts n) s t p = let e = p.0 in let z : ◌≡◌ {A = ℕ} 0 1 = cc in absurd (omega arith)
sound_after (Some k) rules line (rule u) s t p = (
  s.0,
  s.1,
  omega (arith, length_push rules u, p.1.1.0),
  All-push (InRange k) rules u s.3 p.1.0,
  All-push (λ v. lettered v.side ≡ true) rules u s.4 (side_lettered u.side t.spelled.1),
)
sound_after (Some k) rules line (note w) s t p = s

pub reads_sound : (before : List Said) (sum : Stated) (bs : List ℕ) (whole : Stated) (rest : List ℕ) → Sound sum.parts sum.rules → Reads book_form before sum bs whole rest → Sound whole.parts whole.rules
reads_sound [] sum bs whole rest s h = subst (λ (d : Stated). Sound d.parts d.rules) h.0 s
reads_sound (said ∷ before) sum bs whole rest s h =
    reads_sound before (stated_after sum said) h.0 whole rest (sound_after sum.parts sum.rules h.1.line said s h.1.stated h.1.passed) h.2
