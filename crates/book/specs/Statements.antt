-- What the lines of a book's text state, and what is tested of them: the grammar is the written form. Assumes nothing.
use Rattle.std.specs.Prelude.{◌≡◌, ℕ, ◌<◌, ◌≤◌, List, [], ◌∷◌, ◌++◌, length, IsSome, Some, None, decimal, Option}
use Rattle.refusal.specs.declared.Refusal.TheVariants.{PartsMisplaced, OutOfRange, TooManyRules, NoRule}
use Rattle.text.specs.Fields.{fielded, Short, Stroke}
use Rattle.text.specs.Reading.{Test, test, Form}
use Rattle.book.specs.declared.rules.RightSide.{RightSide}
use Rattle.book.specs.declared.rules.RightSide.TheVariants.{Cut, Pair}
use Rattle.book.specs.declared.rules.Rule.{Rule}
use Rattle.book.specs.Ranges.{InRange}

-- what a line can state: the number of parts, a rule, or a note of any words
pub data Said : Type 0 where
  parts : ℕ → Said
  rule : Rule → Said
  note : List ℕ → Said

-- `c part stroke time grade` and `p part left right time grade`
abbrev pub written_rule : ℕ → RightSide → ℕ → ℕ → List ℕ
written_rule part (Cut stroke) time grade = 99 ∷ fielded (decimal part ∷ (stroke ∷ []) ∷ decimal time ∷ decimal grade ∷ [])
written_rule part (Pair left right) time grade = 112 ∷ fielded (decimal part ∷ decimal left ∷ decimal right ∷ decimal time ∷ decimal grade ∷ [])

-- the rule's line, without its byte 10
abbrev pub rule_text : Rule → List ℕ
rule_text u = written_rule u.part u.side u.time u.grade

-- the line that states it: `k parts`, a rule as it is written, `n` and the words
abbrev pub line_text : Said → List ℕ
line_text (parts k) = 107 ∷ fielded (decimal k ∷ [])
line_text (rule u) = rule_text u
line_text (note words) = 110 ∷ words

-- the strokes and parts of a right side as they may be written: a capital letter, or two numbers of at most six digits
abbrev pub ShortSide : RightSide → Type 0
ShortSide (Cut stroke) = Stroke stroke
ShortSide (Pair left right) = Short left × Short right

-- each number of the statement has at most six digits, and a stroke is a capital letter
abbrev pub Spelled : Said → Type 0
Spelled (parts k) = Short k
Spelled (rule u) = Short u.part × ShortSide u.side × Short u.time × Short u.grade
Spelled (note words) = Unit {0}

-- the line states it
pub record States (line : List ℕ) (said : Said) : Type 0 where
  pub text : line_text said ≡ line
  pub spelled : Spelled said

-- what lines state together: the number of parts, where one stood, and the rules in their order
pub record Stated : Type 0 where
  pub parts : Option ℕ
  pub rules : List Rule

-- what d states together with one line more: a number of parts is known from now on, a rule is the last one, a note is nothing
abbrev pub stated_after : Stated → Said → Stated
stated_after d (parts k) = record { parts = Some k; rules = d.rules }
stated_after d (rule u) = record { parts = d.parts; rules = d.rules ++ u ∷ [] }
stated_after d (note words) = d

-- the number of parts is known, and the rule is in the ranges of a book of so many
abbrev pub RangedIn : Option ℕ → Rule → Type 0
RangedIn None u = ⊥
RangedIn (Some k) u = InRange k u

-- what is tested of a line after what d states, in this order: of the number of parts, that none stood before (14) and that it is
-- 1 to 32 (15); of a rule, that the number of parts stood before (14), its ranges (15), and that fewer than 128 stood before (16)
abbrev pub book_tests : Stated → Said → List Test
book_tests d (parts k) = test (d.parts ≡ None) PartsMisplaced ∷ test ((1 ≤ k) × (k ≤ 32)) OutOfRange ∷ []
book_tests d (rule u) = test (IsSome d.parts) PartsMisplaced ∷ test (RangedIn d.parts u) OutOfRange ∷ test (length d.rules < 128) TooManyRules ∷ []
book_tests d (note words) = []

-- the texts of books: lines that begin with k, c, p or n
abbrev pub book_form : Form Said Stated
book_form = record {
  letters = 107 ∷ 99 ∷ 112 ∷ 110 ∷ [];
  states = States;
  tests = book_tests;
  adds = stated_after;
  blank = record { parts = None; rules = [] };
  last_tests = λ d. test (0 < length d.rules) NoRule ∷ [];
}
