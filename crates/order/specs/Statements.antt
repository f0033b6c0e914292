-- What the lines of an order's text state, and what is tested of them: the grammar is the written form. Assumes nothing.
use Rattle.std.specs.Prelude.{◌≡◌, ℕ, ◌<◌, ◌≤◌, List, [], ◌∷◌, ◌++◌, length, IsSome, Some, None, decimal, Option}
use Rattle.refusal.specs.declared.Refusal.TheVariants.{LimitMisplaced, OutOfRange, TooManyPlaces}
use Rattle.text.specs.Fields.{fielded, Short}
use Rattle.text.specs.Reading.{Test, test, Form}
use Rattle.order.specs.declared.limits.Limit.{Limit}
use Rattle.order.specs.declared.limits.Limit.TheVariants.{Time, Grade, Both}
use Rattle.order.specs.Letters.{Letters, mask_of}

-- what a line can state: the limit, or the open letters of the next place
pub data Said : Type 0 where
  limit : Limit → Said
  place : List ℕ → Said

-- `t time`, `g grade` and `b time grade`
abbrev pub limit_text : Limit → List ℕ
limit_text (Time time) = 116 ∷ fielded (decimal time ∷ [])
limit_text (Grade grade) = 103 ∷ fielded (decimal grade ∷ [])
limit_text (Both time grade) = 98 ∷ fielded (decimal time ∷ decimal grade ∷ [])

-- the line that states it: a limit as it is written, `o` and the letters
abbrev pub line_text : Said → List ℕ
line_text (limit l) = limit_text l
line_text (place letters) = 111 ∷ fielded (letters ∷ [])

-- the numbers of a limit have at most six digits
abbrev pub ShortLimit : Limit → Type 0
ShortLimit (Time time) = Short time
ShortLimit (Grade grade) = Short grade
ShortLimit (Both time grade) = Short time × Short grade

-- numbers have at most six digits, and the letters of a place are capital letters, one or more, rising
abbrev pub Spelled : Said → Type 0
Spelled (limit l) = ShortLimit l
Spelled (place letters) = Letters letters

-- the line states it
pub record States (line : List ℕ) (said : Said) : Type 0 where
  pub text : line_text said ≡ line
  pub spelled : Spelled said

-- a grade is at most 254; a time may be any
abbrev pub InRange : Limit → Type 0
InRange (Time time) = Unit {0}
InRange (Grade grade) = grade ≤ 254
InRange (Both time grade) = grade ≤ 254

-- what lines state together: the limit, where one stood, and the number of open letters of each place in its order
pub record Stated : Type 0 where
  pub limit : Option Limit
  pub places : List ℕ

-- what d states together with one line more: a limit is known from now on, the letters are those of the next place
abbrev pub stated_after : Stated → Said → Stated
stated_after d (limit l) = record { limit = Some l; places = d.places }
stated_after d (place letters) = record { limit = d.limit; places = d.places ++ mask_of letters ∷ [] }

-- what is tested of a line after what d states, in this order: of a limit, that none stood before (18), and its grade (15); of a
-- place, that the limit stood before (18), and that fewer than 16 places did (19)
abbrev pub order_tests : Stated → Said → List Test
order_tests d (limit l) = test (d.limit ≡ None) LimitMisplaced ∷ test (InRange l) OutOfRange ∷ []
order_tests d (place letters) = test (IsSome d.limit) LimitMisplaced ∷ test (length d.places < 16) TooManyPlaces ∷ []

-- the texts of orders: lines that begin with t, g, b or o
abbrev pub order_form : Form Said Stated
order_form = record {
  letters = 116 ∷ 103 ∷ 98 ∷ 111 ∷ [];
  states = States;
  tests = order_tests;
  adds = stated_after;
  blank = record { limit = None; places = [] };
  last_tests = λ d. test (IsSome d.limit) LimitMisplaced ∷ [];
}
