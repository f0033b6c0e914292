-- How a text is read, line by line, for any form of lines: what it states, or the first line that is refused and
-- for what. Assumes nothing.
use Rattle.std.specs.Prelude.{◌≡◌, ℕ, ◌+◌, ◌<◌, ◌≤◌, ◌⊎◌, List, [], ◌∷◌, length, Ok, Err, Option, Result, MatchOption}
use Rattle.refusal.specs.declared.Refusal.{Refusal}
use Rattle.refusal.specs.declared.Refusal.TheVariants.{TextTooLong, UnknownLine, MalformedField}
use Rattle.text.specs.Fields.{Lacks}
use Rattle.text.specs.Lines.{Starts}

-- a condition, and the refusal where it does not hold
pub record Test : Type 1 where
  pub holds : Type 0
  pub refusal : Refusal

-- the test that p holds, and else r is the refusal
abbrev pub test : Type 0 → Refusal → Test
test p r = record { holds = p; refusal = r }

-- each test holds
abbrev pub Passes : List Test → Type 0
Passes [] = Unit {0}
Passes (t ∷ ts) = t.holds × Passes ts

-- r is the refusal of the first test that does not hold
abbrev pub Fails : List Test → Refusal → Type 0
Fails [] r = ⊥
Fails (t ∷ ts) r = ((t.holds → ⊥) × (t.refusal ≡ r)) ⊎ (t.holds × Fails ts r)

-- A form of texts. Said is what a line can state, and Sum what the lines before it state together.
pub record Form (Said Sum : Type 0) : Type 1 where
  -- the first letters of its lines
  pub letters : List ℕ
  -- the line, without its byte 10, states this
  pub states : List ℕ → Said → Type 0
  -- what is tested of a line, in this order, after the lines before it
  pub tests : Sum → Said → List Test
  -- what the lines state together with one more
  pub adds : Sum → Said → Sum
  -- what no line states
  pub blank : Sum
  -- what is tested at the end of the text
  pub last_tests : Sum → List Test

-- the form of what is left of a text, where the lines before state `sum` together
abbrev pub continued : {Said Sum : Type 0} → Form Said Sum → Sum → Form Said Sum
continued form sum = record {
  letters = form.letters;
  states = form.states;
  tests = form.tests;
  adds = form.adds;
  blank = sum;
  last_tests = form.last_tests;
}

-- b is one of these
abbrev pub OneOf : List ℕ → ℕ → Type 0
OneOf [] b = ⊥
OneOf (a ∷ more) b = (b ≡ a) ⊎ OneOf more b

-- the line is not empty, and its first letter is one of these
abbrev pub Known : List ℕ → List ℕ → Type 0
Known letters [] = ⊥
Known letters (b ∷ bs) = OneOf letters b

module _ {Said Sum : Type 0} (form : Form Said Sum) where
  -- the first line of bs states said, which passes its tests after sum, and after follows
  pub record Leads (sum : Sum) (bs : List ℕ) (said : Said) (after : List ℕ) : Type 0 where
    pub line : List ℕ
    pub starts : Starts bs line after
    pub stated : form.states line said
    pub passed : Passes (form.tests sum said)

  -- lines that state these lead from sum to whole, and rest follows them
  abbrev pub Reads : List Said → Sum → List ℕ → Sum → List ℕ → Type 0
  Reads [] sum bs whole rest = (sum ≡ whole) × (bs ≡ rest)
  Reads (said ∷ more) sum bs whole rest = (after : List ℕ) × Leads sum bs said after × Reads more (form.adds sum said) after whole rest

  -- the text is lines that state these, each ended by byte 10
  abbrev pub Listed : List Said → List ℕ → Type 0
  Listed [] text = text ≡ []
  Listed (said ∷ more) text = (line : List ℕ) × (after : List ℕ) × Starts text line after × form.states line said × Listed more after

  -- how the rest of a line is read after its first letter: as something that says what the line states, or it states nothing
  abbrev pub RestRead : {Line : Type 0} → (Line → Said) → ℕ → List ℕ → Option Line → Type 0
  RestRead said_by letter rest o = MatchOption o ((said : Said) → form.states (letter ∷ rest) said → ⊥) (λ l. form.states (letter ∷ rest) (said_by l))

  -- how a line is read: as something that says what it states; or it is of no known kind, or of a known kind and states nothing
  abbrev pub LineRead : {Line : Type 0} → (Line → Said) → List ℕ → Result Line Refusal → Type 0
  LineRead said_by line (Ok l) = form.states line (said_by l)
  LineRead said_by line (Err r) =
      ((Known form.letters line → ⊥) × (UnknownLine ≡ r)) ⊎ (Known form.letters line × ((said : Said) → form.states line said → ⊥) × (MalformedField ≡ r))

  -- the line is refused for r: of no known kind, stating nothing, or failing a test
  abbrev pub LineRefused : Sum → List ℕ → Refusal → Type 0
  LineRefused sum line r =
      ((Known form.letters line → ⊥) × (UnknownLine ≡ r))
      ⊎ ((Known form.letters line × ((said : Said) → form.states line said → ⊥) × (MalformedField ≡ r))
      ⊎ ((said : Said) × form.states line said × Fails (form.tests sum said) r))

  -- what is left of the text is refused for r: its last line is not ended, its first line is refused, or it is at its end
  abbrev pub Refused : Sum → List ℕ → Refusal → Type 0
  Refused sum bs r =
      (((0 < length bs) × Lacks 10 bs) × (UnknownLine ≡ r))
      ⊎ (((line : List ℕ) × (after : List ℕ) × Starts bs line after × LineRefused sum line r)
      ⊎ ((bs ≡ []) × Fails (form.last_tests sum) r))

  -- the text is short enough, and lines that state these are its first ones; rest follows them
  pub record Reached (text : List ℕ) (before : List Said) (sum : Sum) (rest : List ℕ) : Type 0 where
    pub short : length text ≤ 8192
    pub reads : Reads before form.blank text sum rest

  -- the text states sum
  pub record Accepted (text : List ℕ) (sum : Sum) : Type 0 where
    pub lines : List Said
    pub reached : Reached text lines sum []
    pub passed : Passes (form.last_tests sum)

  -- the text is refused for r at the line of that number, the first that is refused
  pub record RefusedAt (text : List ℕ) (r : Refusal) (number : ℕ) : Type 0 where
    pub before : List Said
    pub sum : Sum
    pub rest : List ℕ
    pub reached : Reached text before sum rest
    pub place : number ≡ length before + 1
    pub refused : Refused sum rest r

-- how a reading ends: with what the text states, or with a refusal at a line
pub data Ending (Sum : Type 0) : Type 0 where
  stated : Sum → Ending Sum
  refused : Refusal → ℕ → Ending Sum

-- the text is read so
abbrev pub Ends : {Said Sum : Type 0} → Form Said Sum → List ℕ → Ending Sum → Type 0
Ends form text (stated sum) = Accepted form text sum
Ends form text (refused r number) = ((8192 < length text) × (TextTooLong ≡ r) × (0 ≡ number)) ⊎ RefusedAt form text r number
