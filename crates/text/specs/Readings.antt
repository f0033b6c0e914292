-- What the reader of a text answers, for any form of lines: what the text states, or the first refusal with its line. Assumes
-- nothing.
use Rattle.std.specs.Prelude.{◌≡◌, ℕ, List, Ok, Err, Result}
use Rattle.refusal.specs.declared.Refusal.{Refusal}
use Rattle.refusal.specs.declared.Source.{Source}
use Rattle.refusal.specs.declared.Fault.{Fault}
use Rattle.refusal.specs.Faults.{in_text}
use Rattle.text.specs.Reading.{Form, Passes, Fails, stated, refused, Ends}

module _ {Said Sum : Type 0} (form : Form Said Sum) where
  -- the lines before state sum, and those with this one more state next
  pub record Takes (sum : Sum) (line : List ℕ) (next : Sum) : Type 0 where
    pub said : Said
    pub stated : form.states line said
    pub passed : Passes (form.tests sum said)
    pub added : next ≡ form.adds sum said

  -- a text of lines that state sum ends: with a value that says so, or with the refusal of the first test at its end
  abbrev pub Finishes : {Whole : Type 0} → (Whole → Sum) → Sum → Result Whole Refusal → Type 0
  Finishes whole sum (Ok w) = Passes (form.last_tests sum) × (whole w ≡ sum)
  Finishes whole sum (Err r) = Fails (form.last_tests sum) r

  -- the text is refused, and f is its first refusal, with the line
  abbrev pub FaultOf : Source → List ℕ → Fault → Type 0
  FaultOf source text f = (r : Refusal) × (number : ℕ) × (f ≡ in_text source r number) × Ends form text (refused r number)

  module _ {Whole : Type 0} (whole : Whole → Sum) (source : Source) (text : List ℕ) where
    -- r is what the text states, or its fault
    abbrev pub ReadAs : Result Whole Fault → Type 0
    ReadAs (Ok w) = Ends form text (stated (whole w))
    ReadAs (Err f) = FaultOf source text f
