-- From the lines that were read to what the reader answers. Assumes nothing.
use Rattle.std.proofs.Common.{◌≡◌, ℕ, List, Ok, Err, Result, sym, ap, ◌∙◌}
use Rattle.refusal.specs.declared.Source.{Source}
use Rattle.refusal.specs.declared.Fault.{Fault}
use Rattle.refusal.specs.Faults.{in_text}
use Rattle.text.specs.Reading.{Form, Ending, stated, refused, Ends}
use Rattle.text.specs.Readings.{ReadAs}
use Rattle.text.proofs.Endings.{Plain, one_ending, apart}

-- a text has one answer, where what is read is known by what it states
module _ {Said Sum Whole : Type 0} (form : Form Said Sum) (plain : Plain form) (whole : Whole → Sum) (known : (v w : Whole) → whole v ≡ whole w → v ≡ w) (source : Source) (text : List ℕ) where
  one : (x y : Ending Sum) → Ends form text x → Ends form text y → x ≡ y
  one x y h k = one_ending form plain text x y h k

  pub one_answer : (a b : Result Whole Fault) → ReadAs form whole source text a → ReadAs form whole source text b → a ≡ b
  one_answer (Ok v) (Ok w) x y = let e = one (stated (whole v)) (stated (whole w)) x y in let same : whole v ≡ whole w = cc in ap Ok (known v w same)
  one_answer (Ok v) (Err g) x y = absurd (apart (whole v) y.0 y.1 (one (stated (whole v)) (refused y.0 y.1) x y.3))
  one_answer (Err f) (Ok w) x y = absurd (apart (whole w) x.0 x.1 (one (stated (whole w)) (refused x.0 x.1) y x.3))
  one_answer (Err f) (Err g) x y =
      let e = one (refused x.0 x.1) (refused y.0 y.1) x.3 y.3 in
      let e₁ : x.0 ≡ y.0 = cc in
      let e₂ : x.1 ≡ y.1 = cc in
      ap Err (x.2 ∙ (λ i. in_text source (e₁ i) (e₂ i)) ∙ sym y.2)
