-- A line is its letter and the rest: a line without a letter of the form is of no known kind. Assumes nothing.
use Rattle.std.proofs.Common.{◌≡◌, ℕ, List, [], ◌∷◌, Err, refl, ap, inl}
use Rattle.refusal.specs.declared.Refusal.TheVariants.{UnknownLine}
use Rattle.text.specs.declared.kinds.Kind.{Kind}
use Rattle.text.specs.Kinds.{letter_of}
use Rattle.text.specs.Reading.{Form, OneOf, LineRead}

-- two lines with different letters
pub clash : {A : Type 0} (a b : ℕ) {r s bs : List ℕ} → (a ≡ b → ⊥) → a ∷ r ≡ bs → b ∷ s ≡ bs → A
clash a b n e f = absurd (n (cc))

module _ {Said Sum Line : Type 0} (form : Form Said Sum) (said_by : Line → Said) where
  -- a line with no kind's letter in front, where each letter of the form is a kind's
  pub unknown_line : (line : List ℕ) → ((b : ℕ) → OneOf form.letters b → (k : Kind) × (letter_of k ≡ b)) → ((k : Kind) (rest : List ℕ) → letter_of k ∷ rest ≡ line → ⊥) → LineRead form said_by line (Err UnknownLine)
  unknown_line [] each none = inl ((λ h. h), refl)
  unknown_line (b ∷ bs) each none = inl ((λ h. none (each b h).0 bs (ap (λ x. x ∷ bs) (each b h).1)), refl)
