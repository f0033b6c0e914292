-- How the reading of an order ends, from what the reader of texts answers. Assumes nothing.
use Rattle.std.proofs.Common.{◌≡◌, ℕ, ◌<◌, ◌≤◌, List, length, Err, refl, subst, inr, ⊎_elim, arith}
use Rattle.refusal.specs.declared.Source.TheVariants as source
use Rattle.refusal.specs.declared.Fault.{Fault}
use Rattle.text.specs.Reading.{stated, Ends}
use Rattle.text.specs.Readings.{FaultOf}
use Rattle.order.specs.Statements.{Stated, order_form}
use Rattle.order.specs.Texts.{Outcome, too_short}
use Rattle.order.proofs.Smallness.{accepted_few}

-- a text that was read, and a memory that is too short
pub outcome_short : (text before : List ℕ) (sum : Stated) (f : Fault) (n : ℕ) → Ends order_form text (stated sum) → f ≡ too_short → n ≡ length sum.places → length before < n → Outcome text before (Err f) before
outcome_short text before sum f n h e same less = (inr (e, (sum, h, subst (λ m. length before < m) same less)), refl)

-- a memory of 16 numbers is never too short
pub never_short : (text before : List ℕ) (f : Fault) (after : List ℕ) → 16 ≤ length before → Outcome text before (Err f) after → FaultOf order_form source.Order text f
never_short text before f after room x =
    ⊎_elim
    (λ (y : FaultOf order_form source.Order text f). y)
    (λ (y : (f ≡ too_short) × ((sum : Stated) × Ends order_form text (stated sum) × (length before < length sum.places))). absurd (omega (arith, y.1.2, accepted_few y.1.0 y.1.1)))
    x.0
