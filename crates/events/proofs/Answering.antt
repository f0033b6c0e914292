-- The answer of a call with tests before its search: where it answers other things too, what it has, and that it is one.
use Rattle.std.proofs.Common.{◌≡◌, sym, refl, ap, ◌∙◌}
use Rattle.std.specs.Prelude.{Option, Some, None, Result, Ok, Err}
use Rattle.refusal.specs.declared.Refusal.{Refusal}
use Rattle.planner.specs.Outcomes.{Answered}

module _ {A : Type 0} where
  pub answered_as : (r : Option Refusal) (P Q : A → Type 0) (M N : Type 0) → ((x : A) → P x → Q x) → (M → N) → (answer : Result A Refusal) → Answered r P M answer → Answered r Q N answer
  answered_as (Some e) P Q M N to none answer h = h
  answered_as None P Q M N to none (Ok x) h = to x h
  answered_as None P Q M N to none (Err e) h = (h.0, none h.1)

  pub answered_ok : (r : Option Refusal) (P : A → Type 0) (N : Type 0) (x : A) → Answered r P N (Ok x) → P x
  answered_ok (Some e) P N x h = absurd cc
  answered_ok None P N x h = h

  -- what is wanted may differ in the two
  pub answered_one : (r : Option Refusal) (P Q : A → Type 0) (N : Type 0) → (r ≡ None → (x : A) → P x → N → ⊥) → (r ≡ None → (x : A) → Q x → N → ⊥) → ((x y : A) → P x → Q y → x ≡ y) → (a b : Result A Refusal) → Answered r P N a → Answered r Q N b → a ≡ b
  answered_one (Some e) P Q N no_p no_q one a b h k = h ∙ sym k
  answered_one None P Q N no_p no_q one (Ok x) (Ok y) h k = ap Ok (one x y h k)
  answered_one None P Q N no_p no_q one (Ok x) (Err f) h k = absurd (no_p refl x h k.1)
  answered_one None P Q N no_p no_q one (Err e) (Ok y) h k = absurd (no_q refl y k h.1)
  answered_one None P Q N no_p no_q one (Err e) (Err f) h k = ap Err (h.0 ∙ sym k.0)
