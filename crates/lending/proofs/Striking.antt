-- A memory that is fixed by what it was and its open pairs is known after a strike.
use Rattle.std.proofs.Common.{◌≡◌, ℕ, Bool, true, cond, is_ok, Ok, Err, Result, sym, ◌∙◌, MatchResult, arith}
use Rattle.refusal.specs.declared.Refusal.{Refusal}
use Rattle.refusal.specs.declared.Refusal.TheVariants.{NoSuchPlace, NotAStroke, NotOpen}
use Rattle.sheet.specs.Pairs.{Pairs, is_place, is_stroke, closed_at}
use Rattle.sheet.specs.Strikes.{struck}

open_if_ok : (a b d : Bool) → ◌≡◌ {A = Result (Unit {0}) Refusal} (Ok tt) (cond a (cond b (cond d (Ok tt) (Err NotOpen)) (Err NotAStroke)) (Err NoSuchPlace)) → d ≡ true
open_if_ok a b d h = grind arith

module _ {X : Type 0} (places : X → ℕ) (shown : X → Pairs) (kept : X → X → Type 0) (pins : (x y z : X) → kept x y → kept x z → shown y ≡ shown z → y ≡ z) where
  -- the memory with one pair closed, as the strike finds it
  pub struck_memory : (x y closed : X) (p c : ℕ) (r : Result (Unit {0}) Refusal) → (shown x p c ≡ true → kept x closed × (shown closed ≡ closed_at (shown x) p c)) → r ≡ struck (places x) (shown x) p c → MatchResult r (λ _. shown y ≡ closed_at (shown x) p c) (λ _. y ≡ x) → kept x y → y ≡ cond (is_ok r) closed x
  struck_memory x y closed p c (Ok tt) closes answer after rest =
      let done = closes (open_if_ok (is_place (places x) p) (is_stroke c) (shown x p c) answer) in
      pins x y closed rest done.0 (after ∙ sym done.1)
  struck_memory x y closed p c (Err e) closes answer after rest = after
