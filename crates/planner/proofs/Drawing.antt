-- A run drawn on a sheet with nothing open, stroke by stroke.
use Rattle.std.proofs.Common.{◌≡◌, ℕ, ◌+◌, ◌<◌, Bool, true, false, cond, ◌&&◌, ◌==◌, ◌-◌, sym, nat_le, zero, suc, ◌/◌, ◌%◌, ◌^◌, List, length, get_or, take, replicate, slice_index, refl, ap, ◌∙◌, arith}
use mathlib.Core.Path.{fun_ext}
use Rattle.std.proofs.Math.Nat.{zero-div}
use Rattle.std.proofs.lemmas.Bool.Decides.{nat_tests}
use Rattle.sheet.specs.Pairs.{Pairs, in_range, is_place, is_stroke, opened_at}
use Rattle.sheet.specs.Masks.{mask_places, mask_shown}
use Rattle.derivations.specs.Costs.{has}

-- what the first m strokes of the run have
abbrev pub drawn : List ℕ → ℕ → Pairs
drawn run m p c = nat_le p m && has run p c

stroke_more : (n m p c x len v : ℕ) → n ≡ len → m < len → is_stroke x ≡ true → (p ≡ m + 1 → v ≡ x) → cond (p == m + 1 && c == x) (in_range n (m + 1) x) (nat_le p m && (is_place len p && v == c)) ≡ (nat_le p (m + 1) && (is_place len p && v == c))
stroke_more n m p c x len v long less stroke same = grind (arith, nat_tests)

pub drawn_more : (run : List ℕ) (n m x : ℕ) (f g : Pairs) → n ≡ length run → m < length run → x ≡ slice_index run m → is_stroke x ≡ true → f ≡ drawn run m → g ≡ opened_at n f (m + 1) x → g ≡ drawn run (m + 1)
drawn_more run n m x f g long less is stroke e opened = opened ∙ ap (λ s. opened_at n s (m + 1) x) e ∙ fun_ext (λ p. fun_ext (λ c. stroke_more n m p c x (length run) (slice_index run (p - 1)) long less stroke (λ h. ap (slice_index run) (omega (arith, h)) ∙ sym is)))

same_at : (z n m i : ℕ) → get_or (take m (replicate n z)) i z ≡ z
same_at z zero zero i = refl
same_at z zero (suc m) i = refl
same_at z (suc n) zero i = refl
same_at z (suc n) (suc m) zero = refl
same_at z (suc n) (suc m) (suc i) = same_at z n m i

no_bit : (k : ℕ) → (0 / k % 2 == 1) ≡ false
no_bit k = rw (zero-div k) refl

and_false : (a b : Bool) → b ≡ false → (a && b) ≡ false
and_false a b h = grind arith

-- masks of 0 have nothing open
pub blank_shown : (ms : List ℕ) (m : ℕ) → ms ≡ take m (replicate 24 0) → (p c : ℕ) → mask_shown ms p c ≡ false
blank_shown ms m e p c = and_false (in_range (mask_places ms) p c) _ (ap (λ x. x / 2 ^ (c - 65) % 2 == 1) (ap (λ s. slice_index s (p - 1)) e ∙ same_at 0 24 m (p - 1)) ∙ no_bit (2 ^ (c - 65)))
