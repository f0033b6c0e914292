-- Masks with the number of one place replaced: that place shows its bits, and the others are as they were.
use Rattle.std.proofs.Common.{◌≡◌, ℕ, ◌-◌, ◌/◌, ◌^◌, ◌<◌, ◌≤◌, true, ◌&&◌, List, length, get_or, set, ◌∙◌, ⊎_elim, arith}
use mathlib.Core.Path.{fun_ext}
use Rattle.std.proofs.lemmas.List.{length-set, get_or-set_same, get_or-set_other}
use Rattle.std.proofs.lemmas.Bool.{cases_eq}
use Rattle.std.proofs.lemmas.Bool.Decides.{nat_tests}
use Rattle.sheet.specs.Pairs.{Pairs, is_place, in_range}
use Rattle.sheet.specs.Masks.{bit, mask_places, mask_shown, Rest}
use Rattle.sheet.proofs.Sets.{range_parts, and_when}

module _ (ms : List ℕ) (p v : ℕ) (place : is_place (mask_places ms) p ≡ true) where
  bounds : (1 ≤ p) × (p ≤ mask_places ms)
  bounds = grind (arith, nat_tests)

  size : length (set ms (p - 1) v) ≡ length ms
  size = length-set ms (p - 1) v

  here : get_or (set ms (p - 1) v) (p - 1) 0 ≡ v
  here = let h : p - 1 < length ms = omega (arith, bounds) in get_or-set_same ms (p - 1) v 0 h

  there : (i : ℕ) → (i ≡ p - 1 → ⊥) → get_or (set ms (p - 1) v) i 0 ≡ get_or ms i 0
  there i n = get_or-set_other ms (p - 1) i v 0 n

  pub replaced_rest : v / 2 ^ 26 ≡ get_or ms (p - 1) 0 / 2 ^ 26 → Rest ms (set ms (p - 1) v)
  replaced_rest above = record {
    size = size;
    high = λ i. ⊎_elim (λ (e : i ≡ p - 1). rw (e, here) above) (λ n. rw (there i n)) (cases_eq i (p - 1));
    past = λ i h. there i (λ e. omega (arith, bounds));
  }

  shown_there : (q d : ℕ) → (q ≡ p → ⊥) → mask_shown (set ms (p - 1) v) q d ≡ mask_shown ms q d
  shown_there q d n =
      rw size
      (and_when (in_range (mask_places ms) q d) _ _
      (λ r. let h = range_parts (mask_places ms) q d r in rw (there (q - 1) (λ e. n (omega (arith, bounds))))))

  pub replaced_shown : (g : Pairs) → ((d : ℕ) → (in_range (mask_places ms) p d && bit v (d - 65)) ≡ g p d) → ((q d : ℕ) → (q ≡ p → ⊥) → mask_shown ms q d ≡ g q d) → mask_shown (set ms (p - 1) v) ≡ g
  replaced_shown g at others = fun_ext (λ q. fun_ext (λ d.
      ⊎_elim (λ (e : q ≡ p). rw (e, size, here) (at d)) (λ n. shown_there q d n ∙ others q d n) (cases_eq q p)))
