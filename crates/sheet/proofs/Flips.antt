-- Masks with the bit of one pair turned over: the pair is turned over, and nothing else changed.
use Rattle.std.proofs.Common.{◌≡◌, ℕ, ◌-◌, ◌≤◌, true, cond, not, ◌&&◌, List, get_or, sym, refl, ap, ◌∙◌, ⊎_elim, arith}
use Rattle.std.proofs.lemmas.Bool.{and_parts, and_right, cases_eq, eq-eqb, ne_eqb}
use Rattle.sheet.specs.Pairs.{is_place, in_range, same_pair, closed_at, turned_at}
use Rattle.sheet.specs.Masks.{mask_places, mask_shown, flipped, Rest}
use Rattle.sheet.specs.MaskLaws.{mask_laws}
use Rattle.sheet.proofs.Sets.{range_parts, and_when, turned_closed}
use Rattle.sheet.proofs.Bits.{bit_flip_same, bit_flip_other, flip_above}
use Rattle.sheet.proofs.Replacing.{replaced_rest, replaced_shown}

module _ (ms : List ℕ) (p c : ℕ) (ok : in_range (mask_places ms) p c ≡ true) where
  abbrev number : ℕ
  number = get_or ms (p - 1) 0

  at_pair : (1 ≤ p) × (p ≤ mask_places ms) × (65 ≤ c) × (c ≤ 90)
  at_pair = range_parts (mask_places ms) p c ok

  place : is_place (mask_places ms) p ≡ true
  place = (and_parts (is_place (mask_places ms) p) _ ok).0

  flip_rest : Rest ms (flipped ms p c)
  flip_rest = replaced_rest ms p _ place (flip_above number (c - 65) 26 (omega (arith, at_pair)))

  flip_shown : mask_shown (flipped ms p c) ≡ (λ q d. cond (same_pair p c q d) (not (mask_shown ms p c)) (mask_shown ms q d))
  flip_shown =
      replaced_shown ms p _ place _
      (λ d. ⊎_elim
      (λ (e : d ≡ c). rw (e, eq-eqb p p refl, eq-eqb c c refl, bit_flip_same number (c - 65), ok))
      (λ n. rw (and_right _ _ (ne_eqb d c n)) (and_when (in_range (mask_places ms) p d) _ _ (λ r. let h = range_parts (mask_places ms) p d r in bit_flip_other number (c - 65) (d - 65) (λ e. n (omega (arith, at_pair))))))
      (cases_eq d c))
      (λ q d n. rw (ne_eqb q p n))

pub flip_turns : (ms : List ℕ) (p c : ℕ) → in_range (mask_places ms) p c ≡ true → Rest ms (flipped ms p c) × (mask_shown (flipped ms p c) ≡ turned_at (mask_places ms) (mask_shown ms) p c)
flip_turns ms p c ok =
    let turned = ap (λ b. b && not (mask_shown ms p c)) ok in
    (flip_rest ms p c ok, flip_shown ms p c ok ∙ ap (λ b q d. cond (same_pair p c q d) b (mask_shown ms q d)) (sym turned))

pub flip_closes : (ms : List ℕ) (p c : ℕ) → mask_shown ms p c ≡ true → Rest ms (flipped ms p c) × (mask_shown (flipped ms p c) ≡ closed_at (mask_shown ms) p c)
flip_closes ms p c was =
    let done = flip_turns ms p c (mask_laws.within ms p c was) in
    (done.0, done.1 ∙ turned_closed (mask_places ms) (mask_shown ms) p c was)
