-- What masks hold after code over any sheet: the value that has the rest as it was and the open pairs as promised.
use Rattle.std.proofs.Common.{◌≡◌, ℕ, ◌+◌, ◌-◌, ◌/◌, ◌^◌, ◌<◌, ◌≤◌, Bool, true, false, cond, not, ◌&&◌, eqb, List, get_or, sym, refl, ◌∙◌, ⊎_elim, arith}
use Rattle.std.proofs.lemmas.Nat.{pow_below, pow_pos}
use Rattle.std.proofs.lemmas.Bool.{and_parts, and_left, and_right, cases_Bool, cases_eq, cond_both, eq-eqb, ne_eqb}
use Rattle.std.proofs.lemmas.Bool.Decides.{nat_tests}
use Rattle.sheet.specs.Pairs.{is_place, is_stroke, in_range}
use Rattle.sheet.specs.Masks.{bit, mask_places, mask_shown, Rest}
use Rattle.sheet.specs.MaskLaws.{mask_laws}
use Rattle.sheet.proofs.Bits.{zero_bit, power_bit, lower_bit, lower_above}
use Rattle.sheet.proofs.Pins.{mask_pins}
use Rattle.sheet.proofs.Replacing.{replaced_rest, replaced_shown}
use Rattle.sheet.proofs.Sets.{and_when, range_parts}
use Rattle.lending.specs.Closings.{only_at}
use Rattle.lending.specs.Masks.{only_mask, only_masks}
use Rattle.lending.proofs.Closing.{only_none}

stroke_bounds : (c : ℕ) → is_stroke c ≡ true → (65 ≤ c) × (c ≤ 90)
stroke_bounds c h = grind (arith, nat_tests)

-- the one bit of c, or none
only_low : ℕ → ℕ → ℕ
only_low m c = cond (is_stroke c && bit m (c - 65)) (2 ^ (c - 65)) 0

low_small : (m c : ℕ) → only_low m c < 2 ^ 26
unfolding only_low
low_small m c =
    cond_both (is_stroke c && bit m (c - 65)) (2 ^ (c - 65)) 0 (λ x. x < 2 ^ 26)
    (λ h. let b = stroke_bounds c (and_parts (is_stroke c) _ h).0 in pow_below (c - 65) 26 (omega arith))
    (λ _. pow_pos 26)

only_above : (m c : ℕ) → only_mask m c / 2 ^ 26 ≡ m / 2 ^ 26
unfolding only_low
only_above m c = lower_above m (only_low m c) (low_small m c)

low_bit : (m c j : ℕ) → j < 26 → bit (only_low m c) j ≡ (eqb (65 + j) c && bit m j)
unfolding only_low
low_bit m c j l =
    ⊎_elim
    (λ (set : (is_stroke c && bit m (c - 65)) ≡ true).
    let parts = and_parts (is_stroke c) _ set in
    let b = stroke_bounds c parts.0 in
    rw set (power_bit (c - 65) j ∙ ⊎_elim
    (λ (e : j ≡ c - 65).
    let here : 65 + (c - 65) ≡ c = omega arith in
    rw (e, here, eq-eqb c c refl, eq-eqb (c - 65) (c - 65) refl, parts.1))
    (λ n. rw (ne_eqb j (c - 65) n, ne_eqb (65 + j) c (λ e. n (omega arith))))
    (cases_eq j (c - 65))))
    (λ (none : (is_stroke c && bit m (c - 65)) ≡ false).
    rw (none, zero_bit j)
    (⊎_elim
    (λ (e : 65 + j ≡ c).
    let ej : c - 65 ≡ j = omega arith in
    let stroke : is_stroke c ≡ true = grind (arith, nat_tests) in
    sym (and_right (eqb (65 + j) c) _ (rw (stroke, ej) at none)))
    (λ n. sym (and_left _ (bit m j) (ne_eqb (65 + j) c n)))
    (cases_eq (65 + j) c)))
    (cases_Bool (is_stroke c && bit m (c - 65)))

only_bit : (m c j : ℕ) → j < 26 → bit (only_mask m c) j ≡ (eqb (65 + j) c && bit m j)
unfolding only_low
only_bit m c j l = lower_bit m (only_low m c) j (low_small m c) l ∙ low_bit m c j l

-- a test a for the range, e for the stroke and b for the bit
only_test : (a e b : Bool) → (a && (e && b)) ≡ cond (not e) false (a && b)
only_test a e b = grind (arith, nat_tests)

-- at its place only the bit of c is left
shown_only : (m c d : ℕ) (a : Bool) → (a ≡ true → (65 ≤ d) × (d ≤ 90)) → (a && bit (only_mask m c) (d - 65)) ≡ cond (not (eqb d c)) false (a && bit m (d - 65))
shown_only m c d a stroke =
    and_when a _ (eqb d c && bit m (d - 65)) (λ r.
    let b = stroke r in
    let e : 65 + (d - 65) ≡ d = omega arith in
    rw e at (only_bit m c (d - 65) (omega arith)))
    ∙ only_test a (eqb d c) (bit m (d - 65))

pub mask_only : (ms ns : List ℕ) (p c : ℕ) → Rest ms ns → mask_shown ns ≡ only_at (mask_shown ms) p c → ns ≡ only_masks ms p c
mask_only ms ns p c rest e =
    let number = get_or ms (p - 1) 0 in
    ⊎_elim
    (λ (place : is_place (mask_places ms) p ≡ true).
    let shown = replaced_shown ms p (only_mask number c) place (only_at (mask_shown ms) p c)
    (λ d. rw (eq-eqb p p refl) (shown_only number c d (in_range (mask_places ms) p d) (λ r. let h = range_parts (mask_places ms) p d r in (h.2, h.3))))
    (λ q d n. rw (ne_eqb q p n)) in
    rw place (mask_pins ms ns _ rest (replaced_rest ms p _ place (only_above number c)) (e ∙ sym shown)))
    (λ (out : is_place (mask_places ms) p ≡ false). rw out (mask_pins ms ns ms rest (mask_laws.keeps ms) (e ∙ sym (only_none (mask_shown ms) p c (λ d. and_left (in_range (mask_places ms) p d) _ (and_left (is_place (mask_places ms) p) _ out))))))
    (cases_Bool (is_place (mask_places ms) p))
