-- The bits of the numbers of an order's places are its letters: what the filled memory means as a sheet. Assumes nothing.
use Rattle.std.proofs.Common.{◌≡◌, ℕ, zero, suc, ◌+◌, ◌-◌, ◌*◌, ◌/◌, ◌%◌, ◌^◌, ◌<◌, ◌≤◌, min, false, ◌||◌, eqb, List, [], ◌∷◌, map, length, get_or, take, sym, refl, ap, ◌∙◌, subst, ⊎_elim, mul_assoc, add-mul, add_comm, arith}
use mathlib.Core.Path.{fun_ext}
use lib.Bits.{bit_xor, xor_shifted}
use Rattle.std.specs.List.{AllByRecursion, list_any}
use Rattle.std.proofs.lemmas.Nat.{pow-add, pow_below}
use Rattle.std.proofs.ByRecursion.{All-get_or}
use Rattle.std.proofs.lemmas.List.{length-map, get_or-map, get_or-take, length-take-le}
use Rattle.std.proofs.lemmas.Bool.{cases_eq, eq-eqb, ne_eqb}
use Rattle.sheet.specs.Pairs.{in_range}
use Rattle.sheet.specs.Masks.{bit, mask_shown, with_lower}
use Rattle.sheet.proofs.Bits.{multiple_digit, bit_flip_same, bit_flip_other, zero_bit, lower_bit}
use Rattle.sheet.proofs.Sets.{range_parts, and_when}
use Rattle.order.specs.Letters.{Rises, Letters, mask_of}
use Rattle.order.specs.Texts.{filled, drawn_pairs}
use Rattle.order.proofs.Lettering.{mask_small}

-- letters from low on have no bit below that of low
mask_multiple : (low : ℕ) (ls : List ℕ) → 65 ≤ low → Rises low ls → (a : ℕ) × (mask_of ls ≡ a * 2 ^ (low - 65))
mask_multiple low [] h r = (0, omega arith)
mask_multiple low (c ∷ cs) h r =
    let more = mask_multiple (c + 1) cs (omega (arith, r.0)) r.2 in
    let one : c - 65 ≡ (c - low) + (low - 65) = omega (arith, r.0) in
    let two : c + 1 - 65 ≡ (c + 1 - low) + (low - 65) = omega (arith, r.0) in (
      2 ^ (c - low) + more.0 * 2 ^ (c + 1 - low),
      (λ i. (ap (λ n. 2 ^ n) one ∙ pow-add 2 (c - low) (low - 65)) i + (more.1 ∙ ap (λ n. more.0 * 2 ^ n) two ∙ ap (λ n. more.0 * n) (pow-add 2 (c + 1 - low) (low - 65)) ∙ sym (mul_assoc more.0 (2 ^ (c + 1 - low)) (2 ^ (low - 65)))) i)
          ∙ sym (add-mul (2 ^ (c - low)) (more.0 * 2 ^ (c + 1 - low)) (2 ^ (low - 65))),
    )

pub mask_bit : (low : ℕ) (ls : List ℕ) → 65 ≤ low → Rises low ls → (k : ℕ) → bit (mask_of ls) k ≡ list_any (λ l. eqb l (65 + k)) ls
mask_bit low [] h r k = zero_bit k
mask_bit low (c ∷ cs) h r k =
    let at = c - 65 in
    let many = mask_multiple (c + 1) cs (omega (arith, r.0)) r.2 in
    let up : c + 1 - 65 ≡ at + 1 = omega (arith, r.0) in
    let even : mask_of cs ≡ many.0 * 2 ^ (at + 1) = many.1 ∙ ap (λ n. many.0 * 2 ^ n) up in
    let flip : 2 ^ at + mask_of cs ≡ bit_xor (mask_of cs) (2 ^ at) = add_comm (2 ^ at) (mask_of cs) ∙ subst (λ m. m + 2 ^ at ≡ bit_xor m (2 ^ at)) (sym even) (sym (xor_shifted many.0 (at + 1) (2 ^ at) (pow_below at (at + 1) (omega arith)))) in
    let off : bit (mask_of cs) at ≡ false = ap (λ m. eqb (m / 2 ^ at % 2) 1) even ∙ ap (λ x. eqb x 1) (multiple_digit many.0 (at + 1) at (omega arith)) in
    let more = mask_bit (c + 1) cs (omega (arith, r.0)) r.2 k in
    ap (λ m. bit m k) flip
    ∙ ⊎_elim
    (λ (e : k ≡ at). rw (e, bit_flip_same (mask_of cs) at, off, eq-eqb c (65 + at) (omega (arith, r.0))))
    (λ n. bit_flip_other (mask_of cs) at k n ∙ more ∙ ap (λ b. b || list_any (λ l. eqb l (65 + k)) cs) (sym (ne_eqb c (65 + k) (λ e. n (omega (arith, r.0))))))
    (cases_eq k at)

filled_size : (masks ms : List ℕ) → length (filled masks ms) ≡ length ms
filled_size [] ms = refl
filled_size (k ∷ masks) [] = refl
filled_size (k ∷ masks) (m ∷ ms) = ap suc (filled_size masks ms)

filled_here : (masks ms : List ℕ) (i : ℕ) → i < length masks → i < length ms → get_or (filled masks ms) i 0 ≡ with_lower (get_or ms i 0) (get_or masks i 0)
filled_here [] ms i h k = absurd (omega arith)
filled_here (n ∷ masks) [] i h k = absurd (omega arith)
filled_here (n ∷ masks) (m ∷ ms) zero h k = refl
filled_here (n ∷ masks) (m ∷ ms) (suc i) h k = filled_here masks ms i (omega arith) (omega arith)

-- the sheet of the numbers that the places fill
pub filled_shown : (places : List (List ℕ)) (ms : List ℕ) (n : ℕ) → AllByRecursion Letters places → length places ≤ 16 → length places ≤ length ms → n ≡ length places → mask_shown (take n (filled (map mask_of places) ms)) ≡ drawn_pairs places
filled_shown places ms n all few fits same = fun_ext (λ p. fun_ext (λ c.
    let after = filled (map mask_of places) ms in
    let size : length (take n after) ≡ n = length-take-le n after (omega (arith, filled_size (map mask_of places) ms)) in
    let places_same : min (length (take n after)) 24 ≡ length places = omega arith in
    rw places_same (and_when (in_range (length places) p c) _ _ (λ r.
    let at = range_parts (length places) p c r in
    let i : p - 1 < length places = omega (arith, at.0, at.1) in
    let letters = All-get_or Letters places (p - 1) [] i all in
    let mask = get_or (map mask_of places) (p - 1) 0 in
    let is : mask ≡ mask_of (get_or places (p - 1) []) = get_or-map mask_of places (p - 1) [] 0 i in
    let byte : 65 + (c - 65) ≡ c = omega (arith, at.2) in
    ap (λ m. bit m (c - 65)) (get_or-take n after (p - 1) 0 (omega arith) ∙ filled_here (map mask_of places) ms (p - 1) (simp length-map i) (omega arith) ∙ ap (with_lower (get_or ms (p - 1) 0)) is)
    ∙ lower_bit (get_or ms (p - 1) 0) (mask_of (get_or places (p - 1) [])) (c - 65) (mask_small _ letters) (omega (arith, at.2, at.3))
    ∙ mask_bit 65 (get_or places (p - 1) []) (omega arith) letters.1 (c - 65)
    ∙ ap (λ x. list_any (λ l. eqb l x) (get_or places (p - 1) [])) byte))))
