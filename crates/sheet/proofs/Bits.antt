-- The bits of a number: they and what stands above them fix it, and one of them can be turned over.
use Rattle.std.proofs.Common.{◌≡◌, ℕ, zero, suc, ◌+◌, ◌-◌, ◌*◌, ◌/◌, ◌%◌, ◌^◌, ◌<◌, false, not, eqb, sym, refl, ap, ◌∙◌, ⊎_elim, mul_assoc, one-mul, add-one, arith}
use native.Mathlib.Nat.{div_self, div-eq_of_lt, mul-mod_left, zero-div}
use lib.Bits.{bit_xor, xor_zero_l, xor_zero_r, xor_shifted}
use Rattle.std.proofs.lemmas.Nat.{pow_pos, pow-add, pow_below, shl-shr, shr_high, shr-shr, xor_shr, xor_mod}
use Rattle.std.proofs.lemmas.Bool.{cases_order, cases_eq, eq-eqb, ne_eqb, eqb-true}
use Rattle.sheet.specs.Masks.{bit, with_lower}

same_digit : (x y : ℕ) → x < 2 → y < 2 → eqb x 1 ≡ eqb y 1 → x ≡ y
same_digit x y h k e =
    ⊎_elim
    (λ (a : x ≡ 1). a ∙ sym (eqb-true y 1 (sym e ∙ eq-eqb x 1 a)))
    (λ n. ⊎_elim (λ (b : y ≡ 1). absurd (n (eqb-true x 1 (e ∙ eq-eqb y 1 b)))) (λ m. omega arith) (cases_eq y 1))
    (cases_eq x 1)

-- a number is its bits below k and what stands above them
pub bits_same : (k m n : ℕ) → m / 2 ^ k ≡ n / 2 ^ k → ((j : ℕ) → j < k → bit m j ≡ bit n j) → m ≡ n
bits_same zero m n e h = omega (arith, e)
bits_same (suc k) m n e h =
    let low : m / 2 ^ k % 2 ≡ n / 2 ^ k % 2 = same_digit (m / 2 ^ k % 2) (n / 2 ^ k % 2) (omega arith) (omega arith) (h k (omega arith)) in
    let high : m / 2 ^ k / 2 ≡ n / 2 ^ k / 2 = shr-shr m k 1 ∙ ap (λ j. m / 2 ^ j) (add-one k) ∙ e ∙ ap (λ j. n / 2 ^ j) (sym (add-one k)) ∙ sym (shr-shr n k 1) in
    bits_same k m n (omega (arith, low, high)) (λ j l. h j (omega arith))

-- below the bit k a multiple of its power has no bit set
pub multiple_digit : (h k j : ℕ) → j < k → h * 2 ^ k / 2 ^ j % 2 ≡ 0
multiple_digit h k j l =
    let e : k ≡ (k - j - 1) + 1 + j = omega arith in
    let p : h * 2 ^ k ≡ h * 2 ^ (k - j - 1) * 2 * 2 ^ j = ap (λ n. h * 2 ^ n) e ∙ simp (pow-add, ← mul_assoc) in
    ap (λ n. n / 2 ^ j % 2) p ∙ ap (λ n. n % 2) (shl-shr (h * 2 ^ (k - j - 1) * 2) j) ∙ mul-mod_left (h * 2 ^ (k - j - 1)) 2

power_digit_below : (k j : ℕ) → j < k → 2 ^ k / 2 ^ j % 2 ≡ 0
power_digit_below k j h = ap (λ n. n / 2 ^ j % 2) (sym (one-mul (2 ^ k))) ∙ multiple_digit 1 k j h

power_digit_above : (k j : ℕ) → k < j → 2 ^ k / 2 ^ j % 2 ≡ 0
power_digit_above k j h = ap (λ n. n % 2) (div-eq_of_lt (pow_below k j h))

power_digit_same : (k : ℕ) → 2 ^ k / 2 ^ k % 2 ≡ 1
power_digit_same k = ap (λ n. n % 2) (div_self (pow_pos k))

digit_xor : (m n j : ℕ) → bit_xor m n / 2 ^ j % 2 ≡ bit_xor (m / 2 ^ j % 2) (n / 2 ^ j % 2)
digit_xor m n j = ap (λ x. x % 2) (xor_shr m n j) ∙ xor_mod (m / 2 ^ j) (n / 2 ^ j) 1

digit_flip : (x : ℕ) → x < 2 → eqb (bit_xor x 1) 1 ≡ not (eqb x 1)
digit_flip x h = ⊎_elim (λ (e : x ≡ 0). rw e) (λ n. let e : x ≡ 1 = omega arith in rw e) (cases_eq x 0)

pub bit_flip_same : (m k : ℕ) → bit (bit_xor m (2 ^ k)) k ≡ not (bit m k)
bit_flip_same m k =
    ap (λ x. eqb x 1) (digit_xor m (2 ^ k) k ∙ ap (bit_xor (m / 2 ^ k % 2)) (power_digit_same k)) ∙ digit_flip (m / 2 ^ k % 2) (omega arith)

pub bit_flip_other : (m k j : ℕ) → (j ≡ k → ⊥) → bit (bit_xor m (2 ^ k)) j ≡ bit m j
bit_flip_other m k j h =
    let z : 2 ^ k / 2 ^ j % 2 ≡ 0 = ⊎_elim (λ e. absurd (h e)) (⊎_elim (power_digit_below k j) (power_digit_above k j)) (cases_order j k) in
    ap (λ x. eqb x 1) (digit_xor m (2 ^ k) j ∙ ap (bit_xor (m / 2 ^ j % 2)) z ∙ xor_zero_r (m / 2 ^ j % 2))

-- what stands above the bits below w is as it was
pub flip_above : (m k w : ℕ) → k < w → bit_xor m (2 ^ k) / 2 ^ w ≡ m / 2 ^ w
flip_above m k w h = xor_shr m (2 ^ k) w ∙ ap (bit_xor (m / 2 ^ w)) (div-eq_of_lt (pow_below k w h)) ∙ xor_zero_r (m / 2 ^ w)

-- which bits are set in nothing, in a power, and in a number with other lower bits
pub zero_bit : (j : ℕ) → bit 0 j ≡ false
zero_bit j = ap (λ n. eqb (n % 2) 1) (zero-div (2 ^ j))

pub power_bit : (k j : ℕ) → bit (2 ^ k) j ≡ eqb j k
power_bit k j =
    ⊎_elim
    (λ (e : j ≡ k). rw (e, eq-eqb k k refl, power_digit_same k))
    (λ n. ap (λ x. eqb x 1) (⊎_elim (λ e. absurd (n e)) (⊎_elim (power_digit_below k j) (power_digit_above k j)) (cases_order j k)) ∙ sym (ne_eqb j k n))
    (cases_eq j k)

pub lower_bit : (m low k : ℕ) → low < 2 ^ 26 → k < 26 → bit (with_lower m low) k ≡ bit low k
lower_bit m low k h l =
    ap (λ n. bit n k) (sym (xor_shifted (m / 2 ^ 26) 26 low h))
    ∙ ap (λ x. eqb x 1) (digit_xor (m / 2 ^ 26 * 2 ^ 26) low k ∙ ap (λ x. bit_xor x (low / 2 ^ k % 2)) (multiple_digit (m / 2 ^ 26) 26 k l) ∙ xor_zero_l (low / 2 ^ k % 2))

pub lower_above : (m low : ℕ) → low < 2 ^ 26 → with_lower m low / 2 ^ 26 ≡ m / 2 ^ 26
lower_above m low h = shr_high (m / 2 ^ 26) 26 low h
