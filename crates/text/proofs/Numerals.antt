-- How a number's digits are read: the digits so far have the value so far. Assumes nothing.
use Rattle.std.proofs.Common.{◌≡◌, ℕ, ◌+◌, ◌*◌, ◌^◌, ◌<◌, ◌≤◌, List, length, get_or, take, sym, ap, ◌∙◌, subst, ⊎_elim, arith, length-take}
use Rattle.std.specs.Str.Parse.{digits_value, AllDigits}
use Rattle.std.specs.Char.{digit_value}
use Rattle.std.specs.Int.{IsInRange}
use Rattle.std.proofs.lemmas.Int.Digits.{digits_value_more, digits_more}
use Rattle.std.proofs.lemmas.Str.Parse.{IsNumeralModel, numerals_by_value, tells_digits, digit_at, digits_value_short}
use Rattle.std.proofs.lemmas.Fmt.{decimal-digits_value, digits_decimal, first_decimal, decimal_nonempty, length-decimal-le}
use Rattle.std.proofs.lemmas.Bool.{cases_lt}
use Rattle.std.proofs.lemmas.List.{take_all}
use Rattle.text.specs.Fields.{Writes}

pub own : IsNumeralModel (AllDigits 10) (digits_value 10)
own = numerals_by_value (AllDigits 10) tells_digits

module _ (ds : List ℕ) (n : ℕ) (w : Writes ds n) where
  pub writes_some : 0 < length ds
  writes_some = subst (λ l. 0 < length l) w.0 (decimal_nonempty n (omega arith))

  pub writes_short : length ds ≤ 6
  writes_short = subst (λ l. length l ≤ 6) w.0 (length-decimal-le 6 n (omega arith) w.1 (omega arith))

  pub writes_digits : AllDigits 10 ds
  writes_digits = subst (AllDigits 10) w.0 (digits_decimal own n (omega arith))

  pub writes_digit : (i : ℕ) → i < length ds → IsInRange 48 57 (get_or ds i 0)
  writes_digit i h = digit_at ds i writes_digits h

  -- no leading zero
  pub writes_first : get_or ds 0 0 ≡ 48 → length ds ≤ 1
  writes_first z =
      let first : 0 < n → 48 < get_or ds 0 0 = λ p. subst (λ l. 48 < get_or l 0 0) w.0 (first_decimal n p (omega arith)) in
      ⊎_elim
      (λ (p : 0 < n). absurd (omega (arith, first p)))
      (λ (p : n ≤ 0). subst (λ l. length l ≤ 1) w.0 (length-decimal-le 1 n (omega arith) (omega arith) (omega arith)))
      (cases_lt 0 n)

-- digits with no leading zero, or just a zero, write their value
pub writes_value : (ds : List ℕ) → AllDigits 10 ds → 0 < length ds → length ds ≤ 6 → (get_or ds 0 0 ≡ 48 → length ds ≡ 1) → Writes ds (digits_value 10 ds)
writes_value ds d some short first =
    let small : digits_value 10 ds < 10 ^ 6 = digits_value_short own ds 6 d short in
    (decimal-digits_value own ds d some first (omega arith), small)

-- one more digit
pub digits_turn : (ds : List ℕ) (i n d : ℕ) → i < length ds → digit_value (get_or ds i 0) < 10 → d ≡ digit_value (get_or ds i 0) → n ≡ digits_value 10 (take i ds) → AllDigits 10 (take i ds) → (n * 10 + d ≡ digits_value 10 (take (i + 1) ds)) × AllDigits 10 (take (i + 1) ds)
digits_turn ds i n d h b e v all = (omega (arith, digits_value_more 10 ds i h), digits_more 10 ds i h all b)

-- what is read so far is small
pub digits_small : (ds : List ℕ) (i n : ℕ) → i < length ds → length ds ≤ 6 → n ≡ digits_value 10 (take i ds) → AllDigits 10 (take i ds) → n < 100000
digits_small ds i n h short v d =
    let small : digits_value 10 (take i ds) < 10 ^ 5 = digits_value_short own (take i ds) 5 d (simp length-take (omega arith)) in omega arith

-- at the end of the field
pub digits_end : (ds : List ℕ) (i n : ℕ) → length ds ≤ i → n ≡ digits_value 10 (take i ds) → AllDigits 10 (take i ds) → 0 < length ds → length ds ≤ 6 → (get_or ds 0 0 ≡ 48 → length ds ≤ 1) → Writes ds n
digits_end ds i n h v d some short first =
    let all = take_all i ds h in
    subst (Writes ds) (sym (v ∙ ap (digits_value 10) all)) (writes_value ds (subst (AllDigits 10) all d) some short (λ z. omega (arith, first z)))
