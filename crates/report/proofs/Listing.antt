-- The lines of a sheet: one more stroke, one more place, and how long all of them are. Assumes nothing.
use Rattle.std.proofs.Common.{◌≡◌, ℕ, zero, suc, ◌+◌, ◌-◌, ◌*◌, ◌≤◌, Bool, true, false, cond, [], ◌∷◌, ◌++◌, length, decimal, ap, ◌∙◌, arith, length-append}
use Rattle.sheet.specs.Pairs.{Pairs}
use Rattle.text.proofs.Chaining.{decimal_short}
use Rattle.report.specs.Sheets.{if_open, open_letters, place_line, sheet_text}

module _ (f : Pairs) where
  -- one stroke more, and one place more
  strokes_more : (p k s : ℕ) → s ≡ 65 + k → open_letters f p k ++ if_open f p s ≡ open_letters f p (suc k)
  strokes_more p k s e = ap (λ c. open_letters f p k ++ if_open f p c) e

  pub next_stroke : (p s : ℕ) → 65 ≤ s → open_letters f p (s - 65) ++ if_open f p s ≡ open_letters f p (s + 1 - 65)
  next_stroke p s h = let same : suc (s - 65) ≡ s + 1 - 65 = omega arith in strokes_more p (s - 65) s (omega arith) ∙ ap (open_letters f p) same

  places_more : (k n : ℕ) → n ≡ suc k → sheet_text f k ++ place_line f n ≡ sheet_text f (suc k)
  places_more k n e = ap (λ m. sheet_text f k ++ place_line f m) e

  pub next_place : (n : ℕ) → 1 ≤ n → sheet_text f (n - 1) ++ place_line f n ≡ sheet_text f n
  next_place n h = let same : suc (n - 1) ≡ n = omega arith in places_more (n - 1) n (omega arith) ∙ ap (sheet_text f) same

  one_at_most : (b : Bool) (c : ℕ) → length (cond b (c ∷ []) []) ≤ 1
  one_at_most true c = omega arith
  one_at_most false c = omega arith

  strokes_length : (p k : ℕ) → length (open_letters f p k) ≤ k
  strokes_length p zero = omega arith
  strokes_length p (suc k) = omega (arith, length-append (open_letters f p k) (if_open f p (65 + k)), one_at_most (f p (65 + k)) (65 + k), strokes_length p k)

  pub places_length : (n : ℕ) → n ≤ 24 → length (sheet_text f n) ≤ 34 * n
  places_length zero h = omega arith
  places_length (suc n) h =
      let letters = open_letters f (suc n) 26 in
      let line = length-append (decimal (suc n)) (32 ∷ (letters ++ 10 ∷ [])) in
      let rest = length-append letters (10 ∷ []) in
      omega (arith, length-append (sheet_text f n) (place_line f (suc n)), line, rest, strokes_length (suc n) 26, decimal_short (suc n) (omega arith), places_length n (omega arith))
