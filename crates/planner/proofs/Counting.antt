-- How many pairs a set has: as many as a set that is the same where it is counted, and one more or none at each stroke.
use Rattle.std.proofs.Common.{◌≡◌, ℕ, zero, suc, ◌+◌, ◌-◌, ◌*◌, ◌<◌, ◌≤◌, Bool, true, false, cond, refl, ap, ◌∙◌, arith}
use Rattle.sheet.specs.Pairs.{Pairs}
use Rattle.planner.specs.Counts.{count_strokes, count_pairs}

one_at_most : (b : Bool) → cond b 1 0 ≤ 1
one_at_most true = omega arith
one_at_most false = omega arith

pub strokes_few : (f : ℕ → Bool) (m : ℕ) → count_strokes f m ≤ m
strokes_few f zero = omega arith
strokes_few f (suc m) = omega (arith, strokes_few f m, one_at_most (f (65 + m)))

pub strokes_same : (f g : ℕ → Bool) (m : ℕ) → ((c : ℕ) → 65 ≤ c → c < 65 + m → f c ≡ g c) → count_strokes f m ≡ count_strokes g m
strokes_same f g zero h = refl
strokes_same f g (suc m) h = rw (strokes_same f g m (λ c low high. h c low (omega arith)), h (65 + m) (omega arith) (omega arith)) refl

-- one stroke more, as a loop from A on has it
pub strokes_more : (f : ℕ → Bool) (k : ℕ) → 65 ≤ k → count_strokes f (k + 1 - 65) ≡ count_strokes f (k - 65) + cond (f k) 1 0
strokes_more f k low =
    let e : k + 1 - 65 ≡ suc (k - 65) = omega arith in
    let d : 65 + (k - 65) ≡ k = omega arith in
    ap (count_strokes f) e ∙ ap (λ c. count_strokes f (k - 65) + cond (f c) 1 0) d

pub pairs_few : (n : ℕ) (f : Pairs) → count_pairs n f ≤ n * 26
pairs_few zero f = omega arith
pairs_few (suc n) f = omega (arith, pairs_few n f, strokes_few (f (suc n)) 26)

pub pairs_same : (n : ℕ) (f g : Pairs) → ((p c : ℕ) → 1 ≤ p → p ≤ n → f p c ≡ g p c) → count_pairs n f ≡ count_pairs n g
pairs_same zero f g h = refl
pairs_same (suc n) f g h = rw (pairs_same n f g (λ p c low high. h p c low (omega arith)), strokes_same (f (suc n)) (g (suc n)) 26 (λ c low high. h (suc n) c (omega arith) (omega arith))) refl

-- one place more
pub pairs_more : (n : ℕ) (f : Pairs) → count_pairs (n + 1) f ≡ count_pairs n f + count_strokes (f (n + 1)) 26
pairs_more n f = let e : n + 1 ≡ suc n = omega arith in rw e refl
