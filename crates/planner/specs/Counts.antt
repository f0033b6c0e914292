-- How many pairs a sheet has in a set. Assumes nothing.
use Rattle.std.specs.Prelude.{ℕ, zero, suc, ◌+◌, Bool, if◌then◌else◌}
use Rattle.sheet.specs.Pairs.{Pairs}

-- how many of the first m strokes, from A on, pass the test
abbrev pub count_strokes : (ℕ → Bool) → ℕ → ℕ
count_strokes f zero = 0
count_strokes f (suc m) = count_strokes f m + (if f (65 + m) then 1 else 0)

-- how many of the pairs of n places are in the set
abbrev pub count_pairs : ℕ → Pairs → ℕ
count_pairs zero f = 0
count_pairs (suc n) f = count_pairs n f + count_strokes (f (suc n)) 26
