-- The open letters of a place: rising, and as the bits of a number. Assumes nothing.
use Rattle.std.specs.Prelude.{ℕ, ◌+◌, ◌-◌, ◌^◌, ◌<◌, ◌≤◌, List, [], ◌∷◌, length}

-- letters from low to Z, each after the one before it
abbrev pub Rises : ℕ → List ℕ → Type 0
Rises low [] = Unit {0}
Rises low (c ∷ cs) = (low ≤ c) × (c ≤ 90) × Rises (c + 1) cs

-- one or more capital letters, rising
abbrev pub Letters : List ℕ → Type 0
Letters ls = (0 < length ls) × Rises 65 ls

-- the number with a bit for each letter: bit 0 is A and bit 25 is Z
abbrev pub mask_of : List ℕ → ℕ
mask_of [] = 0
mask_of (c ∷ cs) = 2 ^ (c - 65) + mask_of cs
