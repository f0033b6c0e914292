-- What a list of numbers means as a sheet: the bit 0 is A and the bit 25 is Z. Assumes nothing.
use Rattle.std.specs.Prelude.{◌≡◌, ℕ, ◌+◌, ◌-◌, ◌*◌, ◌/◌, ◌%◌, ◌^◌, ◌≤◌, min, Bool, ◌&&◌, List, length, ◌==◌, bit_xor, slice_index, slice_set}
use Rattle.sheet.specs.Pairs.{Pairs, in_range}

-- whether the bit k of the number is set
abbrev pub bit : ℕ → ℕ → Bool
bit m k = m / 2 ^ k % 2 == 1

-- a place for each number, up to 24
abbrev pub mask_places : List ℕ → ℕ
mask_places ms = min (length ms) 24

-- a stroke is open at a place where its bit is set in the number of the place
abbrev pub mask_shown : List ℕ → Pairs
mask_shown ms p c = in_range (mask_places ms) p c && bit (slice_index ms (p - 1)) (c - 65)

-- the numbers with the bit of one pair turned over
abbrev pub flipped : List ℕ → ℕ → ℕ → List ℕ
flipped ms p c = slice_set ms (p - 1) (bit_xor (slice_index ms (p - 1)) (2 ^ (c - 65)))

-- the number with these lower 26 bits, and its own higher ones
abbrev pub with_lower : ℕ → ℕ → ℕ
with_lower m low = m / 2 ^ 26 * 2 ^ 26 + low

-- what does not count is as it was
pub record Rest (ms ns : List ℕ) : Type 0 where
  -- how many numbers there are
  pub size : length ns ≡ length ms
  -- the bits above the 26th
  pub high : (i : ℕ) → slice_index ns i / 2 ^ 26 ≡ slice_index ms i / 2 ^ 26
  -- the numbers after the 24th
  pub past : (i : ℕ) → 24 ≤ i → slice_index ns i ≡ slice_index ms i
