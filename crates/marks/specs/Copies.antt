-- Sets of pairs copied onto a sheet. Assumes nothing.
use Rattle.std.specs.Prelude.{ℕ, ◌&&◌, cond, ◌==◌}
use Rattle.sheet.specs.Pairs.{Pairs, in_range}

-- f, as far as a sheet of n places has its pairs
abbrev pub copied : ℕ → Pairs → Pairs
copied n f p c = in_range n p c && f p c

-- g with the strokes of the place p those of f, as far as a sheet of n places has it
abbrev pub copied_at : ℕ → Pairs → Pairs → ℕ → Pairs
copied_at n f g p q c = cond (q == p) (copied n f q c) (g q c)
