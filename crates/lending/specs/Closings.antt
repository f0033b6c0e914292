-- Sets of pairs with all strokes of a place closed but one. Assumes nothing.
use Rattle.std.specs.Prelude.{ℕ, false, cond, not, ◌&&◌, ◌==◌}
use Rattle.sheet.specs.Pairs.{Pairs}

-- f without the strokes of the place p other than c
abbrev pub only_at : Pairs → ℕ → ℕ → Pairs
only_at f p c q d = cond (q == p && not (d == c)) false (f q d)
