-- Lists with a part written over. Assumes nothing.
use Rattle.std.specs.Prelude.{ℕ, ◌+◌, List, [], ◌∷◌, slice_set}

-- the list with xs written over it from the index i on
abbrev pub written_at : List ℕ → ℕ → List ℕ → List ℕ
written_at ys i [] = ys
written_at ys i (x ∷ xs) = written_at (slice_set ys i x) (i + 1) xs
