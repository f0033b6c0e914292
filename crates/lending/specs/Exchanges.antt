-- Sets of pairs with one stroke of a place exchanged for another. Assumes nothing.
use Rattle.std.specs.Prelude.{ℕ, cond}
use Rattle.sheet.specs.Pairs.{Pairs, closed_at, opened_at}

-- f without the stroke c of the place p and then with the stroke d, on a sheet of n places, if c is open there
abbrev pub exchanged : ℕ → Pairs → ℕ → ℕ → ℕ → Pairs
exchanged n f p c d = cond (f p c) (opened_at n (closed_at f p c) p d) f
