-- Sets of pairs of a place and a stroke, as tests, and one pair closed or opened. Assumes nothing.
use Rattle.std.specs.Prelude.{ℕ, Bool, false, cond, not, ◌&&◌, ◌==◌, nat_le}

-- a set of pairs: true at a place and a stroke's byte exactly where the pair is in it
abbrev pub Pairs : Type 0
Pairs = ℕ → ℕ → Bool

-- the places of a sheet of n places are 1 to n
abbrev pub is_place : ℕ → ℕ → Bool
is_place n p = nat_le 1 p && nat_le p n

-- the strokes are the bytes of A to Z
abbrev pub is_stroke : ℕ → Bool
is_stroke c = nat_le 65 c && nat_le c 90

-- the pairs of a sheet of n places
abbrev pub in_range : ℕ → Pairs
in_range n p c = is_place n p && is_stroke c

-- the one pair of the place p and the stroke c
abbrev pub same_pair : ℕ → ℕ → Pairs
same_pair p c q d = q == p && d == c

-- f without the pair
abbrev pub closed_at : Pairs → ℕ → ℕ → Pairs
closed_at f p c q d = cond (same_pair p c q d) false (f q d)

-- f with the pair, if that is in the range of n places
abbrev pub opened_at : ℕ → Pairs → ℕ → ℕ → Pairs
opened_at n f p c q d = cond (same_pair p c q d) (in_range n p c) (f q d)

-- f with the pair turned over, if that is in the range of n places
abbrev pub turned_at : ℕ → Pairs → ℕ → ℕ → Pairs
turned_at n f p c q d = cond (same_pair p c q d) (in_range n p c && not (f p c)) (f q d)
