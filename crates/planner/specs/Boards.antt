-- Boards: how a working table is laid out, an entry for each span of places and each part. Assumes nothing.
use Rattle.std.specs.Prelude.{ℕ, zero, suc, ◌+◌, ◌-◌, ◌*◌, ◌/◌, List, slice_index_or}

-- how many entries a board has for n places and k parts
abbrev pub board_entries : ℕ → ℕ → ℕ
board_entries n k = n * (n + 1) / 2 * k

-- how many spans end at the first j places
abbrev pub spans_before : ℕ → ℕ
spans_before zero = zero
spans_before (suc j) = spans_before j + suc j

-- the number of a span, counted from 0: those that end earlier come first, and of those that end together the short ones
abbrev pub span_number : ℕ → ℕ → ℕ
span_number before len = spans_before (before + len - 1) + (len - 1)

-- the index of the entry of a part over a span, in a board of k parts
abbrev pub entry_index : ℕ → ℕ → ℕ → ℕ → ℕ
entry_index k before len part = span_number before len * k + part

-- what stands there
abbrev pub entry_of : {T : Type 0} → T → ℕ → List T → ℕ → ℕ → ℕ → T
entry_of d k board part before len = slice_index_or board (entry_index k before len part) d
