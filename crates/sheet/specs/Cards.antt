-- What a text means as a sheet: 27 bytes a row, of which 26 count. Assumes nothing.
use Rattle.std.specs.Prelude.{◌≡◌, ℕ, ◌+◌, ◌-◌, ◌*◌, ◌/◌, ◌%◌, min, Bool, cond, ◌&&◌, List, length, ◌==◌, slice_index, slice_set}
use Rattle.sheet.specs.Pairs.{Pairs, in_range}

-- a place for each whole row, up to 24
abbrev pub card_places : List ℕ → ℕ
card_places bs = min (length bs / 27) 24

-- the index of the byte of a pair
abbrev pub cell : ℕ → ℕ → ℕ
cell p c = (p - 1) * 27 + (c - 65)

-- a stroke is open at a place where its cell holds its letter
abbrev pub card_shown : List ℕ → Pairs
card_shown bs p c = in_range (card_places bs) p c && slice_index bs (cell p c) == c

-- the text with the byte v in the cell of one pair
abbrev pub with_byte : List ℕ → ℕ → ℕ → ℕ → List ℕ
with_byte bs p c v = slice_set bs (cell p c) v

-- what a cell holds that held a byte: its letter c if it is open, else a full stop if it was open, else that byte
abbrev pub redrawn : Bool → Bool → ℕ → ℕ → ℕ
redrawn is was c held = cond is c (cond was 46 held)

-- the place of the byte at an index
abbrev pub row : ℕ → ℕ
row i = i / 27 + 1

-- the stroke of the byte at an index; at the 27th byte of a row it is the byte after Z, which is no stroke
abbrev pub letter : ℕ → ℕ
letter i = 65 + i % 27

-- the text cs is bs, redrawn with the open pairs of cs
pub record CardRest (bs cs : List ℕ) : Type 0 where
  pub size : length cs ≡ length bs
  pub bytes : (i : ℕ) → slice_index cs i ≡ redrawn (card_shown cs (row i) (letter i)) (card_shown bs (row i) (letter i)) (letter i) (slice_index bs i)
