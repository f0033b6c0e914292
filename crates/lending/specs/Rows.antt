-- What a row of tests means as a sheet of one place. Assumes nothing.
use Rattle.std.specs.Prelude.{◌-◌, Bool, false, ◌&&◌, List, slice_index_or}
use Rattle.sheet.specs.Pairs.{Pairs, in_range}

-- a stroke is open at the place 1 where its test is true
abbrev pub row_shown : List Bool → Pairs
row_shown ts p c = in_range 1 p c && slice_index_or ts (c - 65) false
