-- The numbers that are barred, each the largest of its kind. Assumes nothing.
use Rattle.std.specs.Prelude.{ℕ}

-- the number of tenths of a second that is barred: the largest of 32 bits
abbrev pub barred_tenths : ℕ
barred_tenths = 4294967295

-- the number of a blade heat that is barred: the largest of 8 bits
abbrev pub barred_level : ℕ
barred_level = 255
