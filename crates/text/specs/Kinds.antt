-- The kind of a line, by its first letter. Assumes nothing.
use Rattle.std.specs.Prelude.{ℕ}
use Rattle.text.specs.declared.kinds.Kind.{Kind}
use Rattle.text.specs.declared.kinds.Kind.TheVariants.{Parts, Cut, Pair, Note, TimeLimit, GradeLimit, BothLimit, Place}

-- k, c, p and n in a book; t, g, b and o in an order
abbrev pub letter_of : Kind → ℕ
letter_of Parts = 107
letter_of Cut = 99
letter_of Pair = 112
letter_of Note = 110
letter_of TimeLimit = 116
letter_of GradeLimit = 103
letter_of BothLimit = 98
letter_of Place = 111
