-- The jig order: a book of seven rules for four parts, and a sheet of three places. Assumes nothing.
use Rattle.std.specs.Prelude.{ℕ, List, [], ◌∷◌, codes}
use Rattle.book.specs.declared.rules.RightSide.TheVariants.{Cut, Pair}
use Rattle.book.specs.declared.rules.Rule.{Rule}
use Rattle.book.specs.declared.books.Book.{Book}
use Rattle.sheet.specs.Pairs.{Pairs}
use Rattle.order.specs.Texts.{drawn_pairs}

-- how many parts the book names
abbrev pub parts : ℕ
parts = 4

-- the rule by which a part is the one stroke of a letter: J is 74, K is 75, M is 77 and S is 83
abbrev pub cut_of : ℕ → ℕ → ℕ → ℕ → Rule
cut_of part stroke time grade = record { part = part; side = Cut stroke; time = time; grade = grade }

-- the rule by which a part is a left part and then a right part
abbrev pub pair_of : ℕ → ℕ → ℕ → ℕ → ℕ → Rule
pair_of part left right time grade = record { part = part; side = Pair left right; time = time; grade = grade }

-- the rules of the jig book, from rule number 1 on, which has the index 0
abbrev pub jig : List Rule
jig =
    cut_of 0 77 30 4
    ∷ cut_of 0 83 12 2
    ∷ pair_of 0 0 0 0 0
    ∷ pair_of 0 1 2 5 1
    ∷ cut_of 1 74 20 1
    ∷ pair_of 2 0 3 0 0
    ∷ cut_of 3 75 8 1
    ∷ []

-- the jig book
abbrev pub jig_book : Book
jig_book = record { parts = parts; rules = jig }

-- how many places the sheet has
abbrev pub places : ℕ
places = 3

-- the sheet: J and S are open at the first place, M and S at the second, K and S at the third
abbrev pub sheet : Pairs
sheet = drawn_pairs (codes "JS" ∷ codes "MS" ∷ codes "KS" ∷ [])
