-- Derivations: trees of the rules of a book, the strokes that they spell and what they weigh. Assumes nothing.
use Rattle.std.specs.Prelude.{◌≡◌, ℕ, ◌+◌, ◌<◌, Option, Some, None, List, [], ◌∷◌, ◌++◌, length, slice_get, slice_index_or}
use Rattle.scale.specs.Ops.{Ops}
use Rattle.book.specs.declared.rules.RightSide.{RightSide}
use Rattle.book.specs.declared.rules.RightSide.TheVariants.{Cut, Pair}
use Rattle.book.specs.declared.rules.Rule.{Rule}
use Rattle.book.specs.declared.books.Book.{Book}
use Rattle.book.specs.BookSaid.{rules_of}

-- a tree of rules, each given by its index in the book: rule number 1 has the index 0. Two rules with the same part and
-- right side are both rules, and make different trees
pub data Tree : Type 0 where
  -- one stroke, by a cut rule
  cut : (rule : ℕ) → Tree
  -- what the left tree spells and then what the right tree spells, by a pair rule
  pair : (rule : ℕ) → (left right : Tree) → Tree

-- how many strokes a tree spells
abbrev pub width : Tree → ℕ
width (cut r) = 1
width (pair r a b) = width a + width b

-- what stands for a rule past the end of the list
abbrev pub blank : Rule
blank = record { part = 0; side = Cut 0; time = 0; grade = 0 }

-- the rule at an index, and the blank one past the end
abbrev pub rule_at : List Rule → ℕ → Rule
rule_at rules r = slice_index_or rules r blank

-- the rule at an index of the list makes the part by the right side
pub record Makes (rules : List Rule) (r part : ℕ) (side : RightSide) : Type 0 where
  pub listed : r < length rules
  pub for_part : (rule_at rules r).part ≡ part
  pub by_side : (rule_at rules r).side ≡ side

-- the tree is a derivation of the part: each node is a rule for the part that is asked for there
abbrev pub Derives : List Rule → ℕ → Tree → Type 0
Derives rules part (cut r) = (stroke : ℕ) × Makes rules r part (Cut stroke)
Derives rules part (pair r a b) =
    (left : ℕ) × (right : ℕ) × Makes rules r part (Pair left right) × Derives rules left a × Derives rules right b

-- the stroke of a cut; a pair has none, and 0 stands for it
abbrev pub stroke_of : RightSide → ℕ
stroke_of (Cut stroke) = stroke
stroke_of (Pair left right) = 0

-- the strokes that a tree spells, in order
abbrev pub strokes : List Rule → Tree → List ℕ
strokes rules (cut r) = stroke_of (rule_at rules r).side ∷ []
strokes rules (pair r a b) = strokes rules a ++ strokes rules b

-- the price of the use of a rule: of its index, the place where it begins, counted from 1, and the number of its places
abbrev pub Weights : Type 0 → Type 0
Weights S = (rule start len : ℕ) → S

-- what a tree weighs whose first stroke stands after `before` places: the prices of its rules, joined
abbrev pub weight : {S : Type 0} → Ops S → Weights S → ℕ → Tree → S
weight o W before (cut r) = W r (before + 1) 1
weight o W before (pair r a b) =
    o.join (W r (before + 1) (width a + width b)) (o.join (weight o W before a) (weight o W (before + width a) b))

-- the price of a rule, and barred where there is none
abbrev pub price_of : {S : Type 0} → Ops S → Option Rule → S
price_of o (Some rule) = o.price rule.time rule.grade
price_of o None = o.barred

-- the prices of a book's rules, wherever they are used
abbrev pub prices : {S : Type 0} → Ops S → List Rule → Weights S
prices o rules r start len = price_of o (slice_get rules r)

-- what the uses of a book's rules weigh: the prices that stand in them
abbrev pub weights : {S : Type 0} → Ops S → Book → Weights S
weights o book = prices o (rules_of book)
