-- The board of choices: a number that names a split and a rule, for each part and span of the derivation that the tie rule takes.
-- Assumes nothing.
use Rattle.std.specs.Prelude.{◌≡◌, ℕ, ◌+◌, ◌*◌, List}
use Rattle.scale.specs.Ops.{Ops}
use Rattle.book.specs.declared.rules.RightSide.TheVariants.{Cut, Pair}
use Rattle.book.specs.declared.rules.Rule.{Rule}
use Rattle.sheet.specs.Pairs.{Pairs}
use Rattle.derivations.specs.Trees.{Tree, cut, pair, width, Makes, Weights}
use Rattle.derivations.specs.Ties.{first_rule, split, DerivesByRule, Best, Chosen}
use Rattle.planner.specs.Boards.{entry_of}

-- a derivation over the span whose first rule has the index r and whose left half has m places
abbrev pub DerivesBySplit : List Rule → Pairs → ℕ → ℕ → ℕ → ℕ → ℕ → Tree → Type 0
DerivesBySplit rules shown part before len m r t = DerivesByRule rules shown part before len r t × (split t ≡ m)

-- the code of a split and a rule; there are at most 128 rules
abbrev pub code_of : ℕ → ℕ → ℕ
code_of m r = m * 128 + r

-- the code names the split and the rule of a best derivation
abbrev pub Picked : {S : Type 0} → Ops S → Weights S → List Rule → Pairs → ℕ → ℕ → ℕ → ℕ → Type 0
Picked o W rules shown part before len code =
    (t : Tree) × Best o W rules shown part before len t × (code ≡ code_of (split t) (first_rule t))

-- the tree that the codes name, for the part over the `len` places after the first `before`
abbrev pub Follows : List Rule → List ℕ → ℕ → ℕ → ℕ → ℕ → Tree → Type 0
Follows rules codes k part before len (cut r) =
    (len ≡ 1) × (entry_of 0 k codes part before len ≡ r) × (stroke : ℕ) × Makes rules r part (Cut stroke)
Follows rules codes k part before len (pair r a b) =
    (len ≡ width a + width b)
    × (entry_of 0 k codes part before len ≡ code_of (width a) r)
    × (left : ℕ)
    × (right : ℕ)
    × Makes rules r part (Pair left right)
    × Follows rules codes k left before (width a) a
    × Follows rules codes k right (before + width a) (width b) b

-- the codes name the derivation that the tie rule takes
abbrev pub NamesChosen : {S : Type 0} → Ops S → Weights S → List Rule → Pairs → ℕ → List ℕ → ℕ → ℕ → ℕ → Type 0
NamesChosen o W rules shown k codes part before len =
    (t : Tree) × Follows rules codes k part before len t × Chosen o W rules shown part before len t
