-- The first rule and the split of a derivation, and the tie rule: which of the cheapest derivations is taken. Assumes nothing.
use Rattle.std.specs.Prelude.{◌≡◌, ℕ, ◌+◌, ◌<◌, ◌≤◌, true, ◌⊎◌, List}
use Rattle.scale.specs.Ops.{Ops}
use Rattle.book.specs.declared.rules.RightSide.TheVariants.{Pair}
use Rattle.book.specs.declared.rules.Rule.{Rule}
use Rattle.sheet.specs.Pairs.{Pairs}
use Rattle.derivations.specs.Trees.{Tree, cut, pair, width, Makes, Weights, weight}
use Rattle.derivations.specs.Costs.{DerivesOver}

-- the index of a tree's first rule
abbrev pub first_rule : Tree → ℕ
first_rule (cut r) = r
first_rule (pair r a b) = r

-- how many places a tree's left half has; a cut is not split
abbrev pub split : Tree → ℕ
split (cut r) = 0
split (pair r a b) = width a

-- a derivation of the part over these places whose first rule has the index r
abbrev pub DerivesByRule : List Rule → Pairs → ℕ → ℕ → ℕ → ℕ → Tree → Type 0
DerivesByRule rules shown part before len r t = DerivesOver rules shown part before len t × (first_rule t ≡ r)

-- t is split lower than u, or as low and by no higher rule
abbrev pub NotAfter : Tree → Tree → Type 0
NotAfter t u = (split t < split u) ⊎ ((split t ≡ split u) × (first_rule t ≤ first_rule u))

-- no derivation of the part over these places is cheaper than t, and t is after none that is as cheap
pub record Best {S : Type 0} (o : Ops S) (W : Weights S) (rules : List Rule) (shown : Pairs) (part before len : ℕ) (t : Tree) : Type 0 where
  pub derives : DerivesOver rules shown part before len t
  pub least : (u : Tree) → DerivesOver rules shown part before len u → o.le (weight o W before t) (weight o W before u) ≡ true
  pub first : (u : Tree) → DerivesOver rules shown part before len u → weight o W before u ≡ weight o W before t → NotAfter t u

-- t is the derivation that the tie rule takes: of the rules and splits that attain the least cost, the lowest split and
-- then the lowest rule there, and its two halves are taken by the same rule
abbrev pub Chosen : {S : Type 0} → Ops S → Weights S → List Rule → Pairs → ℕ → ℕ → ℕ → Tree → Type 0
Chosen o W rules shown part before len (cut r) = Best o W rules shown part before len (cut r)
Chosen o W rules shown part before len (pair r a b) =
    Best o W rules shown part before len (pair r a b)
    × (left : ℕ)
    × (right : ℕ)
    × Makes rules r part (Pair left right)
    × Chosen o W rules shown left before (width a) a
    × Chosen o W rules shown right (before + width a) (width b) b

-- the tie rule takes one derivation at most
abbrev pub OneChosen : {S : Type 0} → Ops S → Type 0
OneChosen {S} o =
    (W : Weights S) (rules : List Rule) (shown : Pairs) (part before len : ℕ) (t u : Tree)
    → Chosen o W rules shown part before len t
    → Chosen o W rules shown part before len u
    → t ≡ u
