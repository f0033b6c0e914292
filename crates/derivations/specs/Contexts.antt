-- What stands around a part of a derivation: a derivation of part 0 over all the places, with a gap. Assumes nothing.
use Rattle.std.specs.Prelude.{◌≡◌, ℕ, ◌+◌, ◌-◌, ◌≤◌, List}
use Rattle.scale.specs.Ops.{Ops}
use Rattle.book.specs.declared.rules.RightSide.TheVariants.{Pair}
use Rattle.book.specs.declared.rules.Rule.{Rule}
use Rattle.sheet.specs.Pairs.{Pairs}
use Rattle.derivations.specs.Least.{LeastOf}
use Rattle.derivations.specs.Trees.{Tree, pair, width, Makes, Weights, weight}
use Rattle.derivations.specs.Costs.{DerivesOver}

-- a derivation with a gap, from the gap outwards: each step has the pair rule that the gap stands in, and the tree beside it
pub data Context : Type 0 where
  whole : Context
  on_left : (rule : ℕ) → (right : Tree) → Context → Context
  on_right : (rule : ℕ) → (left : Tree) → Context → Context

-- the derivation with a tree in the gap
abbrev pub plug : Context → Tree → Tree
plug whole t = t
plug (on_left r right a) t = plug a (pair r t right)
plug (on_right r left a) t = plug a (pair r left t)

-- a gap for the part over the `len` places after the first `before`, in a derivation of part 0 over n places by open strokes
abbrev pub Encloses : List Rule → Pairs → ℕ → ℕ → ℕ → ℕ → Context → Type 0
Encloses rules shown n part before len whole = (part ≡ 0) × (before ≡ 0) × (len ≡ n)
Encloses rules shown n part before len (on_left r t a) =
    (outer : ℕ)
    × (right : ℕ)
    × Makes rules r outer (Pair part right)
    × DerivesOver rules shown right (before + len) (width t) t
    × Encloses rules shown n outer before (len + width t) a
Encloses rules shown n part before len (on_right r l a) =
    (outer : ℕ)
    × (left : ℕ)
    × Makes rules r outer (Pair left part)
    × (width l ≤ before)
    × DerivesOver rules shown left (before - width l) (width l) l
    × Encloses rules shown n outer (before - width l) (width l + len) a

-- what the rules and the trees around the gap weigh
abbrev pub around : {S : Type 0} → Ops S → Weights S → ℕ → ℕ → Context → S
around o W before len whole = o.free
around o W before len (on_left r t a) =
    o.join (around o W before (len + width t) a) (o.join (W r (before + 1) (len + width t)) (weight o W (before + len) t))
around o W before len (on_right r l a) =
    o.join (around o W (before - width l) (width l + len) a) (o.join (W r (before - width l + 1) (width l + len)) (weight o W (before - width l) l))

-- c is the least weight around a gap for the part, and barred if there is no such derivation
abbrev pub LeastAround : {S : Type 0} → Ops S → Weights S → List Rule → Pairs → ℕ → ℕ → ℕ → ℕ → S → Type 0
LeastAround o W rules shown n part before len c = LeastOf o (Encloses rules shown n part before len) (around o W before len) c
