-- What a run costs: the least weight of its derivations, and how it is computed. Assumes nothing.
use Rattle.std.specs.Prelude.{◌≡◌, ℕ, zero, suc, ◌+◌, ◌-◌, true, if◌then◌else◌, ◌&&◌, List, length, ◌==◌, slice_index}
use Rattle.scale.specs.Ops.{Ops, lesser_of}
use Rattle.book.specs.declared.rules.RightSide.{RightSide}
use Rattle.book.specs.declared.rules.RightSide.TheVariants.{Cut, Pair}
use Rattle.book.specs.declared.rules.Rule.{Rule}
use Rattle.sheet.specs.Pairs.{Pairs, is_place}
use Rattle.derivations.specs.Least.{LeastOf}
use Rattle.derivations.specs.Trees.{Tree, cut, pair, width, rule_at, Makes, Derives, strokes, Weights, weight}

-- the tree is a derivation of the run: of part 0, with the run's strokes
pub record DerivesRun (rules : List Rule) (run : List ℕ) (t : Tree) : Type 0 where
  pub derives : Derives rules 0 t
  pub strokes_are : strokes rules t ≡ run

-- c is the least weight of the run's derivations, and barred if it has none
abbrev pub Costs : {S : Type 0} → Ops S → Weights S → List Rule → List ℕ → S → Type 0
Costs o W rules run c = LeastOf o (DerivesRun rules run) (weight o W 0) c

-- the tree is a derivation of the part over the `len` places after the first `before`, each of its strokes open at its place
abbrev pub DerivesOver : List Rule → Pairs → ℕ → ℕ → ℕ → Tree → Type 0
DerivesOver rules shown part before len (cut r) =
    (len ≡ 1) × (stroke : ℕ) × Makes rules r part (Cut stroke) × (shown (before + 1) stroke ≡ true)
DerivesOver rules shown part before len (pair r a b) =
    (len ≡ width a + width b)
    × (left : ℕ)
    × (right : ℕ)
    × Makes rules r part (Pair left right)
    × DerivesOver rules shown left before (width a) a
    × DerivesOver rules shown right (before + width a) (width b) b

-- c is the least weight of such derivations, and barred if there is none
abbrev pub LeastOver : {S : Type 0} → Ops S → Weights S → List Rule → Pairs → ℕ → ℕ → ℕ → S → Type 0
LeastOver o W rules shown part before len c = LeastOf o (DerivesOver rules shown part before len) (weight o W before) c

-- the least of f 0 .. f (m - 1), and barred where m is 0
abbrev pub least_below : {S : Type 0} → Ops S → (ℕ → S) → ℕ → S
least_below o f zero = o.barred
least_below o f (suc m) = lesser_of o (least_below o f m) (f m)

-- the least weight by the rule at an index first, where `smaller` has the least weights over fewer places
abbrev pub weight_by : {S : Type 0} → Ops S → Weights S → Pairs → (ℕ → ℕ → ℕ → S) → ℕ → ℕ → ℕ → RightSide → S
weight_by o W shown smaller r before len (Cut stroke) =
    if len == 1 && shown (before + 1) stroke then W r (before + 1) 1 else o.barred
weight_by o W shown smaller r before len (Pair left right) =
    o.join (W r (before + 1) len) (least_below o (λ m. o.join (smaller left before (m + 1)) (smaller right (before + (m + 1)) (len - (m + 1)))) (len - 1))

-- the least weight of the derivations of the part over the `len` places after the first `before`, for `len` up to the fuel
abbrev pub least_weight : {S : Type 0} → ℕ → Ops S → Weights S → List Rule → Pairs → ℕ → ℕ → ℕ → S
least_weight zero o W rules shown part before len = o.barred
least_weight (suc fuel) o W rules shown part before len =
    least_below o (λ r. if (rule_at rules r).part == part then weight_by o W shown (least_weight fuel o W rules shown) r before len (rule_at rules r).side else o.barred) (length rules)

-- the least weight of the derivations of part 0 over all the n places of a sheet
abbrev pub least_cost : {S : Type 0} → Ops S → Weights S → List Rule → ℕ → Pairs → S
least_cost o W rules n shown = least_weight n o W rules shown 0 0 n

-- whether the run has the stroke at the place
abbrev pub has : List ℕ → Pairs
has run p c = is_place (length run) p && slice_index run (p - 1) == c

-- what a run costs
abbrev pub cost : {S : Type 0} → Ops S → Weights S → List Rule → List ℕ → S
cost o W rules run = least_cost o W rules (length run) (has run)

-- the cost that is computed is the least weight of the run's derivations, and nothing else is
abbrev pub CostTheorem : {S : Type 0} → Ops S → Type 0
CostTheorem {S} o =
    (W : Weights S) (rules : List Rule) (run : List ℕ)
    → Costs o W rules run (cost o W rules run)
    × ((c : S) → Costs o W rules run c → c ≡ cost o W rules run)
