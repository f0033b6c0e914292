-- Charts: boards with the least weights over the spans of a sheet, and how far one is filled. Assumes nothing.
use Rattle.std.specs.Prelude.{ℕ, ◌+◌, ◌<◌, ◌≤◌, List}
use Rattle.scale.specs.Ops.{Ops}
use Rattle.book.specs.declared.rules.Rule.{Rule}
use Rattle.sheet.specs.Pairs.{Pairs}
use Rattle.derivations.specs.Least.{LeastOf}
use Rattle.derivations.specs.Trees.{Weights, weight}
use Rattle.derivations.specs.Costs.{DerivesOver, LeastOver}
use Rattle.derivations.specs.Ties.{first_rule}
use Rattle.planner.specs.Boards.{span_number, entry_of}

-- the spans before number s have the least weights of their parts
abbrev pub Filled : {S : Type 0} → Ops S → Weights S → List Rule → Pairs → ℕ → List S → ℕ → Type 0
Filled o W rules shown k board s =
    (part before len : ℕ) → part < k → 1 ≤ len → span_number before len < s → LeastOver o W rules shown part before len (entry_of o.barred k board part before len)

-- the inside chart of n places: each span has the least weights of its parts
abbrev pub Inside : {S : Type 0} → Ops S → Weights S → List Rule → ℕ → Pairs → ℕ → List S → Type 0
Inside o W rules n shown k board =
    (part before len : ℕ) → part < k → 1 ≤ len → before + len ≤ n → LeastOver o W rules shown part before len (entry_of o.barred k board part before len)

-- the entries of the span have the least weights of the derivations whose first rule stands before index r
abbrev pub Lowered : {S : Type 0} → Ops S → Weights S → List Rule → Pairs → ℕ → List S → ℕ → ℕ → ℕ → Type 0
Lowered o W rules shown k board before len r =
    (part : ℕ) → part < k → LeastOf o (λ t. DerivesOver rules shown part before len t × (first_rule t < r)) (weight o W before) (entry_of o.barred k board part before len)
