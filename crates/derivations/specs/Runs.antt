-- Runs over the open strokes of a sheet of n places, within a limit. Assumes nothing.
use Rattle.std.specs.Prelude.{◌≡◌, ℕ, true, List, length}
use Rattle.scale.specs.Ops.{Ops}
use Rattle.book.specs.declared.rules.Rule.{Rule}
use Rattle.sheet.specs.Pairs.{Pairs}
use Rattle.derivations.specs.Least.{LeastOf}
use Rattle.derivations.specs.Trees.{Weights}
use Rattle.derivations.specs.Costs.{has, cost, least_cost}

-- the run has a stroke for each place, and each stroke is open at its place
pub record IsOpen (n : ℕ) (shown : Pairs) (run : List ℕ) : Type 0 where
  pub long : length run ≡ n
  pub along : (p c : ℕ) → has run p c ≡ true → shown p c ≡ true

-- an open run whose cost is not above the limit
pub record OpenWithin {S : Type 0} (o : Ops S) (W : Weights S) (rules : List Rule) (n : ℕ) (shown : Pairs) (limit : S) (run : List ℕ) : Type 0 where
  pub is_open : IsOpen n shown run
  pub within : o.le (cost o W rules run) limit ≡ true

-- no open run is within the limit
abbrev pub NoneWithin : {S : Type 0} → Ops S → Weights S → List Rule → ℕ → Pairs → S → Type 0
NoneWithin o W rules n shown limit = (run : List ℕ) → ¬ OpenWithin o W rules n shown limit run

-- some open run within the limit has the stroke c at the place p
abbrev pub Supported : {S : Type 0} → Ops S → Weights S → List Rule → ℕ → Pairs → S → ℕ → ℕ → Type 0
Supported o W rules n shown limit p c = (run : List ℕ) × OpenWithin o W rules n shown limit run × (has run p c ≡ true)

-- c is what the cheapest open run costs, and barred where no open run is lawful
abbrev pub Cheapest : {S : Type 0} → Ops S → Weights S → List Rule → ℕ → Pairs → S → Type 0
Cheapest o W rules n shown c = LeastOf o (IsOpen n shown) (cost o W rules) c

-- the least weight of the derivations over a sheet is what its cheapest open run costs
abbrev pub CheapestTheorem : {S : Type 0} → Ops S → Type 0
CheapestTheorem {S} o = (W : Weights S) (rules : List Rule) (n : ℕ) (shown : Pairs) → Cheapest o W rules n shown (least_cost o W rules n shown)
