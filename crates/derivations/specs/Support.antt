-- Which strokes some run within a limit has, by the least weights around one place. Assumes nothing.
use Rattle.std.specs.Prelude.{◌≡◌, ℕ, ◌<◌, true, false, ◌↔◌, ◌+◌, List}
use Rattle.scale.specs.Ops.{Ops}
use Rattle.book.specs.declared.rules.RightSide.TheVariants.{Cut}
use Rattle.book.specs.declared.rules.Rule.{Rule}
use Rattle.sheet.specs.Pairs.{Pairs}
use Rattle.derivations.specs.Trees.{Makes, Weights}
use Rattle.derivations.specs.Contexts.{LeastAround}
use Rattle.derivations.specs.Runs.{Supported}

-- some cut of the stroke c, open at the place after the first `before`, is within the limit together with the least weight around its part there
pub record CutWithin {S : Type 0} (o : Ops S) (W : Weights S) (rules : List Rule) (shown : Pairs) (out : ℕ → S) (before c : ℕ) (limit : S) : Type 0 where
  pub rule : ℕ
  pub part : ℕ
  pub cuts : Makes rules rule part (Cut c)
  pub opened : shown (before + 1) c ≡ true
  pub within : o.le (o.join (out part) (W rule (before + 1) 1)) limit ≡ true

-- within a limit that is not barred, some run has the stroke at the place exactly where some cut of it is within the limit
abbrev pub SupportTheorem : {S : Type 0} → Ops S → Type 0
SupportTheorem {S} o =
    (W : Weights S) (rules : List Rule) (n : ℕ) (shown : Pairs) (out : ℕ → S) (before c : ℕ) (limit : S)
    → before < n
    → o.le o.barred limit ≡ false
    → ((r part stroke : ℕ) → Makes rules r part (Cut stroke) → LeastAround o W rules shown n part before 1 (out part))
    → Supported o W rules n shown limit (before + 1) c ↔ CutWithin o W rules shown out before c limit
