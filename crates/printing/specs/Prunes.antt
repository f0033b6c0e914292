-- How the prune of a sheet ends. Assumes nothing.
use Rattle.std.specs.Prelude.{ℕ, Result, MatchResult}
use Rattle.scale.specs.Ops.{Ops}
use Rattle.refusal.specs.declared.Fault.{Fault}
use Rattle.book.specs.declared.books.Book.{Book}
use Rattle.book.specs.BookSaid.{rules_of}
use Rattle.sheet.specs.Pairs.{Pairs}
use Rattle.derivations.specs.Trees.{weights}
use Rattle.order.specs.declared.limits.Limit.{Limit}
use Rattle.planner.specs.Outcomes.{PrunedTo}
use Rattle.report.specs.Prices.{bound_of}
use Rattle.printing.specs.Refusals.{SheetRefused}

-- the pairs of a sheet of n places are pruned within the limit
abbrev pub PrunedBy : {S : Type 0} → Ops S → S → Book → ℕ → Pairs → Pairs → Type 0
PrunedBy {S} o limit b n before after = (least : S) × (closed : ℕ) × PrunedTo o (weights o b) (rules_of b) n before limit after least closed

-- the same within an order's limit, or the sheet is refused
abbrev pub PruneEnds : {A : Type 0} → Limit → Book → ℕ → Pairs → Pairs → Result A Fault → Type 0
PruneEnds l b n before after r =
    MatchResult r (λ _. PrunedBy (bound_of l).ops (bound_of l).limit b n before after) (SheetRefused (bound_of l).ops (bound_of l).limit b n before)
