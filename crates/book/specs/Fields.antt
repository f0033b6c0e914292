-- The rules that the fields of a line say. Assumes nothing.
use Rattle.std.specs.Prelude.{◌≡◌, ℕ, Result, MatchResult}
use Rattle.refusal.specs.declared.Refusal.{Refusal}
use Rattle.refusal.specs.declared.Refusal.TheVariants.{OutOfRange}
use Rattle.book.specs.declared.fields.CutFields.{CutFields}
use Rattle.book.specs.declared.fields.PairFields.{PairFields}
use Rattle.book.specs.declared.rules.RightSide.TheVariants as side
use Rattle.book.specs.declared.rules.Rule.{Rule}
use Rattle.book.specs.Ranges.{InRange}

-- the rule of a line `c part stroke time grade`
abbrev pub cut_rule : CutFields → Rule
cut_rule c = record { part = c.part; side = side.Cut c.stroke; time = c.time; grade = c.grade }

-- the rule of a line `p part left right time grade`
abbrev pub pair_rule : PairFields → Rule
pair_rule p = record { part = p.part; side = side.Pair p.left p.right; time = p.time; grade = p.grade }

-- r is the rule u, if that is in the ranges of a book of k parts, and else the refusal 15
abbrev pub RuleIn : ℕ → Rule → Result Rule Refusal → Type 0
RuleIn k u r = MatchResult r (λ v. (v ≡ u) × InRange k u) (λ q. (OutOfRange ≡ q) × (InRange k u → ⊥))
