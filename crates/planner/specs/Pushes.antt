-- Pushes: what a pair rule over a span brings to the outside chart at its two halves. Assumes nothing.
use Rattle.std.specs.Prelude.{◌≡◌, ℕ, ◌+◌, ◌-◌, ◌*◌, ◌<◌, ◌≤◌, cond, ◌⊎◌, List, length, ◌==◌}
use Rattle.scale.specs.Ops.{Ops}
use Rattle.book.specs.declared.rules.RightSide.TheVariants.{Pair}
use Rattle.book.specs.declared.rules.Rule.{Rule}
use Rattle.sheet.specs.Pairs.{Pairs}
use Rattle.derivations.specs.Least.{LeastOf}
use Rattle.derivations.specs.Trees.{Makes, Weights}
use Rattle.derivations.specs.Contexts.{LeastAround}
use Rattle.planner.specs.Boards.{spans_before, span_number, entry_of}

-- the outside chart of n places: each span has the least weights around its parts
abbrev pub Outside : {S : Type 0} → Ops S → Weights S → List Rule → ℕ → Pairs → ℕ → List S → Type 0
Outside o W rules n shown k board =
    (part before len : ℕ) → part < k → 1 ≤ len → before + len ≤ n → LeastAround o W rules shown n part before len (entry_of o.barred k board part before len)

-- the rule at index r, of part q to left and right, over `len` places after the first `before`, split after m of them:
-- towards its left half, or towards its right half
pub data Push : Type 0 where
  to_left : (r q left right before len m : ℕ) → Push
  to_right : (r q left right before len m : ℕ) → Push

-- the push stands over n places, and goes to the part over the `size` places after the first `start`
abbrev pub Lowers : List Rule → ℕ → ℕ → ℕ → ℕ → Push → Type 0
Lowers rules n part start size (to_left r q left right before len m) =
    Makes rules r q (Pair left right)
    × (1 ≤ m)
    × (m < len)
    × (before + len ≤ n)
    × (left ≡ part)
    × (before ≡ start)
    × (m ≡ size)
Lowers rules n part start size (to_right r q left right before len m) =
    Makes rules r q (Pair left right)
    × (1 ≤ m)
    × (m < len)
    × (before + len ≤ n)
    × (right ≡ part)
    × (before + m ≡ start)
    × (len - m ≡ size)

-- what the push brings, where `ins` has the least weights of the parts and `out` the least weights around them
abbrev pub pushed : {S : Type 0} → Ops S → Weights S → (ins out : ℕ → ℕ → ℕ → S) → Push → S
pushed o W ins out (to_left r q left right before len m) =
    o.join (out q before len) (o.join (W r (before + 1) len) (ins right (before + m) (len - m)))
pushed o W ins out (to_right r q left right before len m) =
    o.join (out q before len) (o.join (W r (before + 1) len) (ins left before m))

-- the rule of a push, the number of the span that it comes from, and where it splits that
abbrev pub rule_of : Push → ℕ
rule_of (to_left r q left right before len m) = r
rule_of (to_right r q left right before len m) = r

abbrev pub span_of : Push → ℕ
span_of (to_left r q left right before len m) = span_number before len
span_of (to_right r q left right before len m) = span_number before len

abbrev pub split_of : Push → ℕ
split_of (to_left r q left right before len m) = m
split_of (to_right r q left right before len m) = m

-- each entry is the least of what the pushes that are done brought to it, and those over all the places are settled
pub record PushedDown {S : Type 0} (o : Ops S) (W : Weights S) (rules : List Rule) (n k : ℕ) (inside outside : List S) (Done : Push → Type 0) : Type 0 where
  pub room : spans_before n * k ≤ length outside
  pub top : (part : ℕ) → part < k → entry_of o.barred k outside part 0 n ≡ cond (part == 0) o.free o.barred
  pub rest : (part before len : ℕ) → part < k → 1 ≤ len → len < n → before + len ≤ n → LeastOf o (λ x. Lowers rules n part before len x × Done x) (pushed o W (entry_of o.barred k inside) (entry_of o.barred k outside)) (entry_of o.barred k outside part before len)

-- the pushes from the spans of number s and later
abbrev pub FromSpan : ℕ → Push → Type 0
FromSpan s x = s ≤ span_of x

-- those from later spans than number s, and from it by the rules before index r
abbrev pub FromRule : ℕ → ℕ → Push → Type 0
FromRule s r x = (s < span_of x) ⊎ ((span_of x ≡ s) × (rule_of x < r))

-- and from it by the rule at index r at the splits before m
abbrev pub FromSplit : ℕ → ℕ → ℕ → Push → Type 0
FromSplit s r m x = FromRule s r x ⊎ ((span_of x ≡ s) × (rule_of x ≡ r) × (split_of x < m))
