-- The least weight of the derivations by one rule: the least of its halves at every split.
use Rattle.std.proofs.Common.{◌≡◌, ℕ, ◌+◌, ◌-◌, ◌<◌, ◌≤◌, List, length, refl, arith}
use Rattle.scale.specs.Ops.{Ops, Laws, lesser_of}
use Rattle.book.specs.declared.rules.RightSide.TheVariants.{Pair}
use Rattle.book.specs.declared.rules.Rule.{Rule}
use Rattle.sheet.specs.Pairs.{Pairs}
use Rattle.derivations.specs.Least.{LeastOf}
use Rattle.derivations.specs.Trees.{rule_at, Weights, weight}
use Rattle.derivations.specs.Costs.{LeastOver}
use Rattle.derivations.specs.Ties.{DerivesByRule}
use Rattle.derivations.proofs.Minima.{Under, least_next}
use Rattle.derivations.proofs.Costing.{Halves, halves_weight, halves_least, pair_least}
use Rattle.planner.specs.Boards.{span_number, entry_of}
use Rattle.planner.specs.Charts.{Filled}
use Rattle.planner.proofs.Indexing.{number_left, number_right}

-- c is the least weight of two halves of the span, of these parts, where the left one has fewer than m places
abbrev pub HalvesLeast : {S : Type 0} → Ops S → Weights S → List Rule → Pairs → ℕ → ℕ → ℕ → ℕ → ℕ → S → Type 0
HalvesLeast o W rules shown left right before len m c =
    LeastOf o (Under (m - 1) (Halves rules shown left right before len)) (halves_weight o W before) c

module _ {S : Type 0} {o : Ops S} (laws : Laws o) (W : Weights S) (rules : List Rule) (shown : Pairs) (left right before len : ℕ) where
  -- one split more, by a board that has the least weights of the halves
  pub halves_more : (k : ℕ) (board : List S) (m : ℕ) (least a b : S) → left < k → right < k → 1 ≤ m → m < len → Filled o W rules shown k board (span_number before len) → a ≡ entry_of o.barred k board left before m → b ≡ entry_of o.barred k board right (before + m) (len - m) → HalvesLeast o W rules shown left right before len m least → HalvesLeast o W rules shown left right before len (m + 1) (lesser_of o least (o.join a b))
  halves_more k board m least a b hl hr some few filled ea eb l =
      let back : m - 1 + 1 ≡ m = omega arith in
      let on : m + 1 - 1 ≡ m - 1 + 1 = omega arith in
      let la : LeastOver o W rules shown left before m a = rw ea (filled left before m hl some (number_left before len m some few)) in
      let lb : LeastOver o W rules shown right (before + m) (len - m) b = rw eb (filled right (before + m) (len - m) hr (omega arith) (number_right before len m some few)) in
      rw on (least_next laws (Halves rules shown left right before len) (halves_weight o W before) (m - 1) least (o.join a b) l (halves_least laws W rules shown left right before len (m - 1) a b (rw back la) (rw back lb)))

  -- all the splits
  pub by_halves : (r m : ℕ) (price least : S) → r < length rules → (rule_at rules r).side ≡ Pair left right → m ≡ len → price ≡ W r (before + 1) len → HalvesLeast o W rules shown left right before len m least → LeastOf o (DerivesByRule rules shown (rule_at rules r).part before len r) (weight o W before) (o.join price least)
  by_halves r m price least listed is all e l =
      rw e (pair_least laws W rules shown r (rule_at rules r).part before len left right least (record { listed = listed; for_part = refl; by_side = is }) (rw all at l))
