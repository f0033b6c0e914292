-- The least weight of the derivations by one rule with one split.
use Rattle.std.proofs.Common.{◌≡◌, ℕ, ◌+◌, ◌-◌, ◌<◌, ◌≤◌, List, length, sym, refl, ap, ◌∙◌, subst, arith}
use Rattle.scale.specs.Ops.{Ops, Laws}
use Rattle.book.specs.declared.rules.RightSide.TheVariants.{Cut, Pair}
use Rattle.book.specs.declared.rules.Rule.{Rule}
use Rattle.sheet.specs.Pairs.{Pairs}
use Rattle.derivations.specs.Least.{LeastOf}
use Rattle.derivations.specs.Trees.{Tree, cut, pair, width, rule_at, Makes, Weights, weight}
use Rattle.derivations.specs.Costs.{DerivesOver, LeastOver}
use Rattle.derivations.specs.Ties.{DerivesByRule}
use Rattle.derivations.proofs.Minima.{least_none, least_same, least_plus, least_through}
use Rattle.derivations.proofs.Deriving.{width_some, one_pair, derives_size, derives_split}
use Rattle.derivations.proofs.Costing.{Halves, halves_weight, halves_least, cut_only}
use Rattle.planner.specs.Boards.{span_number, entry_of}
use Rattle.planner.specs.Charts.{Filled}
use Rattle.planner.specs.Codes.{DerivesBySplit}
use Rattle.planner.proofs.Indexing.{number_left, number_right}

module _ {S : Type 0} {o : Ops S} (laws : Laws o) (W : Weights S) (rules : List Rule) (shown : Pairs) where
  -- a cut rule has one split
  pub cut_split : (r before len m stroke : ℕ) (c : S) → r < length rules → (rule_at rules r).side ≡ Cut stroke → m < len → LeastOf o (DerivesByRule rules shown (rule_at rules r).part before len r) (weight o W before) c → LeastOf o (DerivesBySplit rules shown (rule_at rules r).part before len m r) (weight o W before) c
  cut_split r before len m stroke c listed is few =
      let part = (rule_at rules r).part in
      least_same laws (DerivesByRule rules shown part before len r) (DerivesBySplit rules shown part before len m r) (weight o W before) c
      (λ t d. (d, omega (arith, few, derives_split rules shown part before len t d.0, cut_only laws W rules shown r part before len stroke (record { listed = listed; for_part = refl; by_side = is }) t d)))
      (λ t d. d.0)

  -- a pair rule makes no derivation with an empty left half
  pub by_no_pair : (r part before len left right : ℕ) → (rule_at rules r).side ≡ Pair left right → LeastOf o (DerivesBySplit rules shown part before len 0 r) (weight o W before) o.barred
  by_no_pair r part before len left right is = least_none laws (DerivesBySplit rules shown part before len 0 r) (weight o W before) none
    where
      none : (t : Tree) → DerivesBySplit rules shown part before len 0 r t → ⊥
      none (cut s) d = let e : Cut d.0.0.1 ≡ Pair left right = sym d.0.0.2.by_side ∙ ap (λ x. (rule_at rules x).side) d.0.1 ∙ is in cc
      none (pair s a b) d = absurd (omega (arith, d.1, width_some a))

  -- the least weight by a pair rule, split after m + 1 places, is its price joined with those of its halves
  halved : (r part before len m left right : ℕ) (a b : S) → Makes rules r part (Pair left right) → m + 1 < len → LeastOver o W rules shown left before (m + 1) a → LeastOver o W rules shown right (before + (m + 1)) (len - (m + 1)) b → LeastOf o (DerivesBySplit rules shown part before len (m + 1) r) (weight o W before) (o.join (W r (before + 1) len) (o.join a b))
  halved r part before len m left right a b makes less la lb =
      least_through laws (Halves rules shown left right before len m) (DerivesBySplit rules shown part before len (m + 1) r) (λ z. o.join (W r (before + 1) len) (halves_weight o W before z)) (weight o W before) (o.join (W r (before + 1) len) (o.join a b)) put taken
      (least_plus laws (Halves rules shown left right before len m) (halves_weight o W before) (W r (before + 1) len) (o.join a b) (halves_least laws W rules shown left right before len m a b la lb))
    where
      put : (z : Tree × Tree) → Halves rules shown left right before len m z → (t : Tree) × DerivesBySplit rules shown part before len (m + 1) r t × (weight o W before t ≡ o.join (W r (before + 1) len) (halves_weight o W before z))
      put z h =
          let wide_left : width z.0 ≡ m + 1 = derives_size rules shown left before (m + 1) z.0 h.0 in
          let wide_right : width z.1 ≡ len - (m + 1) = derives_size rules shown right (before + (m + 1)) (len - (m + 1)) z.1 h.1 in
          let all : len ≡ width z.0 + width z.1 = omega arith in
          (pair r z.0 z.1, (((all, left, right, makes, rw wide_left h.0, rw (wide_left, wide_right) h.1), refl), wide_left), ap (λ x. o.join (W r (before + 1) x) (halves_weight o W before z)) (sym all))

      taken : (t : Tree) → DerivesBySplit rules shown part before len (m + 1) r t → (z : Tree × Tree) × Halves rules shown left right before len m z × (o.join (W r (before + 1) len) (halves_weight o W before z) ≡ weight o W before t)
      taken (cut s) d = absurd (omega (arith, d.1))
      taken (pair s a b) d =
          let same = one_pair rules r part part d.0.0.1 d.0.0.2 left right (subst (λ x. Makes rules x part (Pair d.0.0.1 d.0.0.2)) d.0.1 d.0.0.3) makes in
          let wide_left : width a ≡ m + 1 = d.1 in
          let all : len ≡ width a + width b = d.0.0.0 in
          let wide_right : width b ≡ len - (m + 1) = omega arith in
          let on_left : DerivesOver rules shown left before (m + 1) a = rw (← wide_left, ← same.1) d.0.0.4 in
          let on_right : DerivesOver rules shown right (before + (m + 1)) (len - (m + 1)) b = rw (← wide_right, ← wide_left, ← same.2) d.0.0.5 in
          ((a, b), (on_left, on_right), let e : r ≡ s = sym d.0.1 in cc)

  -- by a pair rule, from a board that has the least weights of the halves
  pub by_pair : (k : ℕ) (board : List S) (r before len m left right : ℕ) (c : S) → r < length rules → (rule_at rules r).side ≡ Pair left right → left < k → right < k → 1 ≤ m → m < len → Filled o W rules shown k board (span_number before len) → c ≡ o.join (W r (before + 1) len) (o.join (entry_of o.barred k board left before m) (entry_of o.barred k board right (before + m) (len - m))) → LeastOf o (DerivesBySplit rules shown (rule_at rules r).part before len m r) (weight o W before) c
  by_pair k board r before len m left right c listed is hl hr some few filled e =
      let a = entry_of o.barred k board left before m in
      let b = entry_of o.barred k board right (before + m) (len - m) in
      let back : m - 1 + 1 ≡ m = omega arith in
      let la : LeastOver o W rules shown left before m a = filled left before m hl some (number_left before len m some few) in
      let lb : LeastOver o W rules shown right (before + m) (len - m) b = filled right (before + m) (len - m) hr (omega arith) (number_right before len m some few) in
      rw e (subst (λ x. LeastOf o (DerivesBySplit rules shown (rule_at rules r).part before len x r) (weight o W before) (o.join (W r (before + 1) len) (o.join a b))) back
      (halved r (rule_at rules r).part before len (m - 1) left right a b (record { listed = listed; for_part = refl; by_side = is }) (omega arith) (rw back la) (rw back lb)))
