-- The least weight that is computed is the least: of all the derivations, of those by one rule, and of their halves.
use Rattle.std.proofs.Common.{◌≡◌, ℕ, zero, suc, ◌+◌, ◌-◌, ◌<◌, ◌≤◌, Bool, true, false, cond, ◌&&◌, ◌==◌, List, length, sym, refl, ap, subst, arith}
use Rattle.std.proofs.lemmas.Bool.{eqb-true, eqb-false, and_parts, and_from, both_ways, eq-eqb}
use Rattle.scale.specs.Ops.{Ops, Laws}
use Rattle.book.specs.declared.rules.RightSide.{RightSide}
use Rattle.book.specs.declared.rules.RightSide.TheVariants.{Cut, Pair}
use Rattle.book.specs.declared.rules.Rule.{Rule}
use Rattle.sheet.specs.Pairs.{Pairs}
use Rattle.derivations.specs.Least.{LeastOf}
use Rattle.derivations.specs.Trees.{Tree, cut, pair, width, rule_at, Makes, Weights, weight}
use Rattle.derivations.specs.Costs.{DerivesOver, LeastOver, least_below, weight_by, least_weight}
use Rattle.derivations.specs.Ties.{first_rule, DerivesByRule}
use Rattle.derivations.proofs.Minima.{Under, least_none, least_one, least_same, least_plus, least_both, least_through, least_count, least_union, least_costs, least_till}
use Rattle.derivations.proofs.Deriving.{width_some, cut_not_pair, one_cut, derives_size, derives_listed, derives_part, derives_halves, derives_none}

-- the two halves of a derivation by a pair rule that is split after m + 1 places
abbrev pub Halves : List Rule → Pairs → ℕ → ℕ → ℕ → ℕ → ℕ → Tree × Tree → Type 0
Halves rules shown left right before len m z =
    DerivesOver rules shown left before (m + 1) z.0 × DerivesOver rules shown right (before + (m + 1)) (len - (m + 1)) z.1

abbrev pub halves_weight : {S : Type 0} → Ops S → Weights S → ℕ → Tree × Tree → S
halves_weight o W before z = o.join (weight o W before z.0) (weight o W (before + width z.0) z.1)

module _ {S : Type 0} {o : Ops S} (laws : Laws o) where
  pub below_least : (f : ℕ → S) (m : ℕ) → LeastOf o (λ j. j < m) f (least_below o f m)
  below_least f zero = least_none laws (λ j. j < 0) f (λ j h. omega arith)
  below_least f (suc m) = least_till laws f (m + 1) (suc m) (least_below o f (suc m)) (omega arith) (least_count laws f m (least_below o f m) (least_below o f (suc m)) (below_least f m) refl)

  module _ (W : Weights S) (rules : List Rule) (shown : Pairs) where
    -- an open cut is the only derivation by its rule
    pub cut_least : (r part before stroke : ℕ) → Makes rules r part (Cut stroke) → shown (before + 1) stroke ≡ true → LeastOf o (DerivesByRule rules shown part before 1 r) (weight o W before) (W r (before + 1) 1)
    cut_least r part before stroke makes opened = least_one laws (DerivesByRule rules shown part before 1 r) (weight o W before) (cut r) ((refl, stroke, makes, opened), refl) only
      where
        only : (t : Tree) → DerivesByRule rules shown part before 1 r t → weight o W before t ≡ W r (before + 1) 1
        only (cut s) d = ap (λ x. W x (before + 1) 1) d.1
        only (pair s a b) d = absurd (omega (arith, d.0.0, width_some a, width_some b))

    -- a derivation by a cut rule is over one place, and its stroke is open there
    pub cut_only : (r part before len stroke : ℕ) → Makes rules r part (Cut stroke) → (t : Tree) → DerivesByRule rules shown part before len r t → (len ≡ 1) × (shown (before + 1) stroke ≡ true)
    cut_only r part before len stroke makes (cut s) d =
        let same = one_cut rules r part part d.0.1 stroke (subst (λ x. Makes rules x part (Cut d.0.1)) d.1 d.0.2) makes in
        (d.0.0, rw (← same.1) d.0.3)
    cut_only r part before len stroke makes (pair s a b) d = absurd (cut_not_pair rules r part part stroke d.0.1 d.0.2 makes (rw d.1 at d.0.3))

    -- the least weight by a pair rule is its price joined with the least of its halves
    pub pair_least : (r part before len left right : ℕ) (c : S) → Makes rules r part (Pair left right) → LeastOf o (Under (len - 1) (Halves rules shown left right before len)) (halves_weight o W before) c → LeastOf o (DerivesByRule rules shown part before len r) (weight o W before) (o.join (W r (before + 1) len) c)
    pair_least r part before len left right c makes l =
        least_through laws (Under (len - 1) (Halves rules shown left right before len)) (DerivesByRule rules shown part before len r) (λ z. o.join (W r (before + 1) len) (halves_weight o W before z)) (weight o W before) (o.join (W r (before + 1) len) c) put taken (least_plus laws (Under (len - 1) (Halves rules shown left right before len)) (halves_weight o W before) (W r (before + 1) len) c l)
      where
        put : (z : Tree × Tree) → Under (len - 1) (Halves rules shown left right before len) z → (t : Tree) × DerivesByRule rules shown part before len r t × (weight o W before t ≡ o.join (W r (before + 1) len) (halves_weight o W before z))
        put z u =
            let wide_left : width z.0 ≡ u.0 + 1 = derives_size rules shown left before (u.0 + 1) z.0 u.2.0 in
            let wide_right : width z.1 ≡ len - (u.0 + 1) = derives_size rules shown right (before + (u.0 + 1)) (len - (u.0 + 1)) z.1 u.2.1 in
            let all : len ≡ width z.0 + width z.1 = omega (arith, u.1) in
            (pair r z.0 z.1, ((all, left, right, makes, rw wide_left u.2.0, rw (wide_left, wide_right) u.2.1), refl), ap (λ x. o.join (W r (before + 1) x) (halves_weight o W before z)) (sym all))

        taken : (t : Tree) → DerivesByRule rules shown part before len r t → (z : Tree × Tree) × Under (len - 1) (Halves rules shown left right before len) z × (o.join (W r (before + 1) len) (halves_weight o W before z) ≡ weight o W before t)
        taken (cut s) d = absurd (cut_not_pair rules r part part d.0.1 left right (rw d.1 at d.0.2) makes)
        taken (pair s a b) d =
            let halves = derives_halves rules shown part before len s part left right a b (rw (← d.1) at makes) d.0 in
            let some_left = width_some a in
            let some_right = width_some b in
            let all : len ≡ width a + width b = d.0.0 in
            let wide_left : width a - 1 + 1 ≡ width a = omega arith in
            let wide_right : len - width a ≡ width b = omega arith in
            let on_left : DerivesOver rules shown left before (width a - 1 + 1) a = rw wide_left halves.1 in
            let on_right : DerivesOver rules shown right (before + (width a - 1 + 1)) (len - (width a - 1 + 1)) b = rw (wide_left, wide_right) halves.2 in
            ((a, b), (width a - 1, omega arith, (on_left, on_right)), let e : r ≡ s = sym d.1 in cc)

    -- the least weight of two halves
    pub halves_least : (left right before len m : ℕ) (a b : S) → LeastOver o W rules shown left before (m + 1) a → LeastOver o W rules shown right (before + (m + 1)) (len - (m + 1)) b → LeastOf o (Halves rules shown left right before len m) (halves_weight o W before) (o.join a b)
    halves_least left right before len m a b la lb =
        least_costs laws (Halves rules shown left right before len m) (λ z. o.join (weight o W before z.0) (weight o W (before + (m + 1)) z.1)) (halves_weight o W before) (o.join a b)
        (λ z d. ap (λ x. o.join (weight o W before z.0) (weight o W (before + x) z.1)) (derives_size rules shown left before (m + 1) z.0 d.0))
        (least_both laws (DerivesOver rules shown left before (m + 1)) (DerivesOver rules shown right (before + (m + 1)) (len - (m + 1))) (weight o W before) (weight o W (before + (m + 1))) a b la lb)

    by_rule : (smaller : ℕ → ℕ → ℕ → S) (r part before len : ℕ) (side : RightSide) → ((q j e : ℕ) → e < len → LeastOver o W rules shown q j e (smaller q j e)) → Makes rules r part side → LeastOf o (DerivesByRule rules shown part before len r) (weight o W before) (weight_by o W shown smaller r before len side)
    by_rule smaller r part before len (Cut stroke) each makes = by_cut (len == 1 && shown (before + 1) stroke) refl
      where
        by_cut : (t : Bool) → (len == 1 && shown (before + 1) stroke) ≡ t → LeastOf o (DerivesByRule rules shown part before len r) (weight o W before) (cond t (W r (before + 1) 1) o.barred)
        by_cut true e =
            let both = and_parts (len == 1) (shown (before + 1) stroke) e in
            rw (eqb-true len 1 both.0) (cut_least r part before stroke makes both.1)
        by_cut false e = least_none laws (DerivesByRule rules shown part before len r) (weight o W before) (λ t d. let only = cut_only r part before len stroke makes t d in both_ways _ e (and_from _ _ (eq-eqb len 1 only.0) only.1))
    by_rule smaller r part before len (Pair left right) each makes =
        let f = λ (m : ℕ). o.join (smaller left before (m + 1)) (smaller right (before + (m + 1)) (len - (m + 1))) in
        pair_least r part before len left right (least_below o f (len - 1)) makes
        (least_union laws (Halves rules shown left right before len) (halves_weight o W before) f (len - 1) (least_below o f (len - 1)) (below_least f (len - 1)) (λ m h. halves_least left right before len m _ _ (each left before (m + 1) (omega arith)) (each right (before + (m + 1)) (len - (m + 1)) (omega arith))))

    -- the least of what each rule gives is the least of all
    pub rules_least : (f : ℕ → S) (part before len : ℕ) (c : S) → LeastOf o (λ r. r < length rules) f c → ((r : ℕ) → r < length rules → LeastOf o (DerivesByRule rules shown part before len r) (weight o W before) (f r)) → LeastOver o W rules shown part before len c
    rules_least f part before len c l each =
        least_same laws (Under (length rules) (DerivesByRule rules shown part before len)) (DerivesOver rules shown part before len) (weight o W before) c (λ t u. u.2.0)
        (λ t d. (first_rule t, derives_listed rules shown part before len t d, (d, refl)))
        (least_union laws (DerivesByRule rules shown part before len) (weight o W before) f (length rules) c l each)

    -- no derivation is by a rule for another part
    pub part_none : (r part before len : ℕ) → ((rule_at rules r).part ≡ part → ⊥) → LeastOf o (DerivesByRule rules shown part before len r) (weight o W before) o.barred
    part_none r part before len other = least_none laws (DerivesByRule rules shown part before len r) (weight o W before) (λ t d. other (rw d.1 at (derives_part rules shown part before len t d.0)))

    by_index : (smaller : ℕ → ℕ → ℕ → S) (r part before len : ℕ) → ((q j e : ℕ) → e < len → LeastOver o W rules shown q j e (smaller q j e)) → r < length rules → (t : Bool) → ((rule_at rules r).part == part) ≡ t → LeastOf o (DerivesByRule rules shown part before len r) (weight o W before) (cond t (weight_by o W shown smaller r before len (rule_at rules r).side) o.barred)
    by_index smaller r part before len each listed true e = by_rule smaller r part before len (rule_at rules r).side each (record { listed = listed; for_part = eqb-true _ part e; by_side = refl })
    by_index smaller r part before len each listed false e = part_none r part before len (eqb-false _ part e)

    pub weight_is_least : (fuel part before len : ℕ) → len ≤ fuel → LeastOver o W rules shown part before len (least_weight fuel o W rules shown part before len)
    weight_is_least zero part before len h = least_none laws (DerivesOver rules shown part before len) (weight o W before) (λ t d. derives_none rules shown part before t (let none : len ≡ 0 = omega arith in rw none at d))
    weight_is_least (suc fuel) part before len h =
        let f = λ (r : ℕ). cond ((rule_at rules r).part == part) (weight_by o W shown (least_weight fuel o W rules shown) r before len (rule_at rules r).side) o.barred in
        rules_least f part before len (least_below o f (length rules)) (below_least f (length rules)) (λ r listed. by_index (least_weight fuel o W rules shown) r part before len (λ q j e less. weight_is_least fuel q j e (omega arith)) listed ((rule_at rules r).part == part) refl)
