-- The least weight around a part, from those around the larger spans that it stands in.
use Rattle.std.proofs.Common.{All, ◌≡◌, ℕ, ◌+◌, ◌-◌, ◌<◌, ◌≤◌, true, ◌⊎◌, List, sym, refl, ap, ◌∙◌, subst, inl, inr, arith}
use mathlib.Core.Path.{subst₃}
use Rattle.scale.specs.Ops.{Ops, Laws}
use Rattle.book.specs.Ranges.{InRange}
use Rattle.book.specs.declared.rules.RightSide.TheVariants.{Pair}
use Rattle.book.specs.declared.rules.Rule.{Rule}
use Rattle.sheet.specs.Pairs.{Pairs}
use Rattle.derivations.specs.Least.{LeastOf}
use Rattle.derivations.specs.Trees.{width, Makes, Weights, weight}
use Rattle.derivations.specs.Costs.{DerivesOver, LeastOver}
use Rattle.derivations.specs.Contexts.{Context, whole, on_left, on_right, Encloses, around, LeastAround}
use Rattle.derivations.proofs.Minima.{le_join, absorbs_right, least_none, least_one}
use Rattle.derivations.proofs.Deriving.{width_some, derives_size}
use Rattle.derivations.proofs.Plugging.{enclosed_within}
use Rattle.planner.specs.Pushes.{Push, to_left, to_right, Lowers, pushed}
use Rattle.planner.proofs.Naming.{pair_named}

module _ {S : Type 0} {o : Ops S} (laws : Laws o) (W : Weights S) (rules : List Rule) (shown : Pairs) (n k : ℕ) (ins out : ℕ → ℕ → ℕ → S) (ranged : All (InRange k) rules) (inside : (part before len : ℕ) → part < k → 1 ≤ len → before + len ≤ n → LeastOver o W rules shown part before len (ins part before len)) where
  -- what is pushed is what some context weighs, if it is not barred
  abbrev Reaches : (part before len : ℕ) → S → Type 0
  Reaches part before len c = (c ≡ o.barred) ⊎ ((a : Context) × Encloses rules shown n part before len a × (around o W before len a ≡ c))

  reaches_left : (r q left right before len m : ℕ) → Makes rules r q (Pair left right) → 1 ≤ m → m < len → before + len ≤ n → LeastAround o W rules shown n q before len (out q before len) → Reaches left before m (pushed o W ins out (to_left r q left right before len m))
  reaches_left r q left right before len m makes some less room outer = elim outer.met [
    | inl b ↦ inl (ap (λ c. o.join c (o.join (W r (before + 1) len) (ins right (before + m) (len - m)))) b ∙ laws.absorbing _)
    | inr u ↦ elim (inside right (before + m) (len - m) (pair_named k rules r ranged q left right makes).2 (omega arith) (omega arith)).met [
      | inl b ↦ inl (ap (λ c. o.join (out q before len) (o.join (W r (before + 1) len) c)) b ∙ ap (o.join (out q before len)) (absorbs_right laws (W r (before + 1) len)) ∙ absorbs_right laws (out q before len))
      | inr v ↦
          let t = v.0 in
          let wide : len - m ≡ width t = sym (derives_size rules shown right (before + m) (len - m) t v.1) in
          let all : len ≡ m + width t = omega arith in
          inr (on_left r t u.0, (q, right, makes, subst (λ x. DerivesOver rules shown right (before + m) x t) wide v.1, subst (λ x. Encloses rules shown n q before x u.0) all u.1), let w1 = u.2 in let w2 = v.2 in cc)
    ]
  ]

  reaches_right : (r q left right before len m : ℕ) → Makes rules r q (Pair left right) → 1 ≤ m → m < len → before + len ≤ n → LeastAround o W rules shown n q before len (out q before len) → Reaches right (before + m) (len - m) (pushed o W ins out (to_right r q left right before len m))
  reaches_right r q left right before len m makes some less room outer = elim outer.met [
    | inl b ↦ inl (ap (λ c. o.join c (o.join (W r (before + 1) len) (ins left before m))) b ∙ laws.absorbing _)
    | inr u ↦ elim (inside left before m (pair_named k rules r ranged q left right makes).1 (omega arith) (omega arith)).met [
      | inl b ↦ inl (ap (λ c. o.join (out q before len) (o.join (W r (before + 1) len) c)) b ∙ ap (o.join (out q before len)) (absorbs_right laws (W r (before + 1) len)) ∙ absorbs_right laws (out q before len))
      | inr v ↦
          let t = v.0 in
          let wide : m ≡ width t = sym (derives_size rules shown left before m t v.1) in
          let all : len ≡ width t + (len - m) = omega arith in
          let at : before ≡ before + m - width t = omega arith in
          inr (on_right r t u.0, (q, left, makes, omega arith, subst (λ x. DerivesOver rules shown left x (width t) t) at (subst (λ x. DerivesOver rules shown left before x t) wide v.1), subst (λ x. Encloses rules shown n q x (width t + (len - m)) u.0) at (subst (λ x. Encloses rules shown n q before x u.0) all u.1)), let w1 = u.2 in let w2 = v.2 in cc)
    ]
  ]

  module _ (part start size : ℕ) (outer : (q before len : ℕ) → q < k → size < len → before + len ≤ n → LeastAround o W rules shown n q before len (out q before len)) where
    reaches : (x : Push) → Lowers rules n part start size x → Reaches part start size (pushed o W ins out x)
    reaches (to_left r q left right before len m) h = subst₃ (λ a b c. Reaches a b c (pushed o W ins out (to_left r q left right before len m))) h.4 h.5 h.6 (reaches_left r q left right before len m h.0 h.1 h.2 h.3 (outer q before len (pair_named k rules r ranged q left right h.0).0 (omega (arith, h.2, h.6)) h.3))
    reaches (to_right r q left right before len m) h = subst₃ (λ a b c. Reaches a b c (pushed o W ins out (to_right r q left right before len m))) h.4 h.5 h.6 (reaches_right r q left right before len m h.0 h.1 h.2 h.3 (outer q before len (pair_named k rules r ranged q left right h.0).0 (omega (arith, h.1, h.2, h.6)) h.3))

    -- what stands around the part weighs no less than some push
    lowered : (a : Context) → 1 ≤ size → size < n → Encloses rules shown n part start size a → (x : Push) × Lowers rules n part start size x × (o.le (pushed o W ins out x) (around o W start size a) ≡ true)
    lowered whole some less e = absurd (omega (arith, e.2))
    lowered (on_left r t a) some less e =
        let q = e.0 in
        let right = e.1 in
        let len = size + width t in
        let room : start + len ≤ n = enclosed_within rules shown n a q start len e.4 in
        let wide = width_some t in
        let rest : len - size ≡ width t = omega arith in
        let named = pair_named k rules r ranged q part right e.2 in
        let beside = subst (λ x. o.le (ins right (start + size) x) (weight o W (start + size) t) ≡ true) (sym rest) ((inside right (start + size) (width t) named.2 wide (omega arith)).below t e.3) in
        (to_left r q part right start len size, (e.2, some, omega arith, room, refl, refl, refl), le_join laws _ _ _ _ ((outer q start len named.0 (omega arith) room).below a e.4) (le_join laws _ _ _ _ (laws.reflexive (W r (start + 1) len)) beside))
    lowered (on_right r l a) some less e =
        let q = e.0 in
        let left = e.1 in
        let before = start - width l in
        let len = width l + size in
        let room : before + len ≤ n = enclosed_within rules shown n a q before len e.5 in
        let wide = width_some l in
        let fits : width l ≤ start = e.3 in
        let named = pair_named k rules r ranged q left part e.2 in
        (to_right r q left part before len (width l), (e.2, wide, omega arith, room, refl, omega arith, omega arith), le_join laws _ _ _ _ ((outer q before len named.0 (omega arith) room).below a e.5) (le_join laws _ _ _ _ (laws.reflexive (W r (before + 1) len)) ((inside left before (width l) named.1 wide (omega arith)).below l e.4)))

    -- over fewer than all the places, the least weight around a part is the least of what is pushed to it
    pub around_by_pushes : (c : S) → 1 ≤ size → size < n → LeastOf o (Lowers rules n part start size) (pushed o W ins out) c → LeastAround o W rules shown n part start size c
    around_by_pushes c some less l = record {
      below = λ a e. let x = lowered a some less e in laws.transitive _ _ _ (l.below x.0 x.1) x.2;
      met = elim l.met [
        | inl b ↦ inl b
        | inr x ↦ elim (reaches x.0 x.1) [ inl b ↦ inl (sym x.2 ∙ b) | inr a ↦ inr (a.0, a.1, a.2 ∙ x.2) ]
      ];
    }

module _ (rules : List Rule) (shown : Pairs) (n : ℕ) where
  only_whole : (part : ℕ) (a : Context) → Encloses rules shown n part 0 n a → (a ≡ whole) × (part ≡ 0)
  only_whole part whole e = (refl, e.0)
  only_whole part (on_left r t a) e = absurd (omega (arith, width_some t, enclosed_within rules shown n a e.0 0 (n + width t) e.4))
  only_whole part (on_right r l a) e = absurd (omega (arith, width_some l, e.3))

  -- around all the places it is free for part 0
  pub around_first : {S : Type 0} {o : Ops S} → Laws o → (W : Weights S) → LeastAround o W rules shown n 0 0 n o.free
  around_first {o = o} laws W = least_one laws (Encloses rules shown n 0 0 n) (around o W 0 n) whole (refl, refl, refl) (λ a e. ap (around o W 0 n) (only_whole 0 a e).0)

  -- and barred for any other
  pub around_others : {S : Type 0} {o : Ops S} → Laws o → (W : Weights S) (part : ℕ) → (part ≡ 0 → ⊥) → LeastAround o W rules shown n part 0 n o.barred
  around_others {o = o} laws W part other = least_none laws (Encloses rules shown n part 0 n) (around o W 0 n) (λ a e. other (only_whole part a e).1)
