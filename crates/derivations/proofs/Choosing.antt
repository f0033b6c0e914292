-- The tie rule takes one derivation at most, and that one has the least weight.
use Rattle.std.proofs.Common.{◌≡◌, ℕ, ◌+◌, List, sym, refl, ap, inl, inr, arith}
use Rattle.scale.specs.Ops.{Ops, Laws}
use Rattle.book.specs.declared.rules.Rule.{Rule}
use Rattle.sheet.specs.Pairs.{Pairs}
use Rattle.derivations.specs.Trees.{Tree, cut, pair, width, strokes, Weights, weight}
use Rattle.derivations.specs.Costs.{DerivesOver, LeastOver, cost}
use Rattle.derivations.specs.Ties.{first_rule, split, NotAfter, Best, Chosen}
use Rattle.derivations.proofs.Minima.{least_unique}
use Rattle.derivations.proofs.Deriving.{width_some, one_pair}
use Rattle.derivations.proofs.Running.{least_run_costs}

not_after_both : (t u : Tree) → NotAfter t u → NotAfter u t → (split t ≡ split u) × (first_rule t ≡ first_rule u)
not_after_both t u (inl a) (inl b) = absurd (omega arith)
not_after_both t u (inl a) (inr b) = absurd (omega arith)
not_after_both t u (inr a) (inl b) = absurd (omega arith)
not_after_both t u (inr a) (inr b) = (a.0, omega arith)

module _ {S : Type 0} {o : Ops S} (laws : Laws o) (W : Weights S) (rules : List Rule) (shown : Pairs) where
  pub best_same : (part before len : ℕ) (t u : Tree) → Best o W rules shown part before len t → Best o W rules shown part before len u → (split t ≡ split u) × (first_rule t ≡ first_rule u)
  best_same part before len t u a b =
      let e : weight o W before t ≡ weight o W before u = laws.antisymmetric _ _ (a.least u b.derives) (b.least t a.derives) in
      not_after_both t u (a.first u b.derives (sym e)) (b.first t a.derives e)

  pub chosen_best : (part before len : ℕ) (t : Tree) → Chosen o W rules shown part before len t → Best o W rules shown part before len t
  chosen_best part before len (cut r) h = h
  chosen_best part before len (pair r a b) h = h.0

  pub best_least : (part before len : ℕ) (t : Tree) → Best o W rules shown part before len t → LeastOver o W rules shown part before len (weight o W before t)
  best_least part before len t h = record { below = h.least; met = inr (t, h.derives, refl) }

  -- so what is least is what it weighs
  pub best_weighs : (part before len : ℕ) (t : Tree) (c : S) → Best o W rules shown part before len t → LeastOver o W rules shown part before len c → weight o W before t ≡ c
  best_weighs part before len t c h l = least_unique laws (DerivesOver rules shown part before len) (weight o W before) (weight o W before t) c (best_least part before len t h) l

  -- its run costs what it weighs
  pub best_run_costs : (n : ℕ) (t : Tree) → Best o W rules shown 0 0 n t → cost o W rules (strokes rules t) ≡ weight o W 0 t
  best_run_costs n t h = least_run_costs laws W rules shown n t h.derives h.least

  pub chosen_same : (part before len : ℕ) (t u : Tree) → Chosen o W rules shown part before len t → Chosen o W rules shown part before len u → t ≡ u
  chosen_same part before len (cut r) (cut s) h k = ap cut (best_same part before len (cut r) (cut s) h k).1
  chosen_same part before len (cut r) (pair s a b) h k = absurd (omega (arith, (best_same part before len (cut r) (pair s a b) h k.0).0, width_some a))
  chosen_same part before len (pair r a b) (cut s) h k = absurd (omega (arith, (best_same part before len (pair r a b) (cut s) h.0 k).0, width_some a))
  chosen_same part before len (pair r a b) (pair s c d) h k =
      let e = best_same part before len (pair r a b) (pair s c d) h.0 k.0 in
      let w = one_pair rules r part part h.1 h.2 k.1 k.2 h.3 (rw (← e.1) at k.3) in
      let wide : width c ≡ width a = sym e.0 in
      let rest : width d ≡ width b = omega (arith, h.0.derives.0, k.0.derives.0) in
      let left : Chosen o W rules shown h.1 before (width a) c = rw (w.1, ← wide) k.4 in
      let right : Chosen o W rules shown h.2 (before + width a) (width b) d = rw (w.2, ← wide, ← rest) k.5 in
      let same_left : a ≡ c = chosen_same h.1 before (width a) a c h.4 left in
      let same_right : b ≡ d = chosen_same h.2 (before + width a) (width b) b d h.5 right in
      rw (e.1, same_left, same_right)
