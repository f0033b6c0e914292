-- A tree put in the gap of a context: it derives, spells and weighs what both do; and each derivation taken apart at a cut.
use Rattle.std.proofs.Common.{◌≡◌, ℕ, ◌+◌, ◌-◌, ◌<◌, ◌≤◌, true, List, length, sym, refl, ap, ◌∙◌, inl, inr, zero-add, arith}
use Rattle.std.proofs.lemmas.Bool.{cases_lt}
use Rattle.scale.specs.Ops.{Ops, Laws}
use Rattle.book.specs.declared.rules.RightSide.TheVariants.{Cut}
use Rattle.book.specs.declared.rules.Rule.{Rule}
use Rattle.sheet.specs.Pairs.{Pairs}
use Rattle.derivations.specs.Trees.{Tree, cut, pair, width, Makes, strokes, Weights, weight}
use Rattle.derivations.specs.Costs.{DerivesOver, has}
use Rattle.derivations.specs.Contexts.{Context, whole, on_left, on_right, plug, Encloses, around}
use Rattle.derivations.proofs.Deriving.{length_strokes, derives_size}
use Rattle.derivations.proofs.Having.{has_left, has_right}

module _ (rules : List Rule) (shown : Pairs) (n : ℕ) where
  pub enclosed_within : (a : Context) (part before len : ℕ) → Encloses rules shown n part before len a → before + len ≤ n
  enclosed_within whole part before len e = omega (arith, e.1, e.2)
  enclosed_within (on_left r t a) part before len e = omega (arith, enclosed_within a e.0 before (len + width t) e.4)
  enclosed_within (on_right r l a) part before len e = omega (arith, e.3, enclosed_within a e.0 (before - width l) (width l + len) e.5)

  pub plug_derives : (a : Context) (part before len : ℕ) (t : Tree) → Encloses rules shown n part before len a → DerivesOver rules shown part before len t → DerivesOver rules shown 0 0 n (plug a t)
  plug_derives whole part before len t e d = rw (e.0, e.1, e.2) at d
  plug_derives (on_left r u a) part before len t e d =
      let wide : len ≡ width t = sym (derives_size rules shown part before len t d) in
      plug_derives a e.0 before (len + width u) (pair r t u) e.4 (ap (λ x. x + width u) wide, part, e.1, e.2, rw (← wide) d, rw (← wide) e.3)
  plug_derives (on_right r l a) part before len t e d =
      let wide : len ≡ width t = sym (derives_size rules shown part before len t d) in
      let at : before - width l + width l ≡ before = omega (arith, e.3) in
      plug_derives a e.0 (before - width l) (width l + len) (pair r l t) e.5 (ap (λ x. width l + x) wide, e.1, part, e.2, e.4, rw (at, ← wide) d)

  -- the strokes in the gap stand where the gap is
  pub plug_has : (a : Context) (part before len : ℕ) (t : Tree) → Encloses rules shown n part before len a → (p c : ℕ) → has (strokes rules t) p c ≡ true → has (strokes rules (plug a t)) (before + p) c ≡ true
  plug_has whole part before len t e p c h = rw (e.1, zero-add) h
  plug_has (on_left r u a) part before len t e p c h = plug_has a e.0 before (len + width u) (pair r t u) e.4 p c (has_left (strokes rules t) (strokes rules u) p c h)
  plug_has (on_right r l a) part before len t e p c h =
      let at : before - width l + (length (strokes rules l) + p) ≡ before + p = omega (arith, e.3, length_strokes rules l) in
      rw at at (plug_has a e.0 (before - width l) (width l + len) (pair r l t) e.5 (length (strokes rules l) + p) c (has_right (strokes rules l) (strokes rules t) p c h))

  -- the cut at the place after the first `before`, and what stands around it
  pub record Leaf (before : ℕ) (t : Tree) : Type 0 where
    pub context : Context
    pub rule : ℕ
    pub part : ℕ
    pub stroke : ℕ
    pub encloses : Encloses rules shown n part before 1 context
    pub cuts : Makes rules rule part (Cut stroke)
    pub opened : shown (before + 1) stroke ≡ true
    pub plugged : plug context (cut rule) ≡ t

  -- each derivation in a gap splits at each of its places into a cut and what stands around it
  pub leaf_at : (t : Tree) (a : Context) (part before len at : ℕ) → Encloses rules shown n part before len a → DerivesOver rules shown part before len t → before ≤ at → at < before + len → Leaf at (plug a t)
  leaf_at (cut r) a part before len at e d low high =
      let here : before ≡ at = omega (arith, d.0) in
      record { context = a; rule = r; part = part; stroke = d.1; encloses = rw (← here, ← d.0) e; cuts = d.2; opened = rw (← here) d.3; plugged = refl }
  leaf_at (pair r l t) a part before len at e d low high =
      let outer : Encloses rules shown n part before (width l + width t) a = rw (← d.0) e in
      let back : before + width l - width l ≡ before = omega arith in
      elim (cases_lt at (before + width l)) [
        | inl h ↦ leaf_at l (on_left r t a) d.1 before (width l) at (part, d.2, d.3, d.5, outer) d.4 low h
        | inr h ↦ leaf_at t (on_right r l a) d.2 (before + width l) (width t) at (part, d.1, d.3, omega arith, rw back d.4, rw back outer) d.5 h (omega (arith, d.0))
      ]

  pub leaf_of : (t : Tree) → DerivesOver rules shown 0 0 n t → (before : ℕ) → before < n → Leaf before t
  leaf_of t d before h = leaf_at t whole 0 0 n before (refl, refl, refl) d (omega arith) (omega arith)

module _ {S : Type 0} {o : Ops S} (laws : Laws o) (W : Weights S) (rules : List Rule) (shown : Pairs) (n : ℕ) where
  beside : (a v t r : S) → o.join a (o.join v (o.join t r)) ≡ o.join (o.join a (o.join v r)) t
  beside a v t r = simp (laws.associative, laws.commutative)

  behind : (a v l t : S) → o.join a (o.join v (o.join l t)) ≡ o.join (o.join a (o.join v l)) t
  behind a v l t = simp laws.associative

  -- a derivation weighs what stands around the gap, joined with what is in it
  pub plug_weighs : (a : Context) (part before len : ℕ) (t : Tree) → Encloses rules shown n part before len a → width t ≡ len → weight o W 0 (plug a t) ≡ o.join (around o W before len a) (weight o W before t)
  plug_weighs whole part before len t e wide = rw (e.1, laws.neutral)
  plug_weighs (on_left r u a) part before len t e wide =
      plug_weighs a e.0 before (len + width u) (pair r t u) e.4 (omega arith)
      ∙ let shape = beside (around o W before (len + width u) a) (W r (before + 1) (len + width u)) (weight o W before t) (weight o W (before + len) u) in cc
  plug_weighs (on_right r l a) part before len t e wide =
      plug_weighs a e.0 (before - width l) (width l + len) (pair r l t) e.5 (omega arith)
      ∙ let back : before - width l + width l ≡ before = omega (arith, e.3) in
      let shape = behind (around o W (before - width l) (width l + len) a) (W r (before - width l + 1) (width l + len)) (weight o W (before - width l) l) (weight o W before t) in cc
