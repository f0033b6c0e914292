-- Derivations over a sheet are the derivations of its open runs; what a run costs, and what the cheapest open run costs.
use Rattle.std.proofs.Common.{◌≡◌, ℕ, ◌+◌, true, List, [], ◌∷◌, length, sym, refl, ap, ◌∙◌, inl, inr, zero-add, arith}
use Rattle.scale.specs.Ops.{Ops, Laws}
use Rattle.book.specs.declared.rules.Rule.{Rule}
use Rattle.sheet.specs.Pairs.{Pairs}
use Rattle.derivations.specs.Trees.{Tree, cut, pair, width, Derives, strokes, Weights, weight}
use Rattle.derivations.specs.Costs.{DerivesRun, Costs, DerivesOver, LeastOver, has, cost, least_cost}
use Rattle.derivations.specs.Runs.{IsOpen, Cheapest}
use Rattle.derivations.proofs.Minima.{least_same, least_unique}
use Rattle.derivations.proofs.Deriving.{length_strokes, derives_size}
use Rattle.derivations.proofs.Costing.{weight_is_least}
use Rattle.derivations.proofs.Having.{has_one, has_next, has_left, has_right, has_either, has_same}

-- each stroke of the run is open at its place after the first `before`
abbrev pub OpenFrom : Pairs → ℕ → List ℕ → Type 0
OpenFrom shown before run = (p c : ℕ) → has run p c ≡ true → shown (before + p) c ≡ true

module _ (rules : List Rule) where
  pub derives_rules : (shown : Pairs) (part before len : ℕ) (t : Tree) → DerivesOver rules shown part before len t → Derives rules part t
  derives_rules shown part before len (cut r) d = (d.1, d.2)
  derives_rules shown part before len (pair r a b) d = (d.1, d.2, d.3, derives_rules shown d.1 before (width a) a d.4, derives_rules shown d.2 (before + width a) (width b) b d.5)

  -- what a derivation spells is open
  pub derives_open : (shown : Pairs) (part before len : ℕ) (t : Tree) → DerivesOver rules shown part before len t → OpenFrom shown before (strokes rules t)
  derives_open shown part before len (cut r) d p c h =
      let one = has_one d.1 p c (rw d.2.by_side at h) in
      rw (one.0, ← one.1) d.3
  derives_open shown part before len (pair r a b) d p c h = elim (has_either (strokes rules a) (strokes rules b) p c h) [
    | inl l ↦ derives_open shown d.1 before (width a) a d.4 p c l
    | inr q ↦
        let at : before + p ≡ before + width a + q.0 = omega (arith, q.1, length_strokes rules a) in
        rw at (derives_open shown d.2 (before + width a) (width b) b d.5 q.0 c q.2)
  ]

  -- and where it is open, it stands
  pub derives_from : (shown : Pairs) (part before : ℕ) (t : Tree) → Derives rules part t → OpenFrom shown before (strokes rules t) → DerivesOver rules shown part before (width t) t
  derives_from shown part before (cut r) d opened = (refl, d.0, d.1, opened 1 d.0 (rw d.1.by_side (has_next (d.0 ∷ []) 0 (omega arith))))
  derives_from shown part before (pair r a b) d opened = (
    refl,
    d.0,
    d.1,
    d.2,
    derives_from shown d.0 before a d.3 (λ p c h. opened p c (has_left (strokes rules a) (strokes rules b) p c h)),
    derives_from shown d.1 (before + width a) b d.4 (λ p c h. let at : before + (length (strokes rules a) + p) ≡ before + width a + p = omega (arith, length_strokes rules a) in rw (← at) (opened (length (strokes rules a) + p) c (has_right (strokes rules a) (strokes rules b) p c h))),
  )

  -- the run of a derivation over the sheet is open
  pub run_of : (shown : Pairs) (n : ℕ) (t : Tree) → DerivesOver rules shown 0 0 n t → IsOpen n shown (strokes rules t)
  run_of shown n t d = record {
    long = length_strokes rules t ∙ derives_size rules shown 0 0 n t d;
    along = λ p c h. rw zero-add at (derives_open shown 0 0 n t d p c h);
  }

  pub derives_its_run : (shown : Pairs) (n : ℕ) (t : Tree) → DerivesOver rules shown 0 0 n t → DerivesRun rules (strokes rules t) t
  derives_its_run shown n t d = record { derives = derives_rules shown 0 0 n t d; strokes_are = refl }

  -- a derivation of an open run stands over the sheet
  pub open_run_derives : (shown : Pairs) (n : ℕ) (run : List ℕ) (t : Tree) → IsOpen n shown run → DerivesRun rules run t → DerivesOver rules shown 0 0 n t
  open_run_derives shown n run t opened d =
      let wide : width t ≡ n = sym (length_strokes rules t) ∙ ap length d.strokes_are ∙ opened.long in
      rw (← wide) (derives_from shown 0 0 t d.derives (rw d.strokes_are (λ p c h. rw zero-add (opened.along p c h))))

  pub run_derives : (run : List ℕ) (t : Tree) → DerivesRun rules run t → DerivesOver rules (has run) 0 0 (length run) t
  run_derives run t d = open_run_derives (has run) (length run) run t (record { long = refl; along = λ p c h. h }) d

  pub derives_run : (run : List ℕ) (t : Tree) → DerivesOver rules (has run) 0 0 (length run) t → DerivesRun rules run t
  derives_run run t d =
      let opened = run_of (has run) (length run) t d in
      record { derives = derives_rules (has run) 0 0 (length run) t d; strokes_are = has_same (strokes rules t) run opened.long opened.along }

module _ {S : Type 0} {o : Ops S} (laws : Laws o) (W : Weights S) (rules : List Rule) where
  pub over_run_costs : (run : List ℕ) (c : S) → LeastOver o W rules (has run) 0 0 (length run) c → Costs o W rules run c
  over_run_costs run c l = least_same laws (DerivesOver rules (has run) 0 0 (length run)) (DerivesRun rules run) (weight o W 0) c (derives_run rules run) (run_derives rules run) l

  pub cost_least : (run : List ℕ) → Costs o W rules run (cost o W rules run)
  cost_least run = over_run_costs run (cost o W rules run) (weight_is_least laws W rules (has run) (length run) 0 0 (length run) (omega arith))

  pub cost_is : (run : List ℕ) (c : S) → Costs o W rules run c → c ≡ cost o W rules run
  cost_is run c l = least_unique laws (DerivesRun rules run) (weight o W 0) c (cost o W rules run) l (cost_least run)

  -- the least weight over the sheet of a run is what the run costs
  pub over_run_is : (run : List ℕ) (c : S) → LeastOver o W rules (has run) 0 0 (length run) c → c ≡ cost o W rules run
  over_run_is run c l = cost_is run c (over_run_costs run c l)

  -- the run of a derivation that none over the sheet is cheaper than costs what that weighs
  pub least_run_costs : (shown : Pairs) (n : ℕ) (t : Tree) → DerivesOver rules shown 0 0 n t → ((u : Tree) → DerivesOver rules shown 0 0 n u → o.le (weight o W 0 t) (weight o W 0 u) ≡ true) → cost o W rules (strokes rules t) ≡ weight o W 0 t
  least_run_costs shown n t d least = sym (cost_is (strokes rules t) (weight o W 0 t) (record {
    below = λ u e. least u (open_run_derives rules shown n (strokes rules t) u (run_of rules shown n t d) e);
    met = inr (t, derives_its_run rules shown n t d, refl);
  }))

  -- no open run costs less than the least over the sheet
  pub runs_above : (shown : Pairs) (n : ℕ) (c : S) → LeastOver o W rules shown 0 0 n c → (run : List ℕ) → IsOpen n shown run → o.le c (cost o W rules run) ≡ true
  runs_above shown n c l run opened = elim (cost_least run).met [
    | inl e ↦ rw e (laws.top c)
    | inr t ↦ rw t.2 at (l.below t.0 (open_run_derives rules shown n run t.0 opened t.1))
  ]

  -- and the least over the sheet is what the cheapest open run costs
  -- and it is the one that is computed
  pub least_computed : (shown : Pairs) (n : ℕ) (c : S) → LeastOver o W rules shown 0 0 n c → c ≡ least_cost o W rules n shown
  least_computed shown n c l = least_unique laws (DerivesOver rules shown 0 0 n) (weight o W 0) c (least_cost o W rules n shown) l (weight_is_least laws W rules shown n 0 0 n (omega arith))

  pub over_sheet_cheapest : (shown : Pairs) (n : ℕ) (c : S) → LeastOver o W rules shown 0 0 n c → Cheapest o W rules n shown c
  over_sheet_cheapest shown n c l = record {
    below = runs_above shown n c l;
    met = elim l.met [
      | inl e ↦ inl e
      | inr t ↦ inr (strokes rules t.0, run_of rules shown n t.0 t.1, least_run_costs shown n t.0 t.1 (λ u d. rw (← t.2) at (l.below u d)) ∙ t.2)
    ];
  }
