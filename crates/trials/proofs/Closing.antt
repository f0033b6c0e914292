-- What a prune within a limit leaves open and closes, by a test of the derivations over the sheet.
use Rattle.std.proofs.Common.{◌≡◌, ℕ, Bool, true, false, not, ◌&&◌, List, refl, inl, inr, arith}
use Rattle.std.proofs.lemmas.Bool.{and_parts, and_from, both_ways, not-true, not-false, false_from_ne_true, not_from_false}
use Rattle.scale.specs.Ops.{Ops, Laws}
use Rattle.book.specs.declared.rules.Rule.{Rule}
use Rattle.sheet.specs.Pairs.{Pairs}
use Rattle.derivations.specs.Trees.{Tree, strokes, Weights, weight}
use Rattle.derivations.specs.Costs.{LeastOver, has, least_cost}
use Rattle.derivations.specs.Runs.{Supported}
use Rattle.derivations.proofs.Costing.{weight_is_least}
use Rattle.derivations.proofs.Running.{run_of, derives_its_run, open_run_derives, cost_least, over_sheet_cheapest}
use Rattle.planner.specs.Counts.{count_pairs}
use Rattle.planner.specs.Outcomes.{PrunedTo}
use Rattle.trials.proofs.Deciding.{each_derivation, each_passes, some_fails}

-- whether the tree is not within the limit or has not the stroke c at the place p
abbrev pub without : {S : Type 0} → Ops S → Weights S → List Rule → S → ℕ → ℕ → Tree → Bool
without o W rules limit p c t = not (o.le (weight o W 0 t) limit && has (strokes rules t) p c)

-- whether some derivation over the sheet is within the limit and has the stroke c at the place p
abbrev pub left_open : {S : Type 0} → Ops S → Weights S → List Rule → ℕ → Pairs → S → Pairs
left_open o W rules n shown limit p c = not (each_derivation n rules shown 0 0 n (without o W rules limit p c))

-- how many pairs are open before and not after
abbrev pub count_closed : ℕ → Pairs → Pairs → ℕ
count_closed n before after = count_pairs n (λ p c. before p c && not (after p c))

module _ {S : Type 0} {o : Ops S} (laws : Laws o) (W : Weights S) (rules : List Rule) (n : ℕ) (shown : Pairs) (limit : S) where
  -- the least weight over the sheet is the one that is computed
  pub least_over : LeastOver o W rules shown 0 0 n (least_cost o W rules n shown)
  least_over = weight_is_least laws W rules shown n 0 0 n (omega arith)

  -- what some run within the limit has, some derivation within the limit has
  kept_from : o.le o.barred limit ≡ false → (p c : ℕ) → Supported o W rules n shown limit p c → left_open o W rules n shown limit p c ≡ true
  kept_from below p c s = elim (cost_least laws W rules s.0).met [
    | inl e ↦ absurd (both_ways _ below (rw e at s.1.within))
    | inr t ↦
        let within : o.le (weight o W 0 t.0) limit ≡ true = rw t.2 s.1.within in
        let stands : has (strokes rules t.0) p c ≡ true = rw t.1.strokes_are s.2 in
        let d = open_run_derives rules shown n s.0 t.0 s.1.is_open t.1 in
        not_from_false _ (false_from_ne_true _ (λ all. both_ways _ (not-true _ (each_passes rules shown n 0 0 n (without o W rules limit p c) (omega arith) all t.0 d)) (and_from _ _ within stands)))
  ]

  -- and what a derivation has, its run has
  kept_to : (p c : ℕ) → left_open o W rules n shown limit p c ≡ true → Supported o W rules n shown limit p c
  kept_to p c h =
      let t = some_fails rules shown n 0 0 n (without o W rules limit p c) (not-true _ h) in
      let both = and_parts (o.le (weight o W 0 t.0) limit) (has (strokes rules t.0) p c) (not-false _ t.2) in
      let least = (cost_least laws W rules (strokes rules t.0)).below t.0 (derives_its_run rules shown n t.0 t.1) in
      (strokes rules t.0, record { is_open = run_of rules shown n t.0 t.1; within = laws.transitive _ (weight o W 0 t.0) limit least both.0 }, both.1)

  -- a prune within a limit that is not barred, and that the least cost is not above
  pub prunes_to : (closed : ℕ) → o.le o.barred limit ≡ false → o.le (least_cost o W rules n shown) limit ≡ true → closed ≡ count_closed n shown (left_open o W rules n shown limit) → PrunedTo o W rules n shown limit (left_open o W rules n shown limit) (least_cost o W rules n shown) closed
  prunes_to closed below within count = record {
    kept = λ p c. (kept_to p c, kept_from below p c);
    cheapest = over_sheet_cheapest laws W rules shown n _ least_over;
    value = refl;
    within = within;
    count = count;
  }
