-- The derivation that the tie rule takes, by a test of those over the same places; and the quote that writes its run.
use Rattle.std.proofs.Common.{◌≡◌, ℕ, ◌+◌, Bool, true, false, not, ◌&&◌, ◌||◌, ◌==◌, ◌⊎◌, List, length, sym, ap, inl, inr, nat_lt, nat_le, arith, append-nil}
use Rattle.std.proofs.lemmas.Bool.{eqb-true, and_parts, or_cases, both_ways, not-true, ltb-true, leb-true}
use Rattle.std.proofs.lemmas.List.{drop_all}
use Rattle.scale.specs.Ops.{Ops, Laws}
use Rattle.book.specs.declared.rules.Rule.{Rule}
use Rattle.sheet.specs.Pairs.{Pairs}
use Rattle.derivations.specs.Trees.{Tree, cut, pair, width, rule_at, strokes, Weights, weight}
use Rattle.derivations.specs.Costs.{DerivesOver}
use Rattle.derivations.specs.Ties.{first_rule, split, NotAfter, Best, Chosen}
use Rattle.derivations.proofs.Deriving.{left_of, right_of}
use Rattle.derivations.proofs.Choosing.{chosen_best, best_least, best_run_costs}
use Rattle.derivations.proofs.Running.{run_of, runs_above}
use Rattle.planner.specs.Outcomes.{QuotedAs}
use Rattle.trials.proofs.Deciding.{each_derivation, each_passes}

-- whether t is split lower than u, or as low and by no higher rule
abbrev pub not_after : Tree → Tree → Bool
not_after t u = nat_lt (split t) (split u) || (split t == split u && nat_le (first_rule t) (first_rule u))

-- whether u is not cheaper than t, and where it is as cheap t is not after it
abbrev pub no_better : {S : Type 0} → Ops S → Weights S → ℕ → Tree → Tree → Bool
no_better o W before t u = o.le (weight o W before t) (weight o W before u) && (not (o.le (weight o W before u) (weight o W before t)) || not_after t u)

-- whether no derivation of the part over the places is better than t
abbrev pub is_best : {S : Type 0} → Ops S → Weights S → List Rule → Pairs → ℕ → ℕ → ℕ → Tree → Bool
is_best o W rules shown part before len t = each_derivation len rules shown part before len (no_better o W before t)

-- whether the tie rule takes the derivation t
abbrev pub is_chosen : {S : Type 0} → Ops S → Weights S → List Rule → Pairs → ℕ → ℕ → ℕ → Tree → Bool
is_chosen o W rules shown part before len (cut r) = is_best o W rules shown part before len (cut r)
is_chosen o W rules shown part before len (pair r a b) =
    is_best o W rules shown part before len (pair r a b) && (is_chosen o W rules shown (left_of (rule_at rules r).side) before (width a) a && is_chosen o W rules shown (right_of (rule_at rules r).side) (before + width a) (width b) b)

not_after_from : (t u : Tree) → not_after t u ≡ true → NotAfter t u
not_after_from t u h = elim (or_cases (nat_lt (split t) (split u)) (split t == split u && nat_le (first_rule t) (first_rule u)) h) [
  | inl less ↦ inl (ltb-true _ _ less)
  | inr same ↦
      let both = and_parts (split t == split u) (nat_le (first_rule t) (first_rule u)) same in
      inr (eqb-true _ _ both.0, leb-true _ _ both.1)
]

module _ {S : Type 0} {o : Ops S} (laws : Laws o) (W : Weights S) (rules : List Rule) (shown : Pairs) where
  best_from : (part before len : ℕ) (t : Tree) → DerivesOver rules shown part before len t → is_best o W rules shown part before len t ≡ true → Best o W rules shown part before len t
  best_from part before len t d h = record { derives = d; least = λ u k. (tested u k).0; first = λ u k e. as_cheap u (or_cases _ (not_after t u) (tested u k).1) e }
    where
      tested : (u : Tree) → DerivesOver rules shown part before len u → (o.le (weight o W before t) (weight o W before u) ≡ true) × ((not (o.le (weight o W before u) (weight o W before t)) || not_after t u) ≡ true)
      tested u k = and_parts _ _ (each_passes rules shown len part before len (no_better o W before t) (omega arith) h u k)

      as_cheap : (u : Tree) → (not (o.le (weight o W before u) (weight o W before t)) ≡ true) ⊎ (not_after t u ≡ true) → weight o W before u ≡ weight o W before t → NotAfter t u
      as_cheap u (inl above) e = absurd (both_ways _ (not-true _ above) (rw e (laws.reflexive _)))
      as_cheap u (inr after) e = not_after_from t u after

  chosen_from : (part before len : ℕ) (t : Tree) → DerivesOver rules shown part before len t → is_chosen o W rules shown part before len t ≡ true → Chosen o W rules shown part before len t
  chosen_from part before len (cut r) d h = best_from part before len (cut r) d h
  chosen_from part before len (pair r a b) d h =
      let left : left_of (rule_at rules r).side ≡ d.1 = ap left_of d.3.by_side in
      let right : right_of (rule_at rules r).side ≡ d.2 = ap right_of d.3.by_side in
      let best = and_parts (is_best o W rules shown part before len (pair r a b)) _ h in
      let halves = and_parts (is_chosen o W rules shown (left_of (rule_at rules r).side) before (width a) a) (is_chosen o W rules shown (right_of (rule_at rules r).side) (before + width a) (width b) b) best.1 in
      (best_from part before len (pair r a b) d best.0, d.1, d.2, d.3, chosen_from d.1 before (width a) a d.4 (rw left at halves.0), chosen_from d.2 (before + width a) (width b) b d.5 (rw right at halves.1))

  -- a quote of the run of the derivation that the tie rule takes, which weighs no more than the limit
  pub quotes_as : (n : ℕ) (limit : S) (t : Tree) → DerivesOver rules shown 0 0 n t → is_chosen o W rules shown 0 0 n t ≡ true → o.le (weight o W 0 t) limit ≡ true → o.le o.barred (weight o W 0 t) ≡ false → (lent : List ℕ) → length lent ≡ n → QuotedAs o W rules n shown limit lent (strokes rules t) (weight o W 0 t)
  quotes_as n limit t d h within lawful lent long =
      let chosen = chosen_from 0 0 n t d h in
      let best = chosen_best laws W rules shown 0 0 n t chosen in
      record {
        tree = t;
        chosen = chosen;
        run = rw (drop_all n lent (omega arith)) (sym (append-nil (strokes rules t)));
        is_open = run_of rules shown n t d;
        costs = sym (best_run_costs laws W rules shown n t best);
        within = within;
        lawful = lawful;
        cheapest = λ other opened. runs_above laws W rules shown n _ (best_least laws W rules shown 0 0 n t best) other opened;
      }
