-- From the least weight over a sheet to the runs within a limit.
use Rattle.std.proofs.Common.{◌≡◌, ℕ, true, false, sym, ◌∙◌, subst, refl, Bool, List, ◌++◌, drop}
use Rattle.std.proofs.lemmas.Bool.{both_ways}
use Rattle.scale.specs.Ops.{Ops, Laws}
use Rattle.book.specs.declared.rules.Rule.{Rule}
use Rattle.sheet.specs.Pairs.{Pairs}
use Rattle.derivations.specs.Trees.{Tree, Weights, strokes}
use Rattle.derivations.specs.Costs.{Costs, LeastOver, cost}
use Rattle.derivations.specs.Runs.{NoneWithin}
use Rattle.derivations.specs.Ties.{Chosen}
use Rattle.derivations.proofs.Choosing.{chosen_best, best_run_costs, best_weighs}
use Rattle.derivations.proofs.Running.{cost_is, cost_least, run_of, runs_above}
use Rattle.planner.specs.Outcomes.{QuotedAs}

module _ {S : Type 0} {o : Ops S} (laws : Laws o) where
  -- what is within a limit that is not barred is not barred
  pub lawful_within : (c limit : S) → o.le o.barred limit ≡ false → o.le c limit ≡ true → o.le o.barred c ≡ false
  lawful_within c limit above within = go (o.le o.barred c) refl
    where
      go : (b : Bool) → o.le o.barred c ≡ b → b ≡ false
      go true e = absurd (both_ways _ above (laws.transitive o.barred c limit e within))
      go false e = refl

module _ {S : Type 0} {o : Ops S} (laws : Laws o) (W : Weights S) (rules : List Rule) (run : List ℕ) (c : S) where
  -- what is the run's cost as computed is the least weight of its derivations
  pub costs_so : c ≡ cost o W rules run → Costs o W rules run c
  costs_so e = subst (Costs o W rules run) (sym e) (cost_least laws W rules run)

  -- and barred where that is barred
  pub barred_so : c ≡ cost o W rules run → Costs o W rules run o.barred → c ≡ o.barred
  barred_so e costs = e ∙ sym (cost_is laws W rules run o.barred costs)

module _ {S : Type 0} {o : Ops S} (laws : Laws o) (W : Weights S) (rules : List Rule) (n : ℕ) (shown : Pairs) (limit : S) where
  -- where the least is above the limit, no open run is within it
  pub none_within : (c : S) → LeastOver o W rules shown 0 0 n c → o.le c limit ≡ false → NoneWithin o W rules n shown limit
  none_within c least above run r = both_ways _ above (laws.transitive c (cost o W rules run) limit (runs_above laws W rules shown n c least run r.is_open) r.within)

  -- the derivation that the tie rule takes is a quote, where its strokes are written
  pub quoted : (lent written : List ℕ) (c : S) (t : Tree) → Chosen o W rules shown 0 0 n t → written ≡ strokes rules t ++ drop n lent → LeastOver o W rules shown 0 0 n c → o.le c limit ≡ true → o.le o.barred c ≡ false → QuotedAs o W rules n shown limit lent written c
  quoted lent written c t chosen' run' least within' lawful' =
      let leads = chosen_best laws W rules shown 0 0 n t chosen' in
      let weighs = best_weighs laws W rules shown 0 0 n t c leads least in
      record {
        tree = t;
        chosen = chosen';
        run = run';
        is_open = run_of rules shown n t leads.derives;
        costs = sym weighs ∙ sym (best_run_costs laws W rules shown n t leads);
        within = within';
        lawful = lawful';
        cheapest = runs_above laws W rules shown n c least;
      }
