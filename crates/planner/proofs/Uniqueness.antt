-- A prune and a quote end in one way.
use Rattle.std.proofs.Common.{◌≡◌, Bool, true, false, not, ◌&&◌, ◌++◌, ◌↔◌, drop, refl, sym, ap, ◌∙◌}
use mathlib.Core.Path.{fun_ext}
use Rattle.sheet.specs.Pairs.{Pairs}
use Rattle.scale.specs.Ops.{Ops, Laws}
use Rattle.derivations.specs.Trees.{strokes}
use Rattle.derivations.specs.Costs.{cost}
use Rattle.derivations.specs.Runs.{IsOpen}
use Rattle.derivations.proofs.Choosing.{chosen_same}
use Rattle.derivations.proofs.Minima.{least_unique}
use Rattle.planner.specs.Counts.{count_pairs}
use Rattle.planner.specs.Outcomes.{OnePruned, OneQuoted}

-- tests that hold in the same case are the same
both_same : {P : Type 0} (a b : Bool) → (a ≡ true ↔ P) → (b ≡ true ↔ P) → a ≡ b
both_same true true f g = refl
both_same true false f g = let e : false ≡ true = g.1 (f.0 refl) in cc
both_same false true f g = let e : false ≡ true = f.1 (g.0 refl) in cc
both_same false false f g = refl

module _ {S : Type 0} {o : Ops S} (laws : Laws o) where
  pub one_pruned : OnePruned o
  one_pruned W rules n before limit after after' least least' closed closed' a b =
      let same : after ≡ after' = fun_ext (λ p. fun_ext (λ c. both_same (after p c) (after' p c) (a.kept p c) (b.kept p c))) in (
        same,
        least_unique laws (IsOpen n before) (cost o W rules) least least' a.cheapest b.cheapest,
        a.count ∙ ap (λ (f : Pairs). count_pairs n (λ p c. before p c && not (f p c))) same ∙ sym b.count,
      )

  pub one_quoted : OneQuoted o
  one_quoted W rules n shown limit lent written written' price price' a b =
      let same = chosen_same laws W rules shown 0 0 n a.tree b.tree a.chosen b.chosen in (
        a.run ∙ ap (λ t. strokes rules t ++ drop n lent) same ∙ sym b.run,
        a.costs ∙ ap (λ t. cost o W rules (strokes rules t)) same ∙ sym b.costs,
      )
