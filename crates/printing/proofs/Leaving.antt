-- A prune that is accepted leaves a run within the limit open, so the quote after it is accepted too. Assumes nothing.
use Rattle.std.proofs.Common.{◌≡◌, ℕ, true, false, List, length, ◌++◌, [], ⊎_elim, sym, ap, ◌∙◌, arith}
use Rattle.std.proofs.lemmas.Bool.{false≢true}
use Rattle.std.proofs.Math.Seq.{drop-nil}
use Rattle.std.proofs.lemmas.List.{drop_all}
use Rattle.scale.specs.Ops.{Ops}
use Rattle.book.specs.declared.rules.Rule.{Rule}
use Rattle.sheet.specs.Pairs.{Pairs}
use Rattle.derivations.specs.Trees.{Weights, strokes}
use Rattle.derivations.specs.Costs.{cost}
use Rattle.derivations.specs.Runs.{IsOpen, NoneWithin}
use Rattle.planner.specs.Outcomes.{PrunedTo, QuotedAs}

module _ {S : Type 0} (o : Ops S) (W : Weights S) (rules : List Rule) (n : ℕ) (limit : S) where
  -- the cheapest run before the prune is open after it
  pub run_left : (before after : Pairs) (least : S) (closed : ℕ) → o.le o.barred limit ≡ false → PrunedTo o W rules n before limit after least closed → NoneWithin o W rules n after limit → ⊥
  run_left before after least closed open_limit p none =
      ⊎_elim
      (λ (e : least ≡ o.barred). false≢true (sym open_limit ∙ ap (λ x. o.le x limit) (sym e) ∙ p.within))
      (λ (m : (run : List ℕ) × IsOpen n before run × (cost o W rules run ≡ least)).
      let fits : o.le (cost o W rules m.0) limit ≡ true = ap (λ x. o.le x limit) m.2 ∙ p.within in
      none m.0 (record {
        is_open = record {
          long = m.1.long;
          along = λ q c h. (p.kept q c).1 (m.0, record { is_open = m.1; within = fits }, h);
        };
        within = fits;
      }))
      p.cheapest.met

  -- where the run fills what was lent, it alone is written
  pub run_alone : (shown : Pairs) (lent written : List ℕ) (price : S) → length lent ≡ n → QuotedAs o W rules n shown limit lent written price → QuotedAs o W rules n shown limit [] written price
  run_alone shown lent written price long q = record {
    tree = q.tree;
    chosen = q.chosen;
    run = q.run ∙ ap (λ rest. strokes rules q.tree ++ rest) (drop_all n lent (omega arith) ∙ sym (drop-nil n));
    is_open = q.is_open;
    costs = q.costs;
    within = q.within;
    lawful = q.lawful;
    cheapest = q.cheapest;
  }
