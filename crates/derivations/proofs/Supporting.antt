-- Some run within a limit has a stroke exactly where some cut of it is within the limit.
use Rattle.std.proofs.Common.{◌≡◌, ℕ, ◌+◌, ◌<◌, true, false, List, [], ◌∷◌, sym, refl, ap, ◌∙◌, inl, inr, arith}
use Rattle.std.proofs.lemmas.Bool.{both_ways}
use Rattle.scale.specs.Ops.{Ops, Laws}
use Rattle.book.specs.declared.rules.RightSide.TheVariants.{Cut}
use Rattle.book.specs.declared.rules.Rule.{Rule}
use Rattle.sheet.specs.Pairs.{Pairs}
use Rattle.derivations.specs.Trees.{cut, Makes, strokes, Weights, weight}
use Rattle.derivations.specs.Costs.{has, cost}
use Rattle.derivations.specs.Runs.{Supported}
use Rattle.derivations.specs.Contexts.{Context, plug, Encloses, around, LeastAround}
use Rattle.derivations.specs.Support.{CutWithin, SupportTheorem}
use Rattle.derivations.proofs.Minima.{le_join}
use Rattle.derivations.proofs.Having.{has_next, has_unique}
use Rattle.derivations.proofs.Running.{run_of, derives_its_run, open_run_derives, cost_least}
use Rattle.derivations.proofs.Plugging.{plug_derives, plug_has, leaf_of, plug_weighs}

cut_plugged_has : (rules : List Rule) (shown : Pairs) (n : ℕ) (a : Context) (r part before stroke : ℕ) → Encloses rules shown n part before 1 a → Makes rules r part (Cut stroke) → has (strokes rules (plug a (cut r))) (before + 1) stroke ≡ true
cut_plugged_has rules shown n a r part before stroke e makes = plug_has rules shown n a part before 1 (cut r) e 1 stroke (rw makes.by_side (has_next (stroke ∷ []) 0 (omega arith)))

module _ {S : Type 0} {o : Ops S} (laws : Laws o) (W : Weights S) (rules : List Rule) (shown : Pairs) (n : ℕ) (out : ℕ → S) (before c : ℕ) (limit : S) (is_open : o.le o.barred limit ≡ false) (least : (r part stroke : ℕ) → Makes rules r part (Cut stroke) → LeastAround o W rules shown n part before 1 (out part)) where
  cut_from : before < n → Supported o W rules n shown limit (before + 1) c → CutWithin o W rules shown out before c limit
  cut_from inside s = elim (cost_least laws W rules s.0).met [
    | inl e ↦ absurd (both_ways _ is_open (rw e at s.1.within))
    | inr t ↦
        let d = open_run_derives rules shown n s.0 t.0 s.1.is_open t.1 in
        let f = leaf_of rules shown n t.0 d before inside in
        let made : has (strokes rules t.0) (before + 1) f.stroke ≡ true = rw f.plugged at (cut_plugged_has rules shown n f.context f.rule f.part before f.stroke f.encloses f.cuts) in
        let is_c : f.stroke ≡ c = has_unique s.0 (before + 1) f.stroke c (rw t.1.strokes_are at made) s.2 in
        let weighs : o.join (around o W before 1 f.context) (W f.rule (before + 1) 1) ≡ cost o W rules s.0 = sym (plug_weighs laws W rules shown n f.context f.part before 1 (cut f.rule) f.encloses refl) ∙ ap (weight o W 0) f.plugged ∙ t.2 in
        let lower = le_join laws (out f.part) (around o W before 1 f.context) (W f.rule (before + 1) 1) (W f.rule (before + 1) 1) ((least f.rule f.part f.stroke f.cuts).below f.context f.encloses) (laws.reflexive (W f.rule (before + 1) 1)) in
        record { rule = f.rule; part = f.part; cuts = rw is_c at f.cuts; opened = rw is_c at f.opened; within = laws.transitive _ _ limit (rw weighs at lower) s.1.within }
  ]

  supported_from : CutWithin o W rules shown out before c limit → Supported o W rules n shown limit (before + 1) c
  supported_from k = elim (least k.rule k.part c k.cuts).met [
    | inl e ↦ absurd (both_ways _ is_open (rw (e, laws.absorbing) at k.within))
    | inr a ↦
        let t = plug a.0 (cut k.rule) in
        let d = plug_derives rules shown n a.0 k.part before 1 (cut k.rule) a.1 (refl, c, k.cuts, k.opened) in
        let weighs = plug_weighs laws W rules shown n a.0 k.part before 1 (cut k.rule) a.1 refl ∙ ap (λ x. o.join x (W k.rule (before + 1) 1)) a.2 in
        let below = (cost_least laws W rules (strokes rules t)).below t (derives_its_run rules shown n t d) in
        (strokes rules t, record { is_open = run_of rules shown n t d; within = laws.transitive _ (weight o W 0 t) limit below (rw weighs k.within) }, cut_plugged_has rules shown n a.0 k.rule k.part before c a.1 k.cuts)
  ]

pub support : {S : Type 0} {o : Ops S} → Laws o → SupportTheorem o
support laws W rules n shown out before c limit inside is_open least = (cut_from laws W rules shown n out before c limit is_open least inside, supported_from laws W rules shown n out before c limit is_open least)
