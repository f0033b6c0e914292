-- The calls on the sheet below a marked sheet, as steps of its state.
use Rattle.std.proofs.Common.{◌≡◌, ℕ, List, Result, Ok, Err, refl, sym, ap, ap₂, ◌∙◌}
use Rattle.std.specs.Prelude.{MatchResult, OnErr, Option, Some, None}
use Rattle.scale.specs.Ops.{Ops}
use Rattle.refusal.specs.declared.Refusal.{Refusal}
use Rattle.sheet.specs.Pairs.{Pairs, closed_at}
use Rattle.sheet.specs.Strikes.{struck}
use Rattle.derivations.specs.Runs.{NoneWithin}
use Rattle.planner.specs.declared.pruning.Pruned.{Pruned}
use Rattle.planner.specs.Outcomes.{Answered, PrunedTo, QuotedAs}
use Rattle.events.specs.States.{State, LeadsTo, left_by, after_strike}
use Rattle.events.specs.Steps.{Setting, Lent, Prunes, Quotes, prune_answer, quote_answer}

pub strike_left : (n : ℕ) (f f' : Pairs) (saved saved' : List Pairs) (p c : ℕ) (Y : Type 0) (r : Result (Unit {0}) Refusal) → r ≡ struck n f p c → MatchResult r (λ _. f' ≡ closed_at f p c) (λ _. Y) → saved' ≡ saved → LeadsTo (λ e. e) (after_strike n (record { shown = f; saved = saved }) p c) r (record { shown = f'; saved = saved' })
strike_left n f f' saved saved' p c Y (Ok x) e h keep =
    ap (λ r. left_by r (record { shown = closed_at f p c; saved = saved })) (sym e) ∙ ap₂ (λ g s. Ok (record { shown = g; saved = s })) (sym h) (sym keep)
strike_left n f f' saved saved' p c Y (Err x) e h keep = ap (λ r. left_by r (record { shown = closed_at f p c; saved = saved })) (sym e)

module _ {S : Type 0} (o : Ops S) (w : Setting S) (s t : State) (limit : S) (keep : t.saved ≡ s.saved) where
  pub prune_left : (refused : Option Refusal) (r : Result (Pruned S) Refusal) → Answered refused (λ p. PrunedTo o w.weights w.rules w.places s.shown limit t.shown p.least p.closed) (NoneWithin o w.weights w.rules w.places s.shown limit) r → Answered refused (Prunes o w s limit t) (NoneWithin o w.weights w.rules w.places s.shown limit) (prune_answer r)
  prune_left (Some e) r is = rw is refl
  prune_left None (Ok p) is = (is, keep)
  prune_left None (Err e) is = is

  pub prune_refused_left : (Y : Type 0) (r : Result (Pruned S) Refusal) → OnErr r Y → (Y → t.shown ≡ s.shown) → OnErr (prune_answer r) (t ≡ s)
  prune_refused_left Y (Ok p) h same = tt
  prune_refused_left Y (Err e) h same = ap₂ (λ (f : Pairs) (fs : List Pairs). record { shown = f; saved = fs }) (same h) keep

module _ {S : Type 0} (o : Ops S) (w : Setting S) (s : State) (limit : S) (lent : Lent) (run : List ℕ) where
  pub quote_left : (refused : Option Refusal) (r : Result S Refusal) → Answered refused (λ c. QuotedAs o w.weights w.rules w.places s.shown limit lent.run run c) (NoneWithin o w.weights w.rules w.places s.shown limit) r → Answered refused (Quotes o w s.shown limit lent) (NoneWithin o w.weights w.rules w.places s.shown limit) (quote_answer run r)
  quote_left (Some e) r is = rw is refl
  quote_left None (Ok c) is = is
  quote_left None (Err e) is = is
