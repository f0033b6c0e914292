-- A life goes on: another life from where it stands, and one event more.
use Rattle.std.proofs.Common.{List, [], ◌∷◌, ◌++◌, refl}
use Rattle.std.specs.Prelude.{Result, is_ok}
use Rattle.scale.specs.Ops.{Ops}
use Rattle.refusal.specs.declared.Refusal.{Refusal}
use Rattle.events.specs.declared.Event.{Event}
use Rattle.events.specs.declared.Accepted.{Accepted}
use Rattle.events.specs.States.{State}
use Rattle.events.specs.Steps.{Setting, Lent, Step}
use Rattle.events.specs.Ledgers.{Ledger, enter}
use Rattle.events.specs.Lives.{Lives}

module _ {S : Type 0} (o : Ops S) (w : Setting S) where
  -- then another
  pub lives_then : (s t u : State) (g h k : Ledger S) (events more : List (Event S × Lent)) (answers later : List (Result (Accepted S) Refusal)) → Lives o w s g events answers t h → Lives o w t h more later u k → Lives o w s g (events ++ more) (answers ++ later) u k
  lives_then s t u g h k [] more [] later l m = rw (l.0, l.1) at m
  lives_then s t u g h k [] more (a ∷ rest) later l m = absurd l
  lives_then s t u g h k (e ∷ es) more [] later l m = absurd l
  lives_then s t u g h k (e ∷ es) more (a ∷ rest) later l m = (l.0, l.1, lives_then l.0 t u (enter g e.0 (is_ok a)) h k es more rest later l.2 m)

  -- with one event more at its end
  pub lives_one_more : (s t next : State) (g h : Ledger S) (events : List (Event S × Lent)) (answers : List (Result (Accepted S) Refusal)) (e : Event S) (lent : Lent) (a : Result (Accepted S) Refusal) → Lives o w s g events answers t h → Step o w t e lent a next → Lives o w s g (events ++ ((e, lent) ∷ [])) (answers ++ (a ∷ [])) next (enter h e (is_ok a))
  lives_one_more s t next g h events answers e lent a l step = lives_then s t next g h (enter h e (is_ok a)) events ((e, lent) ∷ []) answers (a ∷ []) l (next, step, (refl, refl))
