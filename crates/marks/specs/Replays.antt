-- A list of events replayed. Assumes nothing.
use Rattle.std.specs.Prelude.{◌≡◌, ℕ, List, map, if◌then◌else◌, nat_lt, Result, Ok, Err}
use Rattle.scale.specs.Ops.{Ops}
use Rattle.refusal.specs.declared.Refusal.{Refusal}
use Rattle.refusal.specs.declared.Refusal.TheVariants.{LentTooShort}
use Rattle.sheet.specs.Pairs.{Pairs}
use Rattle.events.specs.declared.Event.{Event}
use Rattle.events.specs.declared.Accepted.{Accepted}
use Rattle.events.specs.States.{State}
use Rattle.events.specs.Steps.{Setting, Lent}
use Rattle.events.specs.Ledgers.{Ledger}
use Rattle.events.specs.Lives.{HasLived}

-- so many events are not replayed where there is no room for their answers
abbrev pub replay_refused : ℕ → ℕ → Result (Unit {0}) Refusal
replay_refused events room = if nat_lt room events then Err LentTooShort else Ok tt

-- the same is lent to each event
abbrev pub each_lent : {S : Type 0} → Lent → List (Event S) → List (Event S × Lent)
each_lent lent events = map (λ e. (e, lent)) events

-- a marked sheet with the open pairs `birth` lives through the events with these answers, and is left with the open pairs `after`
pub record Replayed {S : Type 0} (o : Ops S) (w : Setting S) (birth : Pairs) (events : List (Event S × Lent)) (answers : List (Result (Accepted S) Refusal)) (after : Pairs) : Type 0 where
  pub state : State
  pub ledger : Ledger S
  pub lived : HasLived o w birth events answers state ledger
  pub left : after ≡ state.shown
