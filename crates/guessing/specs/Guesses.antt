-- What guesses answer. Assumes nothing.
use Rattle.std.specs.Prelude.{◌≡◌, ℕ, Option, Some, Result, Ok, Err, MatchResult, if◌then◌else◌, is_ok}
use Rattle.std.specs.Result.{result_and}
use Rattle.scale.specs.Ops.{Ops}
use Rattle.refusal.specs.declared.Refusal.{Refusal}
use Rattle.sheet.specs.Pairs.{Pairs, closed_at}
use Rattle.sheet.specs.Strikes.{struck}
use Rattle.events.specs.declared.Accepted.{Accepted}
use Rattle.events.specs.States.{State, earlier, latest}
use Rattle.events.specs.Steps.{Setting, Lent, QuoteEnds}

-- how a quote for a sheet without the stroke c at the place p ends: it is refused as the strike of that pair is, and else ends as
-- on the open pairs less that one
abbrev pub QuoteEndsWithout : {S : Type 0} → Ops S → Setting S → Pairs → ℕ → ℕ → S → Lent → Result (Accepted S) Refusal → Type 0
QuoteEndsWithout o w shown p c limit lent answer =
    MatchResult (struck w.places shown p c) (λ _. QuoteEnds o w (closed_at shown p c) limit lent answer) (λ e. answer ≡ Err e)

-- the first test that such a quote fails before its search: one of the strike, or then one of the quote
abbrev pub refused_before : Result (Unit {0}) Refusal → Option Refusal → Option Refusal
refused_before (Ok _) later = later
refused_before (Err e) later = Some e

-- the state after a strike that is accepted or refused
abbrev pub state_struck : ℕ → State → ℕ → ℕ → State
state_struck n s p c =
    if is_ok (struck n s.shown p c) then record { shown = closed_at s.shown p c; saved = s.saved } else s

-- the state after the latest mark is kept and the one before it is gone back to
abbrev pub state_ended : State → State
state_ended s = record { shown = latest s.shown (earlier s.saved); saved = earlier (earlier s.saved) }

-- how two strikes end, the one after the other: the first of them that is refused decides
abbrev pub struck_both : ℕ → Pairs → ℕ → ℕ → ℕ → ℕ → Result (Unit {0}) Refusal
struck_both n shown p c q d = result_and (struck n shown p c) (struck n (closed_at shown p c) q d)
