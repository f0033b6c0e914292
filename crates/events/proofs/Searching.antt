-- What searched, read from answers: a call whose answer shows no search was refused by a test before it; and some event of a list
-- that grows by one searched exactly where one searched before, or this one did.
use Rattle.std.proofs.Common.{◌≡◌, Bool, false, ◌||◌, List, [], ◌∷◌, ◌++◌, length, refl, ap, arith}
use Rattle.std.specs.Prelude.{Option, Some, None, IsSome, Result, Ok, Err, take}
use Rattle.refusal.specs.declared.Refusal.{Refusal}
use Rattle.planner.specs.Outcomes.{Answered}
use Rattle.events.specs.declared.Event.{Event}
use Rattle.events.specs.declared.Accepted.{Accepted}
use Rattle.events.specs.Searches.{searched, any_event}

pub tested : {A : Type 0} (refused : Option Refusal) (Wanted : A → Type 0) (NoneIs : Type 0) (answer : Result A Refusal) → Answered refused Wanted NoneIs answer → searched answer ≡ false → IsSome refused
tested (Some e) Wanted NoneIs answer h idle = refl
tested None Wanted NoneIs (Ok a) h idle = grind arith
tested None Wanted NoneIs (Err e) h idle = let idle' = rw h.0 at idle in grind arith

module _ {S : Type 0} (such : Event S → Result (Accepted S) Refusal → Bool) where
  pub any_more : (events : List (Event S)) (answers : List (Result (Accepted S) Refusal)) (e : Event S) (a : Result (Accepted S) Refusal) → length events ≡ length answers → any_event such (events ++ e ∷ []) (answers ++ a ∷ []) ≡ (any_event such events answers || such e a)
  any_more [] [] e a same = grind arith
  any_more [] (b ∷ answers) e a same = absurd (omega arith)
  any_more (d ∷ events) [] e a same = absurd (omega arith)
  any_more (d ∷ events) (b ∷ answers) e a same = grind (arith, any_more events answers e a (omega arith))

  -- the answers past the last event do not count
  pub any_within : (events : List (Event S)) (answers : List (Result (Accepted S) Refusal)) → any_event such events (take (length events) answers) ≡ any_event such events answers
  any_within [] answers = refl
  any_within (e ∷ events) [] = refl
  any_within (e ∷ events) (a ∷ rest) = ap (λ b. such e a || b) (any_within events rest)
