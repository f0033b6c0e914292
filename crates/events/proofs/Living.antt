-- Through any life what stands in the ledger holds of the open pairs, and each copy of those saved with it; so quotes end as at
-- birth, less the strikes that stand.
use Rattle.std.proofs.Common.{length, ◌+◌, ◌≡◌, ℕ, Bool, true, false, cond, List, [], ◌∷◌, refl, arith}
use Rattle.std.specs.Prelude.{Result, Ok, Err, is_ok}
use Rattle.scale.specs.Ops.{Ops, Laws}
use Rattle.refusal.specs.declared.Refusal.{Refusal}
use Rattle.sheet.specs.Pairs.{Pairs, closed_at}
use Rattle.planner.specs.Outcomes.{prune_refused}
use Rattle.events.specs.declared.Event.{Event}
use Rattle.events.specs.declared.Event.TheVariants.{Strike, Mark, Keep, Back, Prune, Quote}
use Rattle.events.specs.declared.Accepted.{Accepted}
use Rattle.events.specs.declared.Accepted.TheVariants.{Done, Marked, Pruned, Quoted}
use Rattle.events.specs.States.{State, born, earlier, latest, after_strike, after_mark, after_keep, after_back}
use Rattle.events.specs.Steps.{Setting, Lent, Leaves, Prunes, Step}
use Rattle.events.specs.Ledgers.{less, Standing, Ledger, ledger_at_birth, ledger_after, enter}
use Rattle.events.proofs.Uniqueness.{one_end}
use Rattle.events.specs.Lives.{SameEndTheorem, Lives, HasLived, AsAtBirth, QuotesAsAtBirth, LifeTheorem}
use Rattle.events.proofs.Answering.{answered_ok}
use Rattle.events.proofs.Holding.{Holds, holds_at_birth, holds_struck, holds_pruned, ends_alike}

-- what is accepted under a test, and after a strike
ok_is : {A E : Type 0} (t : Bool) (x y : A) (e : E) → cond t (Ok x) (Err e) ≡ Ok y → y ≡ x
ok_is true x y e h = cc
ok_is false x y e h = cc

struck_is : (n : ℕ) (s : State) (place stroke : ℕ) (after : State) → after_strike n s place stroke ≡ Ok after → after ≡ record { shown = closed_at s.shown place stroke; saved = s.saved }
struck_is n s place stroke after h = grind arith

module _ {S : Type 0} (o : Ops S) (w : Setting S) (birth : Pairs) where
  -- each copy holds of the pairs saved with it
  abbrev pub AllHold : List Pairs → List (Standing S) → Type 0
  AllHold [] [] = Unit {0}
  AllHold [] (copy ∷ copies) = ⊥
  AllHold (shown ∷ saved) [] = ⊥
  AllHold (shown ∷ saved) (copy ∷ copies) = Holds o w birth shown copy × AllHold saved copies

  -- and what stands of the open pairs
  abbrev pub Good : State → Ledger S → Type 0
  Good s g = Holds o w birth s.shown g.standing × AllHold s.saved g.copies

  pub good_at_birth : Good (born birth) ledger_at_birth
  good_at_birth = (holds_at_birth w birth, tt)

  earlier_hold : (saved : List Pairs) (copies : List (Standing S)) → AllHold saved copies → AllHold (earlier saved) (earlier copies)
  earlier_hold [] [] h = tt
  earlier_hold [] (copy ∷ copies) h = absurd h
  earlier_hold (shown ∷ saved) [] h = absurd h
  earlier_hold (shown ∷ saved) (copy ∷ copies) h = h.1

  latest_holds : (shown : Pairs) (st : Standing S) (saved : List Pairs) (copies : List (Standing S)) → Holds o w birth shown st → AllHold saved copies → Holds o w birth (latest shown saved) (latest st copies)
  latest_holds shown st [] [] now h = now
  latest_holds shown st [] (copy ∷ copies) now h = absurd h
  latest_holds shown st (s ∷ saved) [] now h = absurd h
  latest_holds shown st (s ∷ saved) (copy ∷ copies) now h = h.0

  -- a strike, a mark, a keep or a back
  leaves_good : (x : Accepted S) (r : Result State Refusal) (s next : State) (g : Ledger S) (e : Event S) (answer : Result (Accepted S) Refusal) → Leaves x r s answer next → Good s g → ((after : State) → r ≡ Ok after → Good after (ledger_after g e)) → Good next (enter g e (is_ok answer))
  leaves_good x (Ok after) s next g e answer h good then = rw (h.0, h.1) (then after refl)
  leaves_good x (Err f) s next g e answer h good then = rw (h.0, h.1) good

  -- an accepted prune
  prunes_good : (s next : State) (g : Ledger S) (limit : S) (x : Accepted S) → Prunes o w s limit next x → Good s g → Good next (ledger_after g (Prune limit))
  prunes_good s next g limit (Pruned p) h good = (holds_pruned w birth s.shown next.shown g.standing limit p.least p.closed h.0 good.0, rw h.1 good.1)
  prunes_good s next g limit Done h good = absurd h
  prunes_good s next g limit (Marked level) h good = absurd h
  prunes_good s next g limit (Quoted cost run) h good = absurd h

  -- each event
  pub step_good : (s next : State) (g : Ledger S) (e : Event S) (lent : Lent) (answer : Result (Accepted S) Refusal) → Step o w s e lent answer next → Good s g → Good next (enter g e (is_ok answer))
  step_good s next g (Strike place stroke) lent answer h good =
      leaves_good Done (after_strike w.places s place stroke) s next g (Strike place stroke) answer h good
      (λ after e. rw (struck_is w.places s place stroke after e) (holds_struck w birth s.shown g.standing place stroke good.0, good.1))
  step_good s next g Mark lent answer h good =
      leaves_good (Marked (length s.saved + 1)) (after_mark s) s next g Mark answer h good
      (λ after e. rw (ok_is _ _ after _ e) (good.0, (good.0, good.1)))
  step_good s next g (Keep number level) lent answer h good =
      leaves_good Done (after_keep w.number s number level) s next g (Keep number level) answer h good
      (λ after e. rw (ok_is _ _ after _ e) (good.0, earlier_hold s.saved g.copies good.1))
  step_good s next g (Back number level) lent answer h good =
      leaves_good Done (after_back w.number s number level) s next g (Back number level) answer h good
      (λ after e. rw (ok_is _ _ after _ e) (latest_holds s.shown g.standing s.saved g.copies good.0 good.1, earlier_hold s.saved g.copies good.1))
  step_good s next g (Prune limit) lent (Ok x) h good = prunes_good s next g limit x (answered_ok (prune_refused o w.places w.parts limit lent.inside lent.outside) _ _ x h.0) good
  step_good s next g (Prune limit) lent (Err e) h good = rw h.1 good
  step_good s next g (Quote limit) lent (Ok x) h good = rw h.1 good
  step_good s next g (Quote limit) lent (Err e) h good = rw h.1 good

  pub life_good : (s t : State) (g h : Ledger S) (events : List (Event S × Lent)) (answers : List (Result (Accepted S) Refusal)) → Lives o w s g events answers t h → Good s g → Good t h
  life_good s t g h [] [] l good = rw (l.0, l.1) good
  life_good s t g h [] (a ∷ rest) l good = absurd l
  life_good s t g h (e ∷ es) [] l good = absurd l
  life_good s t g h (e ∷ es) (a ∷ rest) l good = life_good l.0 t (enter g e.0 (is_ok a)) h es rest l.2 (step_good s l.0 g e.0 e.1 a l.1 good)

module _ {S : Type 0} {o : Ops S} (laws : Laws o) (w : Setting S) (birth : Pairs) where
  step_as_at_birth : (s next : State) (g : Ledger S) (e : Event S) (lent : Lent) (answer : Result (Accepted S) Refusal) → Step o w s e lent answer next → Good o w birth s g → AsAtBirth o w birth g e lent answer
  step_as_at_birth s next g (Quote limit) lent answer h good = λ under.
      let ends = (ends_alike laws w birth s.shown g.standing good.0 limit under lent answer).0 h.0 in
      (ends, λ other k. one_end laws w (less birth g.standing.strikes) limit lent other answer k ends)
  step_as_at_birth s next g (Strike place stroke) lent answer h good = tt
  step_as_at_birth s next g Mark lent answer h good = tt
  step_as_at_birth s next g (Keep number level) lent answer h good = tt
  step_as_at_birth s next g (Back number level) lent answer h good = tt
  step_as_at_birth s next g (Prune limit) lent answer h good = tt

  quotes_in_life : (s t : State) (g h : Ledger S) (events : List (Event S × Lent)) (answers : List (Result (Accepted S) Refusal)) → Lives o w s g events answers t h → Good o w birth s g → QuotesAsAtBirth o w birth g events answers
  quotes_in_life s t g h [] [] l good = tt
  quotes_in_life s t g h [] (a ∷ rest) l good = absurd l
  quotes_in_life s t g h (e ∷ es) [] l good = absurd l
  quotes_in_life s t g h (e ∷ es) (a ∷ rest) l good = (
    step_as_at_birth s l.0 g e.0 e.1 a l.1 good,
    quotes_in_life l.0 t (enter g e.0 (is_ok a)) h es rest l.2 (step_good o w birth s l.0 g e.0 e.1 a l.1 good),
  )

-- each quote in a life
pub quotes_as_at_birth : {S : Type 0} {o : Ops S} (laws : Laws o) (w : Setting S) (birth : Pairs) (events : List (Event S × Lent)) (answers : List (Result (Accepted S) Refusal)) (s : State) (g : Ledger S) → HasLived o w birth events answers s g → QuotesAsAtBirth o w birth ledger_at_birth events answers
quotes_as_at_birth {S} {o} laws w birth events answers s g l = quotes_in_life laws w birth (born birth) s ledger_at_birth g events answers l (good_at_birth o w birth)

-- and a quote after it
pub life_theorem : {S : Type 0} {o : Ops S} → Laws o → LifeTheorem o
life_theorem {S} {o} laws w birth events answers s g l limit under lent answer =
    let good = life_good o w birth (born birth) s ledger_at_birth g events answers l (good_at_birth o w birth) in
    ends_alike laws w birth s.shown g.standing good.0 limit under lent answer

-- the event that comes next, if it is a quote
pub as_at_birth : {S : Type 0} {o : Ops S} (laws : Laws o) (w : Setting S) (birth : Pairs) (events : List (Event S × Lent)) (answers : List (Result (Accepted S) Refusal)) (s next : State) (g : Ledger S) → HasLived o w birth events answers s g → (e : Event S) (lent : Lent) (answer : Result (Accepted S) Refusal) → Step o w s e lent answer next → AsAtBirth o w birth g e lent answer
as_at_birth {S} {o} laws w birth events answers s next g l e lent answer step =
    step_as_at_birth laws w birth s next g e lent answer step (life_good o w birth (born birth) s ledger_at_birth g events answers l (good_at_birth o w birth))

-- two quotes, after the life and on the birth sheet less the strikes that stand
pub same_end : {S : Type 0} {o : Ops S} → Laws o → SameEndTheorem o
same_end laws w birth events answers s g lived limit under lent a b h k =
    one_end laws w (less birth g.standing.strikes) limit lent a b ((life_theorem laws w birth events answers s g lived limit under lent a).0 h) k
