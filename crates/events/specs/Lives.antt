-- The life of a marked sheet, event after event, and what a quote in it ends as. Assumes nothing.
use Rattle.std.specs.Prelude.{◌≡◌, ◌↔◌, List, [], ◌∷◌, Result, is_ok}
use Rattle.scale.specs.Ops.{Ops}
use Rattle.refusal.specs.declared.Refusal.{Refusal}
use Rattle.sheet.specs.Pairs.{Pairs}
use Rattle.events.specs.declared.Event.{Event}
use Rattle.events.specs.declared.Event.TheVariants.{Strike, Mark, Keep, Back, Prune, Quote}
use Rattle.events.specs.declared.Accepted.{Accepted}
use Rattle.events.specs.States.{State, born}
use Rattle.events.specs.Steps.{Setting, Lent, QuoteEnds, Step}
use Rattle.events.specs.Ledgers.{Ledger, ledger_at_birth, enter, less, NotAbove}

-- the events, each with what is lent to it, lead with the answers from one state and ledger to another
abbrev pub Lives : {S : Type 0} → Ops S → Setting S → State → Ledger S → List (Event S × Lent) → List (Result (Accepted S) Refusal) → State → Ledger S → Type 0
Lives o w s g [] [] t h = (t ≡ s) × (h ≡ g)
Lives o w s g (e ∷ es) (a ∷ rest) t h =
    (next : State) × Step o w s e.0 e.1 a next × Lives o w next (enter g e.0 (is_ok a)) es rest t h
Lives o w s g [] (a ∷ rest) t h = ⊥
Lives o w s g (e ∷ es) [] t h = ⊥

-- a marked sheet of these open pairs at its birth has lived through the events
abbrev pub HasLived : {S : Type 0} → Ops S → Setting S → Pairs → List (Event S × Lent) → List (Result (Accepted S) Refusal) → State → Ledger S → Type 0
HasLived o w birth events answers s g = Lives o w (born birth) ledger_at_birth events answers s g

-- a quote on these open pairs ends with this answer, and with no other
abbrev pub EndsOnlySo : {S : Type 0} → Ops S → Setting S → Pairs → S → Lent → Result (Accepted S) Refusal → Type 0
EndsOnlySo {S} o w shown limit lent answer =
    QuoteEnds o w shown limit lent answer × ((other : Result (Accepted S) Refusal) → QuoteEnds o w shown limit lent other → other ≡ answer)

-- a quote, if it is one, ends as on the birth sheet less the strikes that stand, where its limit is not above any that stands
abbrev pub AsAtBirth : {S : Type 0} → Ops S → Setting S → Pairs → Ledger S → Event S → Lent → Result (Accepted S) Refusal → Type 0
AsAtBirth o w birth g (Quote limit) lent answer =
    NotAbove o limit g.standing.limits → EndsOnlySo o w (less birth g.standing.strikes) limit lent answer
AsAtBirth o w birth g (Strike place stroke) lent answer = Unit {0}
AsAtBirth o w birth g Mark lent answer = Unit {0}
AsAtBirth o w birth g (Keep number level) lent answer = Unit {0}
AsAtBirth o w birth g (Back number level) lent answer = Unit {0}
AsAtBirth o w birth g (Prune limit) lent answer = Unit {0}

-- each quote of a list of events does, with the ledger as it stands when it is asked
abbrev pub QuotesAsAtBirth : {S : Type 0} → Ops S → Setting S → Pairs → Ledger S → List (Event S × Lent) → List (Result (Accepted S) Refusal) → Type 0
QuotesAsAtBirth o w birth g [] [] = Unit {0}
QuotesAsAtBirth o w birth g (e ∷ es) (a ∷ rest) =
    AsAtBirth o w birth g e.0 e.1 a × QuotesAsAtBirth o w birth (enter g e.0 (is_ok a)) es rest
QuotesAsAtBirth o w birth g [] (a ∷ rest) = ⊥
QuotesAsAtBirth o w birth g (e ∷ es) [] = ⊥

-- after any life a quote ends just as on the birth sheet less the strikes that stand
abbrev pub LifeTheorem : {S : Type 0} → Ops S → Type 0
LifeTheorem {S} o =
    (w : Setting S) (birth : Pairs) (events : List (Event S × Lent)) (answers : List (Result (Accepted S) Refusal)) (s : State) (g : Ledger S)
    → HasLived o w birth events answers s g
    → (limit : S)
    → NotAbove o limit g.standing.limits
    → (lent : Lent) (answer : Result (Accepted S) Refusal)
    → QuoteEnds o w s.shown limit lent answer ↔ QuoteEnds o w (less birth g.standing.strikes) limit lent answer

-- two such quotes, one after the life and one on the birth sheet less the strikes that stand, end alike
abbrev pub SameEndTheorem : {S : Type 0} → Ops S → Type 0
SameEndTheorem {S} o =
    (w : Setting S) (birth : Pairs) (events : List (Event S × Lent)) (answers : List (Result (Accepted S) Refusal)) (s : State) (g : Ledger S)
    → HasLived o w birth events answers s g
    → (limit : S)
    → NotAbove o limit g.standing.limits
    → (lent : Lent) (a b : Result (Accepted S) Refusal)
    → QuoteEnds o w s.shown limit lent a
    → QuoteEnds o w (less birth g.standing.strikes) limit lent b
    → a ≡ b

-- a life is lived in one way: the events and what is lent settle the answers, the state and the ledger
abbrev pub OneLife : {S : Type 0} → Ops S → Type 0
OneLife {S} o =
    (w : Setting S) (birth : Pairs) (events : List (Event S × Lent)) (answers answers' : List (Result (Accepted S) Refusal)) (s s' : State) (g g' : Ledger S)
    → HasLived o w birth events answers s g
    → HasLived o w birth events answers' s' g'
    → (answers ≡ answers') × (s ≡ s') × (g ≡ g')
