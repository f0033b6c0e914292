-- What a marked sheet means: its open pairs, and those that it goes back to. Assumes nothing.
use Rattle.std.specs.Prelude.{◌≡◌, ℕ, Bool, ◌&&◌, ◌==◌, if◌then◌else◌, List, [], ◌∷◌, length, nat_lt, Result, Ok, Err, MatchResult}
use Rattle.refusal.specs.declared.Refusal.{Refusal}
use Rattle.refusal.specs.declared.Refusal.TheVariants.{MarksFull, WrongSlip}
use Rattle.sheet.specs.Pairs.{Pairs, closed_at}
use Rattle.sheet.specs.Strikes.{struck}

-- a marked sheet: its open pairs, and for each mark that stands the open pairs as they were when it was set, the latest first
pub record State : Type 0 where
  pub shown : Pairs
  pub saved : List Pairs

-- a marked sheet at its birth: no mark stands
abbrev pub born : Pairs → State
born birth = record { shown = birth; saved = [] }

-- at most so many marks stand
abbrev pub most_marks : ℕ
most_marks = 8

-- a call leaves this state, or is refused
abbrev pub left_by : Result (Unit {0}) Refusal → State → Result State Refusal
left_by (Ok _) after = Ok after
left_by (Err e) after = Err e

-- a call that answers `result` leaves the state `next`, where `after` says which state it leads to, or why it is refused
abbrev pub LeadsTo : {A E : Type 0} → (E → Refusal) → Result State Refusal → Result A E → State → Type 0
LeadsTo why after result next = MatchResult result (λ _. after ≡ Ok next) (λ e. after ≡ Err (why e))

-- the state after a strike of the stroke c at the place p, on a sheet of n places, or why it is refused
abbrev pub after_strike : ℕ → State → ℕ → ℕ → Result State Refusal
after_strike n s p c = left_by (struck n s.shown p c) (record { shown = closed_at s.shown p c; saved = s.saved })

-- the state after a mark, or why it is refused
abbrev pub after_mark : State → Result State Refusal
after_mark s = if nat_lt (length s.saved) most_marks then Ok (record { shown = s.shown; saved = s.shown ∷ s.saved }) else Err MarksFull

-- some things, the latest first, without the latest
abbrev pub earlier : {A : Type 0} → List A → List A
earlier [] = []
earlier (x ∷ xs) = xs

-- the latest of them, or `now` where there is none
abbrev pub latest : {A : Type 0} → A → List A → A
latest now [] = now
latest now (x ∷ xs) = x

-- whether a slip of that number and level is that of the latest mark, on the sheet of number `sheet` where `marks` stand
abbrev pub fits : ℕ → ℕ → ℕ → ℕ → Bool
fits sheet marks number level = number == sheet && level == marks && nat_lt 0 marks

-- the state after a keep with such a slip, or why it is refused
abbrev pub after_keep : ℕ → State → ℕ → ℕ → Result State Refusal
after_keep sheet s number level =
    if fits sheet (length s.saved) number level then Ok (record { shown = s.shown; saved = earlier s.saved }) else Err WrongSlip

-- the state after a back with such a slip, or why it is refused
abbrev pub after_back : ℕ → State → ℕ → ℕ → Result State Refusal
after_back sheet s number level =
    if fits sheet (length s.saved) number level then Ok (record { shown = latest s.shown s.saved; saved = earlier s.saved }) else Err WrongSlip
