-- What a line of an event states, or why it is refused. Assumes nothing.
use Rattle.std.specs.Prelude.{◌≡◌, ℕ, List, [], ◌∷◌, ◌⊎◌, Option, MatchOption, Result, Ok, Err, decimal}
use Rattle.refusal.specs.declared.Refusal.{Refusal}
use Rattle.refusal.specs.declared.Refusal.TheVariants.{UnknownLine, MalformedField}
use Rattle.text.specs.Fields.{fielded, Short, Stroke}
use Rattle.answers.specs.declared.lines.EventLine.{EventLine}
use Rattle.answers.specs.declared.lines.EventLine.TheVariants.{Strike, Mark, Keep, Back, Prune, Quote}
use Rattle.answers.specs.declared.words.Word.{Word}
use Rattle.answers.specs.declared.words.Word.TheVariants as word
use Rattle.answers.specs.Words.{Begins}
use Rattle.answers.specs.Notations.{Notation, WritesLimit}

-- rest is just these two fields
pub record StrikeFields (rest : List ℕ) (place stroke : ℕ) : Type 0 where
  pub whole : fielded (decimal place ∷ (stroke ∷ []) ∷ []) ≡ rest
  pub short : Short place
  pub is_stroke : Stroke stroke

module _ {S : Type 0} where
  -- no field follows, and this event without fields is stated
  abbrev pub BareStates : EventLine S → List ℕ → EventLine S → Type 0
  BareStates event rest said = (rest ≡ []) × (said ≡ event)

  -- how what follows the word of such an event is read
  abbrev pub BareRead : EventLine S → List ℕ → Option (EventLine S) → Type 0
  BareRead event rest o = MatchOption o ((said : EventLine S) → BareStates event rest said → ⊥) (λ said. BareStates event rest said)

module _ {S : Type 0} (notation : Notation S) where
  -- what follows that word states it: a place and a stroke, nothing, or a limit
  abbrev pub RestStates : Word → List ℕ → EventLine S → Type 0
  RestStates word.Strike rest said = (place : ℕ) × (stroke : ℕ) × StrikeFields rest place stroke × (said ≡ Strike place stroke)
  RestStates word.Mark rest said = BareStates Mark rest said
  RestStates word.Keep rest said = BareStates Keep rest said
  RestStates word.Back rest said = BareStates Back rest said
  RestStates word.Prune rest said = (limit : S) × WritesLimit notation rest limit × (said ≡ Prune limit)
  RestStates word.Quote rest said = (limit : S) × WritesLimit notation rest limit × (said ≡ Quote limit)

  -- how what follows a word is read
  abbrev pub RestRead : Word → List ℕ → Option (EventLine S) → Type 0
  RestRead w rest o = MatchOption o ((said : EventLine S) → RestStates w rest said → ⊥) (λ said. RestStates w rest said)

  -- the line states it: it is a word, and then fields that state it
  pub record States (line : List ℕ) (said : EventLine S) : Type 0 where
    pub word : Word
    pub rest : List ℕ
    pub begins : Begins line word rest
    pub stated : RestStates word rest said

  -- how a line is read: as what it states; or it begins with no word of an event; or it begins with one, and states nothing
  abbrev pub LineRead : List ℕ → Result (EventLine S) Refusal → Type 0
  LineRead line (Ok said) = States line said
  LineRead line (Err r) =
      (((w : Word) (rest : List ℕ) → Begins line w rest → ⊥) × (r ≡ UnknownLine))
      ⊎ ((w : Word) × (rest : List ℕ) × Begins line w rest × ((said : EventLine S) → RestStates w rest said → ⊥) × (r ≡ MalformedField))

  -- a line is read in one way only
  abbrev pub OneReading : Type 0
  OneReading = (line : List ℕ) (one two : Result (EventLine S) Refusal) → LineRead line one → LineRead line two → one ≡ two
