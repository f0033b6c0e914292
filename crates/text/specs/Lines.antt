-- The lines of a text, each ended by byte 10, counted from 1. Assumes nothing.
use Rattle.std.specs.Prelude.{◌≡◌, ℕ, zero, suc, ◌<◌, List, ◌∷◌, ◌++◌, length}
use Rattle.refusal.specs.declared.Source.{Source}
use Rattle.refusal.specs.declared.Source.TheVariants as source
use Rattle.text.specs.Fields.{Lacks, Ended}

-- bs begins with line, which byte 10 ends, and goes on with after
pub record Starts (bs line after : List ℕ) : Type 0 where
  pub whole : line ++ 10 ∷ after ≡ bs
  pub apart : Lacks 10 line

-- rest follows the first n lines of the text
abbrev pub After : ℕ → List ℕ → List ℕ → Type 0
After zero text rest = text ≡ rest
After (suc n) text rest = (line : List ℕ) × (after : List ℕ) × Starts text line after × After n after rest

-- bs is not empty, and begins with line, which byte 10 or the end of bs ends
pub record FirstLine (bs line : List ℕ) : Type 0 where
  pub some : 0 < length bs
  pub tail : List ℕ
  pub whole : line ++ tail ≡ bs
  pub apart : Lacks 10 line
  pub ended : Ended 10 tail

-- the line of that number, counted from 1
abbrev pub LineAt : List ℕ → ℕ → List ℕ → Type 0
LineAt text zero line = ⊥
LineAt text (suc n) line = (rest : List ℕ) × After n text rest × FirstLine rest line

-- the line of that number in the text that the source names; a sheet has no lines
abbrev pub FaultyLine : Source → List ℕ → List ℕ → ℕ → List ℕ → Type 0
FaultyLine source.Sheet book order n line = ⊥
FaultyLine source.Book book order n line = LineAt book n line
FaultyLine source.Order book order n line = LineAt order n line
