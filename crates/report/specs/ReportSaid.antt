-- What a report says. Assumes nothing.
use Rattle.std.specs.Prelude.{ℕ, List, [], ◌∷◌, ◌++◌, Option, Some, None}
use Rattle.std.specs.Borrow.{Bor}
use Rattle.refusal.specs.declared.Source.{Source}

-- what is printed, and what is refused, if anything is
pub record ReportSaid : Type 0 where
  pub text : List ℕ
  pub refused : Option Source

-- the faulty line as it is printed, ended by byte 10, if there is one
abbrev pub line_below : Option (Bor (List ℕ)) → List ℕ
line_below (Some line) = line.now ++ 10 ∷ []
line_below None = []
