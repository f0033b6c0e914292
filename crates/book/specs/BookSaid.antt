-- What a book says, and what the layers above it see of that. Assumes nothing.
use Rattle.std.specs.Prelude.{ℕ, List}
use Rattle.book.specs.declared.rules.Rule.{Rule}

-- how many parts there are, numbered from 0, and the rules, numbered from 1 in the order of their lines
pub record BookSaid : Type 0 where
  pub parts : ℕ
  pub rules : List Rule

-- how many parts the boards of the planner count
abbrev pub parts_of : BookSaid → ℕ
parts_of b = b.parts

-- the rules that runs are built up by, in the order of their numbers
abbrev pub rules_of : BookSaid → List Rule
rules_of b = b.rules
