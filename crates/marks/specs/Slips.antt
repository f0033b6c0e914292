-- What a slip says. Assumes nothing.
use Rattle.std.specs.Prelude.{ℕ}

-- the number of its sheet, and the level of its mark: how many stood once that was set
pub record SlipSaid : Type 0 where
  pub number : ℕ
  pub level : ℕ
