-- The scale of grades, which are blade heats: 0 is free, and 255 is barred. Assumes nothing.
use Rattle.std.specs.Prelude.{ℕ, min, max, if◌then◌else◌, List, codes, decimal, ◌==◌, nat_le}
use Rattle.std.proofs.Math.Nat.{min-le_right}
use Rattle.scale.specs.Barred.{barred_level}
use Rattle.scale.specs.Ops.{Ops}
use Rattle.scale.specs.declared.prices.grades.Grade.{Grade}

-- the blade heat n, and barred from 255 on
abbrev pub grade_of : ℕ → Grade
grade_of n = record { level = min n barred_level; in_range = min-le_right n barred_level }

-- less heat is less, a join is the greater of the two, and a price is its grade alone
abbrev pub grade_ops : Ops Grade
grade_ops = record {
  le = λ a b. nat_le a.level b.level;
  join = λ a b. grade_of (max a.level b.level);
  free = grade_of 0;
  barred = grade_of barred_level;
  price = λ t g. grade_of g;
}

-- what is printed: the level in decimal digits, or the word barred
abbrev pub grade_text : Grade → List ℕ
grade_text g = if g.level == barred_level then codes "barred" else decimal g.level
