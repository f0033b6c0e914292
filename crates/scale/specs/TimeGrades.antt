-- The scale of time and then grade: the pair of 0 and 0 is free, and a pair with a barred part is barred. Assumes nothing.
use Rattle.std.specs.Prelude.{◌≡◌, ℕ, ◌+◌, ◌≤◌, ◌↔◌, max, Bool, if◌then◌else◌, ◌&&◌, ◌||◌, List, ◌++◌, codes, decimal, ◌==◌, nat_le, nat_lt}
use Rattle.std.proofs.Common.{arith}
use Rattle.std.proofs.lemmas.Bool.Decides.{nat_tests}
use Rattle.scale.specs.Barred.{barred_tenths, barred_level}
use Rattle.scale.specs.Ops.{Ops}
use Rattle.scale.specs.declared.prices.time_grades.TimeGrade.{TimeGrade}

-- whether neither the time t nor the grade g is barred
abbrev pub both_open : ℕ → ℕ → Bool
both_open t g = nat_lt t barred_tenths && nat_lt g barred_level

-- the tenths of the pair of t and g: t where both are open, and otherwise the barred number
abbrev pub tenths_of : ℕ → ℕ → ℕ
tenths_of t g = if both_open t g then t else barred_tenths

-- the level of that pair: g where both are open, and otherwise the barred number
abbrev pub level_of : ℕ → ℕ → ℕ
level_of t g = if both_open t g then g else barred_level

-- what each pair keeps holds of these two: proofs, which the pair below carries
pub tenths_of_in_range : (t g : ℕ) → tenths_of t g ≤ barred_tenths
tenths_of_in_range t g = grind (arith, nat_tests)

pub level_of_in_range : (t g : ℕ) → level_of t g ≤ barred_level
level_of_in_range t g = grind (arith, nat_tests)

pub both_barred_or_neither : (t g : ℕ) → (tenths_of t g ≡ barred_tenths) ↔ (level_of t g ≡ barred_level)
both_barred_or_neither t g = grind (arith, nat_tests)

-- the pair of t tenths of a second and the grade g where both are open, and otherwise the one barred pair
abbrev pub time_grade : ℕ → ℕ → TimeGrade
time_grade t g = record {
  tenths = tenths_of t g;
  level = level_of t g;
  tenths_in_range = tenths_of_in_range t g;
  level_in_range = level_of_in_range t g;
  barred_together = both_barred_or_neither t g;
}

-- whether a is not above b: by time, and at equal time by grade
abbrev pub by_time_then_grade : TimeGrade → TimeGrade → Bool
by_time_then_grade a b = nat_lt a.tenths b.tenths || (a.tenths == b.tenths && nat_le a.level b.level)

-- a join is the sum of the times and the greater of the grades, and a price is both its time and its grade
abbrev pub time_grade_ops : Ops TimeGrade
time_grade_ops = record {
  le = by_time_then_grade;
  join = λ a b. time_grade (a.tenths + b.tenths) (max a.level b.level);
  free = time_grade 0 0;
  barred = time_grade barred_tenths barred_level;
  price = time_grade;
}

-- what is printed: the tenths, one space and the level, in decimal digits, or the word barred
abbrev pub time_grade_text : TimeGrade → List ℕ
time_grade_text p = if p.tenths == barred_tenths then codes "barred" else decimal p.tenths ++ (codes " " ++ decimal p.level)
