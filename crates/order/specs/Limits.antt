-- A limit as it is printed. Assumes nothing.
use Rattle.std.specs.Prelude.{ℕ, List, ◌++◌, codes, decimal}
use Rattle.order.specs.declared.limits.Limit.{Limit}
use Rattle.order.specs.declared.limits.Limit.TheVariants.{Time, Grade, Both}

-- `time 50`
abbrev pub time_name : ℕ → List ℕ
time_name time = codes "time " ++ decimal time

-- `grade 2`
abbrev pub grade_name : ℕ → List ℕ
grade_name grade = codes "grade " ++ decimal grade

-- `time 50`, `grade 2`, or `time 45 grade 2`
abbrev pub limit_name : Limit → List ℕ
limit_name (Time time) = time_name time
limit_name (Grade grade) = grade_name grade
limit_name (Both time grade) = time_name time ++ (codes " " ++ grade_name grade)
