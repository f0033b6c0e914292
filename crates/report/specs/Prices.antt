-- The scale that an order's limit names, the limit as a price of it, and how such prices are printed. Assumes nothing.
use Rattle.std.specs.Prelude.{List, ℕ}
use Rattle.scale.specs.Ops.{Ops}
use Rattle.scale.specs.declared.prices.times.Time.{Time}
use Rattle.scale.specs.declared.prices.grades.Grade.{Grade}
use Rattle.scale.specs.declared.prices.time_grades.TimeGrade.{TimeGrade}
use Rattle.scale.specs.Times.{time, time_ops, time_text}
use Rattle.scale.specs.Grades.{grade_of, grade_ops, grade_text}
use Rattle.scale.specs.TimeGrades.{time_grade, time_grade_ops, time_grade_text}
use Rattle.order.specs.declared.limits.Limit.{Limit}
use Rattle.order.specs.declared.limits.Limit.TheVariants as limits

-- a scale, how its prices are printed, and the price that no run may cost more than
pub record Bound : Type 1 where
  pub Price : Type 0
  pub ops : Ops Price
  pub text : Price → List ℕ
  pub limit : Price

-- a limit of time alone is a price of the scale of times, and so on
abbrev pub bound_of : Limit → Bound
bound_of (limits.Time t) = record { Price = Time; ops = time_ops; text = time_text; limit = time t }
bound_of (limits.Grade g) = record { Price = Grade; ops = grade_ops; text = grade_text; limit = grade_of g }
bound_of (limits.Both t g) = record { Price = TimeGrade; ops = time_grade_ops; text = time_grade_text; limit = time_grade t g }
