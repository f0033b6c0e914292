-- How the limits of a scale are written in a text. Assumes nothing.
use Rattle.std.specs.Prelude.{◌≡◌, ℕ, List, slice_index}
use Rattle.scale.specs.declared.prices.times.Time.{Time}
use Rattle.scale.specs.declared.prices.grades.Grade.{Grade}
use Rattle.scale.specs.declared.prices.time_grades.TimeGrade.{TimeGrade}
use Rattle.scale.specs.Times.{time}
use Rattle.scale.specs.Grades.{grade_of}
use Rattle.scale.specs.TimeGrades.{time_grade}
use Rattle.text.specs.Fields.{Numbered}

-- how many numbers a limit is written as, and the limit that they mean
pub record Notation (S : Type 0) : Type 0 where
  pub count : ℕ
  pub limit : List ℕ → S

-- rest is that many numbers, a space before each, and they mean the limit
pub record WritesLimit {S : Type 0} (notation : Notation S) (rest : List ℕ) (limit : S) : Type 0 where
  pub numbers : List ℕ
  pub fields : Numbered notation.count rest numbers
  pub means : limit ≡ notation.limit numbers

-- a time is one number, a grade one number, and a time and a grade are two
abbrev pub time_notation : Notation Time
time_notation = record { count = 1; limit = λ ns. time (slice_index ns 0) }

abbrev pub grade_notation : Notation Grade
grade_notation = record { count = 1; limit = λ ns. grade_of (slice_index ns 0) }

abbrev pub time_grade_notation : Notation TimeGrade
time_grade_notation = record { count = 2; limit = λ ns. time_grade (slice_index ns 0) (slice_index ns 1) }
