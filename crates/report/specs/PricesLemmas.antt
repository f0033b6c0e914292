-- Prices print as a few bytes: proofs, of which nothing has to be believed. Assumes nothing.
use Rattle.std.proofs.Common.{ℕ, ◌≤◌, ◌++◌, if◌then◌else◌, Bool, true, false, List, length, codes, decimal, ◌==◌, arith, length-append}
use Rattle.std.proofs.lemmas.Fmt.{length-decimal-le}
use Rattle.scale.specs.declared.prices.times.Time.{Time}
use Rattle.scale.specs.declared.prices.grades.Grade.{Grade}
use Rattle.scale.specs.declared.prices.time_grades.TimeGrade.{TimeGrade}
use Rattle.scale.specs.Barred.{barred_tenths, barred_level}
use Rattle.scale.specs.Times.{time_text}
use Rattle.scale.specs.Grades.{grade_text}
use Rattle.scale.specs.TimeGrades.{time_grade_text}

tenths_short : (n : ℕ) → n ≤ barred_tenths → length (decimal n) ≤ 10
tenths_short n h = length-decimal-le 10 n (omega arith) (omega arith) (omega arith)

level_short : (n : ℕ) → n ≤ barred_level → length (decimal n) ≤ 10
level_short n h = length-decimal-le 10 n (omega arith) (omega arith) (omega arith)

word_or : (b : Bool) (word text : List ℕ) → length word ≤ 32 → length text ≤ 32 → length (if b then word else text) ≤ 32
word_or true word text h k = h
word_or false word text h k = k

pub time_short : (t : Time) → length (time_text t) ≤ 32
time_short t = let n = tenths_short t.tenths t.in_range in word_or (t.tenths == barred_tenths) (codes "barred") (decimal t.tenths) (omega arith) (omega (arith, n))

pub grade_short : (g : Grade) → length (grade_text g) ≤ 32
grade_short g = let n = level_short g.level g.in_range in word_or (g.level == barred_level) (codes "barred") (decimal g.level) (omega arith) (omega (arith, n))

pub time_grade_short : (p : TimeGrade) → length (time_grade_text p) ≤ 32
time_grade_short p =
    let n = tenths_short p.tenths p.tenths_in_range in
    let m = level_short p.level p.level_in_range in
    word_or (p.tenths == barred_tenths) (codes "barred") _ (omega arith) (omega (arith, n, m, length-append (decimal p.tenths) (codes " " ++ decimal p.level)))
