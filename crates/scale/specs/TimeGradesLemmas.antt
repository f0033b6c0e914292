-- The scale of time and then grade shows the laws. Nothing here has to be believed. Assumes nothing.
-- The proof stands in specs/, since a ghost member, as `lawful`, may name no file of proofs/.
use Rattle.std.specs.Prelude.{◌≡◌, ℕ, ◌≤◌, ◌↔◌, min, refl}
use Rattle.std.proofs.Common.{ap, arith}
use Rattle.std.proofs.lemmas.Bool.Decides.{nat_tests}
use Rattle.scale.specs.Ops.{Laws}
use Rattle.scale.specs.Barred.{barred_tenths, barred_level}
use Rattle.scale.specs.TimeGrades.{tenths_of, level_of, tenths_of_in_range, level_of_in_range, both_barred_or_neither, time_grade, time_grade_ops}
use Rattle.scale.specs.contracts.prices.time_grades.TimeGrade.{the_row}
use Rattle.scale.specs.declared.prices.time_grades.TimeGrade.{TimeGrade}

-- in the pair that `time_grade` makes both parts are barred or neither is
pub one_form : (t g : ℕ) → (tenths_of t g ≤ barred_tenths) × (level_of t g ≤ barred_level) × ((tenths_of t g ≡ barred_tenths) ↔ (level_of t g ≡ barred_level))
one_form t g = (tenths_of_in_range t g, level_of_in_range t g, both_barred_or_neither t g)

-- pairs of as many tenths and the same level are the same
pub same_time_grade : (a b : TimeGrade) → a.tenths ≡ b.tenths → a.level ≡ b.level → a ≡ b
same_time_grade a b e f = grind (arith, the_row.coded.inj)

-- a time counts in a pair only up to the barred number
pub same_capped : (t u g h : ℕ) → min t barred_tenths ≡ min u barred_tenths → g ≡ h → time_grade t g ≡ time_grade u h
same_capped t u g h e f = same_time_grade _ _ (grind (arith, nat_tests)) (grind (arith, nat_tests))

pub time_grade_laws : Laws time_grade_ops
time_grade_laws = record {
  reflexive = grind (arith, nat_tests);
  transitive = grind (arith, nat_tests);
  total = grind (arith, nat_tests);
  antisymmetric = grind (arith, nat_tests, same_time_grade);
  commutative = grind (arith, nat_tests, same_time_grade);
  associative = grind (arith, nat_tests, same_time_grade);
  neutral = grind (arith, nat_tests, same_time_grade);
  monotone = grind (arith, nat_tests);
  top = grind (arith, nat_tests);
  absorbing = grind (arith, nat_tests, same_time_grade);
  free_open = λ e. omega (arith, ap (λ (p : TimeGrade). p.tenths) e);
  free_price = refl;
}
