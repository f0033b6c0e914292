-- The scale of grades shows the laws. Nothing here has to be believed. Assumes nothing.
-- The proof stands in specs/, since a ghost member, as `lawful`, may name no file of proofs/.
use Rattle.std.specs.Prelude.{◌≡◌, ℕ, max, ◌≢◌}
use Rattle.std.proofs.Common.{ap, arith}
use Rattle.std.proofs.lemmas.Bool.Decides.{nat_tests}
use Rattle.scale.specs.Ops.{Laws}
use Rattle.scale.specs.Grades.{grade_ops}
use Rattle.scale.specs.contracts.prices.grades.Grade.{the_row}
use Rattle.scale.specs.declared.prices.grades.Grade.{Grade}

-- free and barred differ in their level
free_is_open : grade_ops.free ≢ grade_ops.barred
free_is_open e = omega (arith, ap (λ (g : Grade). g.level) e)

-- grades of the same level are the same
pub same_grade : (a b : Grade) → a.level ≡ b.level → a ≡ b
same_grade a b e = grind (arith, the_row.coded.inj)

-- the greatest of three, grouped either way
greatest_of_three : (a b c x y : ℕ) → x ≡ max a b → y ≡ max b c → max x c ≡ max a y
greatest_of_three a b c x y p q = omega arith

pub grade_laws : Laws grade_ops
grade_laws = grind (arith, nat_tests, same_grade, greatest_of_three, free_is_open)
