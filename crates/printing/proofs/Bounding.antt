-- The limit of an order is a price of a lawful scale, and is not barred. Assumes nothing.
use Rattle.std.proofs.Common.{◌≡◌, false, arith}
use Rattle.std.proofs.lemmas.Bool.Decides.{nat_tests}
use Rattle.scale.specs.Ops.{Laws}
use Rattle.scale.specs.TimesLemmas.{time_laws}
use Rattle.scale.specs.GradesLemmas.{grade_laws}
use Rattle.scale.specs.TimeGradesLemmas.{time_grade_laws}
use Rattle.order.specs.declared.limits.Limit.{Limit}
use Rattle.order.specs.declared.limits.Limit.TheVariants.{Time, Grade, Both}
use Rattle.order.specs.Statements.{ShortLimit, InRange}
use Rattle.report.specs.Prices.{bound_of}

pub bound_laws : (l : Limit) → Laws (bound_of l).ops
bound_laws (Time t) = time_laws
bound_laws (Grade g) = grade_laws
bound_laws (Both t g) = time_grade_laws

pub bound_open : (l : Limit) → ShortLimit l → InRange l → (bound_of l).ops.le (bound_of l).ops.barred (bound_of l).limit ≡ false
bound_open (Time t) short ranged = grind (arith, nat_tests)
bound_open (Grade g) short ranged = grind (arith, nat_tests)
bound_open (Both t g) short ranged = grind (arith, nat_tests)
