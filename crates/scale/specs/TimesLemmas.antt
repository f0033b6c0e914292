-- The scale of time shows the laws. Nothing here has to be believed. Assumes nothing.
-- The proof stands in specs/, since a ghost member, as `lawful`, may name no file of proofs/.
use Rattle.std.specs.Prelude.{◌≡◌, ◌≢◌}
use Rattle.std.proofs.Common.{ap, arith}
use Rattle.std.proofs.lemmas.Bool.Decides.{nat_tests}
use Rattle.scale.specs.Ops.{Laws}
use Rattle.scale.specs.Times.{time_ops}
use Rattle.scale.specs.contracts.prices.times.Time.{the_row}
use Rattle.scale.specs.declared.prices.times.Time.{Time}

-- free and barred differ in their tenths
free_is_open : time_ops.free ≢ time_ops.barred
free_is_open e = omega (arith, ap (λ (t : Time). t.tenths) e)

-- times of as many tenths are the same
pub same_time : (a b : Time) → a.tenths ≡ b.tenths → a ≡ b
same_time a b e = grind (arith, the_row.coded.inj)

pub time_laws : Laws time_ops
time_laws = grind (arith, nat_tests, same_time, free_is_open)
