use Rattle.std.proofs.Common.{arith, length-set}
use Rattle.std.proofs.lemmas.List.{length-replicate}
use Rattle.std.proofs.lemmas.Bool.Decides.{nat_tests}
use Rattle.text.proofs.Chaining.{found_none, found_more, found_stops, found_over, found_all}
use Rattle.text.proofs.fields.numbers.Goals as goal

pub loop-slot-init : goal.loop-slot-init
loop-slot-init g c = (found_none _ _, length-replicate _ _)

pub returns-in_err-n : goal.returns-in_err-n
returns-in_err-n g c = rw c.from_residual.ensures (found_stops c.loop-slot.invariant.0 (omega arith) c.in_err-n.ensures c.loop-slot.invariant.1)

pub loop-slot-preserved : goal.loop-slot-preserved
loop-slot-preserved g c = (found_more c.loop-slot.invariant.0 (omega arith) c.in_ok-n.ensures, simp length-set c.loop-slot.invariant.1)

pub returns-then-not-is_empty : goal.returns-then-not-is_empty
returns-then-not-is_empty g c = found_over c.loop-slot.invariant.0 (omega arith) (grind (arith, nat_tests)) c.loop-slot.invariant.1

pub returns : goal.returns
returns g c = found_all c.loop-slot.invariant.0 c.loop-slot.invariant.1 (omega arith) (grind (arith, nat_tests))
