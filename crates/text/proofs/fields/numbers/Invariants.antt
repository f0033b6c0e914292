use Rattle.std.proofs.Common.{◌≡◌, length}
use Rattle.text.proofs.Chaining.{Found}
use Rattle.text.proofs.fields.numbers.Given as goal

abbrev pub invariant-loop-slot : goal.invariant-loop-slot
invariant-loop-slot g l = Found l.initial.rest l.slot-items l.slot-index l.rest × (length l.slot-items ≡ g.row.N)
