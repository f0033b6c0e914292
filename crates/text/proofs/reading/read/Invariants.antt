use Rattle.std.proofs.Common.{◌+◌, ◌≤◌, length}
use Rattle.text.specs.Reading.{continued}
use Rattle.text.proofs.Standing.{Sofar}
use Rattle.text.proofs.reading.read.Given as goal

abbrev pub invariant-loop-rest : goal.invariant-loop-rest
invariant-loop-rest g l =
    let d = g.D.Draft in
    (l.number + length l.rest ≤ length l.text + 1)
    × Sofar (continued d.form (d.stated l.initial.draft)) l.text l.number (d.stated l.draft) l.rest

abbrev pub decreases-loop-rest : goal.decreases-loop-rest
decreases-loop-rest g l = length l.rest
