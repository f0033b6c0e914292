use Rattle.std.proofs.Common.{arith}
use Rattle.std.proofs.lemmas.Bool.Decides.{nat_tests}
use Rattle.order.proofs.Spelling.{no_place, no_field, more_fields, no_letters, is_place}
use Rattle.order.proofs.reading.place_line.Goals as goal
use Rattle.order.proofs.reading.place_line.Goals.{then-not-is_empty-via-then-not-is_empty, then-not-is_empty-via-else-not-is_empty+then-not-rising}

pub returns-in_err-letters : goal.returns-in_err-letters
returns-in_err-letters c = rw c.from_residual.ensures (no_place _ (no_field c.in_err-letters.ensures))

pub returns-then-not-is_empty : goal.returns-then-not-is_empty
returns-then-not-is_empty c =
    elim c.then-not-is_empty.branch [
      | then-not-is_empty-via-then-not-is_empty w ↦ no_place _ (more_fields c.in_ok-letters.ensures (grind (arith, nat_tests)))
      | then-not-is_empty-via-else-not-is_empty+then-not-rising w ↦ no_place _ (no_letters c.in_ok-letters.ensures w.if-not-rising.ensures)
    ]

pub returns : goal.returns
returns c = is_place c.in_ok-letters.ensures (grind (arith, nat_tests)) c.if-not-rising.ensures
