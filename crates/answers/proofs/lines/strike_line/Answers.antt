use Rattle.std.proofs.Common.{refl, arith}
use Rattle.std.proofs.lemmas.Bool.Decides.{nat_tests}
use Rattle.answers.proofs.Stating.{no_place, no_stroke, more_fields, both_fields}
use Rattle.answers.proofs.lines.strike_line.Goals as goal

pub returns-in_err-place : goal.returns-in_err-place
returns-in_err-place g c = rw c.from_residual.ensures (λ said h. no_place c.in_err-place.ensures h.0 h.1 h.2)

pub returns-in_err-stroke : goal.returns-in_err-stroke
returns-in_err-stroke g c = rw c.from_residual-in_err-stroke.ensures (λ said h. no_stroke c.in_ok-place.ensures c.in_err-stroke.ensures h.0 h.1 h.2)

pub returns-then-not-is_empty : goal.returns-then-not-is_empty
returns-then-not-is_empty g c = λ said h. more_fields c.in_ok-place.ensures c.in_ok-stroke.ensures (grind (arith, nat_tests)) h.0 h.1 h.2

pub returns : goal.returns
returns g c = (c.in_ok-place.place, c.in_ok-stroke.stroke, both_fields c.in_ok-place.ensures c.in_ok-stroke.ensures (grind (arith, nat_tests)), refl)
