use Rattle.std.proofs.Common.{arith}
use Rattle.std.proofs.lemmas.Bool.Decides.{nat_tests}
use Rattle.text.proofs.Numbering.{after_more, line_past, line_none}
use Rattle.text.proofs.lines.line.Goals as goal

pub returns-in_err-after : goal.returns-in_err-after
returns-in_err-after c = rw c.from_residual.ensures (λ l h. line_past _ _ _ _ c.loop.invariant c.in_err-after.ensures (omega arith) l h)

pub loop-preserved : goal.loop-preserved
loop-preserved c = after_more _ _ _ _ _ _ (omega arith) c.loop.invariant c.in_ok-after.ensures

pub returns-then-is_empty : goal.returns-then-is_empty
returns-then-is_empty c = λ l h. line_none _ _ _ _ c.loop.invariant (grind (arith, nat_tests)) (omega arith) l h
