use Rattle.std.proofs.Common.{◌^◌, ◌<◌, arith}
use Rattle.std.proofs.ByRecursion.{All-get_or}
use Rattle.order.proofs.Refilling.{drawn, filled_more}
use Rattle.order.proofs.filling.fill.Goals as goal

pub loop-i-preserved : goal.loop-i-preserved
loop-i-preserved c =
    filled_more c.args.masks.now c.args.memory.now c.loop-i.memory c.loop-i.i _ (omega arith) c.loop-i.invariant
    (drawn _ _ (omega arith) (All-get_or (λ m. m < 2 ^ 26) c.args.masks.now c.loop-i.i 0 (omega arith) c.requires.small))
