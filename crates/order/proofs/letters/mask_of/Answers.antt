use Rattle.std.proofs.Common.{arith}
use Rattle.order.proofs.Lettering.{stroke_at, mask_more}
use Rattle.order.proofs.letters.mask_of.Goals as goal

pub overflow_sub-mask : goal.overflow_sub-mask
overflow_sub-mask c = (stroke_at c.args.letters.now c.loop-letter.letter-index c.loop-letter-test.true c.requires).0

pub overflow_shl-mask : goal.overflow_shl-mask
overflow_shl-mask c = omega (arith, (stroke_at c.args.letters.now c.loop-letter.letter-index c.loop-letter-test.true c.requires).1)

pub loop-letter-preserved : goal.loop-letter-preserved
loop-letter-preserved c = mask_more c.args.letters.now c.loop-letter.letter-index c.loop-letter.mask c.loop-letter-test.true c.requires c.loop-letter.invariant
