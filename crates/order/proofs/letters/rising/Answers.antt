use Rattle.std.proofs.Common.{arith}
use Rattle.std.proofs.lemmas.Bool.Decides.{nat_tests}
use Rattle.order.proofs.Lettering.{rises_at, rises_more, stroke_at}
use Rattle.order.proofs.letters.rising.Goals as goal

pub returns-then-letter-lowest : goal.returns-then-letter-lowest
returns-then-letter-lowest c = λ l.
    let a = rises_at 65 c.args.letters.now c.loop-letter.letter-index (omega arith) l.1 in
    let b = stroke_at c.args.letters.now c.loop-letter.letter-index (omega arith) l in
    grind (arith, nat_tests)

pub loop-letter-preserved : goal.loop-letter-preserved
loop-letter-preserved c = rises_more c.args.letters.now c.loop-letter.letter-index c.loop-letter.lowest c.loop-letter-test.true c.loop-letter.invariant.0 c.loop-letter.invariant.1 (omega arith) (grind (arith, nat_tests))
