use Rattle.std.proofs.Common.{◌<◌, length, arith}
use Rattle.std.proofs.lemmas.Bool.Decides.{nat_tests}
use Rattle.answers.proofs.Lining.{cut_shorter, counted_more}
use Rattle.answers.proofs.texts.line_count.Goals as goal

pub loop-rest-preserved : goal.loop-rest-preserved
loop-rest-preserved c =
    let rest = c.loop-rest.rest.now in
    let some : 0 < length rest = grind (arith, nat_tests) in
    let cut = c.line_and_rest.ensures in
    let shorter = cut_shorter rest c.line_and_rest.result.0.now c.line_and_rest.result.1.now some cut in
    record {
      few = omega (arith, shorter, c.loop-rest.invariant.few);
      counted = counted_more c.args.text.now rest c.line_and_rest.result.0.now c.line_and_rest.result.1.now c.loop-rest.count some cut c.loop-rest.invariant.counted;
    }
