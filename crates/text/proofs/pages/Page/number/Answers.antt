use Rattle.std.proofs.Common.{◌∙◌, arith}
use Rattle.std.proofs.lemmas.Fmt.{length-decimal-le}
use Rattle.std.proofs.lemmas.List.{take_all}
use Rattle.text.proofs.Appending.{appended_none, appended_same, front_put}
use Rattle.text.proofs.pages.Page.number.Goals as goal

pub loop-digit-init : goal.loop-digit-init
loop-digit-init c = appended_none c.args.self.now

pub loop-digit-preserved : goal.loop-digit-preserved
loop-digit-preserved c = front_put _ c.loop-digit.digit-index c.loop-digit-test.true c.loop-digit.invariant c.push.ensures

pub returns-clause-text : goal.returns-clause-text
returns-clause-text c =
    let digits = c.as_bytes-digit-items.ensures.value ∙ c.format.ensures.text in
    appended_same (take_all c.loop-digit.digit-index _ c.loop-digit-test.false ∙ digits) c.loop-digit.invariant

pub returns-clause-short : goal.returns-clause-short
returns-clause-short c = length-decimal-le 20 c.args.n (omega arith) (omega (arith, c.ranges.n)) (omega (arith, c.ranges.n))
