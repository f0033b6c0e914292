use Rattle.book.proofs.Putting.{filled_start, filled_more, filled_at}
use Rattle.book.proofs.Returning.{written_tells}
use Rattle.book.proofs.writing.page_of.Goals as goal

pub loop-rule-init : goal.loop-rule-init
loop-rule-init c = (rw (← c.parts.ensures.parts) (filled_start _ _ c.new-page.ensures c.push.ensures c.field.ensures c.push-2.ensures), c.rules-rule-items.ensures.rules)

pub loop-rule-preserved : goal.loop-rule-preserved
loop-rule-preserved c = (filled_more _ c.loop-rule.invariant.0 c.loop-rule-test.true c.put_rule.ensures, c.loop-rule.invariant.1)

pub returns : goal.returns
returns c =
    let lawful = c.parts.ensures.lawful in
    record {
      text = filled_at c.args.book.now lawful c.loop-rule.invariant.0 c.loop-rule.invariant.1 c.loop-rule-test.false;
      tells = written_tells _ _ lawful;
    }
