use Rattle.text.proofs.Appending.{appended_from}
use Rattle.book.proofs.Putting.{cut_put, pair_put}
use Rattle.book.proofs.writing.put_rule.Goals as goal
use Rattle.book.proofs.writing.put_rule.Goals.{in-Cut, in-Pair}

pub returns : goal.returns
returns c =
    elim c.match-side.branch [
      | in-Cut w ↦ cut_put _ _ _ c.args.rule.side w.in-Cut.stroke w.in-Cut.is w.push.ensures w.field.ensures w.push-in-Cut.ensures w.push-in-Cut-2.ensures (appended_from w.page-is c.field-2.ensures) c.field-3.ensures c.push-2.ensures
      | in-Pair w ↦ pair_put _ _ _ c.args.rule.side w.in-Pair.left w.in-Pair.right w.in-Pair.is w.push-in-Pair.ensures w.field-in-Pair.ensures w.field-in-Pair-2.ensures w.field-in-Pair-3.ensures (appended_from w.page-is c.field-2.ensures) c.field-3.ensures c.push-2.ensures
    ]
