use Rattle.std.proofs.Common.{arith, rules}
use Rattle.book.proofs.drafts.BookDraftDraft.finish.Goals as goal

pub invariant_of-result : goal.invariant_of-result
invariant_of-result c =
    let d = c.args.self in
    record {
      some_parts = (d.parts_in_range c.in_ok-parts.parts (search rules)).0;
      few_parts = (d.parts_in_range c.in_ok-parts.parts (search rules)).1;
      some_rules = grind arith;
      few_rules = d.few_rules;
      ranged = d.ranged c.in_ok-parts.parts (search rules);
      lettered_strokes = d.lettered;
    }
