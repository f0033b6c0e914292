use Rattle.std.proofs.Common.{◌+◌, ◌-◌, refl}
use Rattle.planner.proofs.Indexing.{spans_half}
use Rattle.planner.proofs.boards.index.Goals as goal

pub returns : goal.returns
returns c = rw (spans_half (c.args.span.before + c.args.span.len - 1)) refl
