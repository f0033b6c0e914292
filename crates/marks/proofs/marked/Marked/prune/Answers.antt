use Rattle.std.proofs.Common.{ap}
use Rattle.marks.specs.Marks.{saved_by, state, setting}
use Rattle.marks.proofs.Calling.{prune_left, prune_refused_left}
use Rattle.marks.proofs.marked.Marked.prune.Goals as goal

pub returns-clause-step : goal.returns-clause-step
returns-clause-step g c =
    let h = g.H.Sheet in
    let o = g.S.Scale.ops in
    let marked = c.args.self.now in
    let w = setting o h.places c.args.book.now marked in
    let rows = marked.marks.rows.items in
    let keep = ap (λ n. saved_by n rows) (h.laws.lasts _ _ c.prune.ensures.memory) in
    (prune_left o w (state h.places h.shown marked) _ c.args.limit keep _ c.prune.result c.prune.ensures.answer, prune_refused_left o w (state h.places h.shown marked) _ c.args.limit keep _ c.prune.result c.prune.ensures.sheet (λ e. ap h.shown e))
