use Rattle.std.proofs.Common.{◌∙◌}
use Rattle.marks.proofs.Marking.{copied_whole}
use Rattle.marks.proofs.marked.row_of.Goals as goal

pub returns : goal.returns
returns g c =
    let s = g.H.Sheet in
    let sheet = c.args.sheet.now in
    c.save.ensures ∙ copied_whole (s.places sheet) 24 (s.shown sheet) (s.laws.few sheet) (s.laws.within sheet)
