use Rattle.std.proofs.Common.{cond, [], ◌∷◌, sym, ap, ◌∙◌}
use Rattle.text.proofs.Appending.{appended_none, appended_same}
use Rattle.report.proofs.sheets.put_stroke.Goals as goal

pub returns-else-look : goal.returns-else-look
returns-else-look g c = appended_same (ap (λ b. cond b (c.args.stroke ∷ []) []) (sym c.if-look.false ∙ c.look.ensures)) (appended_none c.args.page.now)
