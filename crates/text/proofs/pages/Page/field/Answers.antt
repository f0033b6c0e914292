use Rattle.text.proofs.Appending.{appended_then}
use Rattle.text.proofs.pages.Page.field.Goals as goal

pub returns : goal.returns
returns c = appended_then c.push.ensures c.number.ensures.text
