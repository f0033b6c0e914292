use Rattle.text.proofs.Appending.{appended_then}
use Rattle.answers.proofs.paragraphs.put_struck.Goals as goal

pub returns-clause-text : goal.returns-clause-text
returns-clause-text c = appended_then c.put.ensures (appended_then c.number.ensures.text (appended_then c.push.ensures (appended_then c.push-2.ensures c.push-3.ensures)))
