use Rattle.text.proofs.Appending.{appended_then}
use Rattle.printing.proofs.Lengths.{quote_length}
use Rattle.printing.proofs.quotes.put_quote.Goals as goal

pub returns-clause-text : goal.returns-clause-text
returns-clause-text g c = appended_then c.put.ensures (appended_then c.put-2.ensures (appended_then c.put-3.ensures (appended_then c.put-4.ensures (appended_then c.put-5.ensures (appended_then c.number.ensures.text (appended_then c.push.ensures c.put_sheet.ensures))))))

pub returns-clause-short : goal.returns-clause-short
returns-clause-short g c = quote_length _ _ _ (g.H.Sheet.shown c.args.sheet.now) _ (g.S.Printed.short c.args.cost) c.requires c.number.ensures.short (g.H.Sheet.laws.few c.args.sheet.now)
