use Rattle.std.proofs.Common.{◌++◌, codes, arith, length-append}
use Rattle.text.proofs.Appending.{appended_then}
use Rattle.answers.proofs.paragraphs.put_quoted.Goals as goal

pub returns-clause-text : goal.returns-clause-text
returns-clause-text g c = appended_then c.put.ensures (appended_then c.put-2.ensures (appended_then c.put-3.ensures (appended_then c.put-4.ensures c.push.ensures)))

pub returns-clause-short : goal.returns-clause-short
returns-clause-short g c =
    let price = g.S.Printed.price_text c.args.cost in
    let run = c.args.run.now in
    omega (arith, g.S.Printed.short c.args.cost, c.requires, length-append price (codes "\nrun " ++ (run ++ codes "\n")), length-append run (codes "\n"))
