use Rattle.std.proofs.Common.{◌++◌, codes, decimal, arith, length-append}
use Rattle.text.proofs.Appending.{appended_then}
use Rattle.answers.proofs.paragraphs.put_pruned.Goals as goal

pub returns-clause-text : goal.returns-clause-text
returns-clause-text g c = appended_then c.put.ensures (appended_then c.put-2.ensures (appended_then c.put-3.ensures (appended_then c.number.ensures.text c.push.ensures)))

pub returns-clause-short : goal.returns-clause-short
returns-clause-short g c =
    let p = c.args.pruned.now in
    let closed = decimal p.closed ++ codes "\n" in
    omega (arith, g.S.Printed.short p.least, c.number.ensures.short, length-append (g.S.Printed.price_text p.least) (codes "\nstruck " ++ closed), length-append (decimal p.closed) (codes "\n"))
