use Rattle.std.proofs.Common.{◌++◌, codes, decimal, arith, length-append}
use Rattle.text.proofs.Appending.{appended_then}
use Rattle.answers.proofs.paragraphs.put_level.Goals as goal

pub returns-clause-text : goal.returns-clause-text
returns-clause-text c = appended_then c.put.ensures (appended_then c.number.ensures.text c.push.ensures)

pub returns-clause-short : goal.returns-clause-short
returns-clause-short c =
    let level = decimal c.args.level in
    omega (arith, c.requires, c.number.ensures.short, length-append c.args.word.now (level ++ codes "\n"), length-append level (codes "\n"))
