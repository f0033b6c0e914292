use Rattle.std.proofs.Common.{◌≡◌, ◌++◌, length, ap, codes, decimal}
use Rattle.book.specs.BookSaid.{parts_of, rules_of}
use Rattle.text.proofs.Appending.{appended_then, appended_same}
use Rattle.report.proofs.books.put_heading.Goals as goal

pub returns : goal.returns
returns c =
    let b = c.args.book.now in
    let parts : c.parts.result ≡ parts_of b = c.parts.ensures.parts in
    let rules : length c.rules.result.now ≡ length (rules_of b) = ap length c.rules.ensures.rules in
    appended_same
    (λ i. codes "parts " ++ (decimal (parts i) ++ (codes "\nrules " ++ (decimal (rules i) ++ codes "\n"))))
    (appended_then c.put.ensures (appended_then c.number.ensures.text (appended_then c.put-2.ensures (appended_then c.number-2.ensures.text c.push.ensures))))
