use Rattle.std.proofs.Common.{subst}
use Rattle.text.specs.Reading.{continued}
use Rattle.text.specs.Readings.{ReadAs}
use Rattle.refusal.specs.declared.Source.TheVariants as source
use Rattle.book.specs.Statements.{book_form}
use Rattle.book.specs.Texts.{stated_in, Outcome}
use Rattle.book.proofs.Telling.{told_by, one_outcome}
use Rattle.book.proofs.reading.read.Goals as goal

pub returns-clause-outcome : goal.returns-clause-outcome
returns-clause-outcome c = subst (λ sum. ReadAs (continued book_form sum) stated_in source.Book c.args.text.now c.read.result) c.new.ensures c.read.ensures

pub returns-clause-only : goal.returns-clause-only
returns-clause-only c =
    let outcome : Outcome c.args.text.now c.read.result = subst (λ sum. ReadAs (continued book_form sum) stated_in source.Book c.args.text.now c.read.result) c.new.ensures c.read.ensures in
    λ other o. one_outcome c.args.text.now other c.read.result o outcome

pub returns-clause-told : goal.returns-clause-told
returns-clause-told c =
    let outcome : Outcome c.args.text.now c.read.result = subst (λ sum. ReadAs (continued book_form sum) stated_in source.Book c.args.text.now c.read.result) c.new.ensures c.read.ensures in
    told_by c.args.text.now c.read.result outcome
