use Rattle.std.proofs.Common.{◌∙◌}
use Rattle.controller.specs.Packed.{EntryAnswers}
use Rattle.controller.proofs.Rooming.{roomy, one_entry_answer}
use Rattle.controller.proofs.waichuro_price.Goals as goal

pub returns : goal.returns
returns c =
    let answer : EntryAnswers c.args.book.now c.args.run.now c.answer.result = (c.read.result, c.read.ensures.outcome, c.read.ensures.told, c.answer.ensures.answer ∙ roomy c.args.book.now c.read.result c.args.run.now c.read.ensures.told) in
    record { answer = answer; only = λ other o. one_entry_answer c.args.book.now c.args.run.now other c.answer.result o answer }
