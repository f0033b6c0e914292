use Rattle.std.proofs.Common.{◌+◌, ap, ◌∙◌, arith}
use Rattle.std.proofs.lemmas.Nat.{mul-le}
use Rattle.planner.specs.Boards.{span_number, entry_index}
use Rattle.planner.proofs.Indexing.{number_few, left_next, right_back}
use Rattle.planner.proofs.boards.HalfIndices.next.Goals as goal

pub overflow_add-self-2 : goal.overflow_add-self-2
overflow_add-self-2 c =
    let h = c.args.self.now in
    let number = number_few h.span.before h.split h.some (omega (arith, h.few, h.span.few)) in
    let row = mul-le (span_number h.span.before h.split) h.parts 300 255 (omega (arith, number)) (omega arith) in
    let step = mul-le (h.span.before + h.split + 1) h.parts 25 255 (omega (arith, h.few, h.span.few)) (omega arith) in
    omega (arith, row, step, h.left_is, h.step_is, h.left_named)

pub invariant_of-self-clause-left_is : goal.invariant_of-self-clause-left_is
invariant_of-self-clause-left_is c =
    let h = c.args.self.now in
    ap (λ x. x + h.left_step) h.left_is ∙ ap (λ x. entry_index h.parts h.span.before h.split h.left + x) h.step_is ∙ left_next h.parts h.span.before h.split h.left h.some

pub returns-clause-right : goal.returns-clause-right
returns-clause-right c =
    let h = c.args.self.now in
    omega (arith, h.right_is, right_back h.parts h.span.before h.span.len h.split h.right c.requires)
