use Rattle.std.proofs.Common.{rules, Ok, Err}
use Rattle.order.specs.Texts.{stated_with}
use Rattle.order.proofs.Outcomes.{outcome_short}
use Rattle.order.proofs.Telling.{one_outcome, told_by}
use Rattle.order.proofs.reading.read.Goals as goal

pub returns-in_err-limit-clause-only : goal.returns-in_err-limit-clause-only
returns-in_err-limit-clause-only c = λ other after o. one_outcome _ _ other _ after _ o (search rules)

pub returns-in_err-limit-clause-told : goal.returns-in_err-limit-clause-told
returns-in_err-limit-clause-told c = told_by _ _ _ _ (search rules)

pub returns-then-len-memory-clause-only : goal.returns-then-len-memory-clause-only
returns-then-len-memory-clause-only c = let short = outcome_short c.args.text.now c.args.memory.now (stated_with c.in_ok-limit.field-0.limit c.in_ok-limit.field-0.masks.items) in λ other after o. one_outcome _ _ other (Err c.of_sheet.result) after c.args.memory.now o (search (rules, short))

pub returns-then-len-memory-clause-told : goal.returns-then-len-memory-clause-told
returns-then-len-memory-clause-told c = told_by _ _ (Err c.of_sheet.result) c.args.memory.now (search rules)

pub returns-clause-only : goal.returns-clause-only
returns-clause-only c = λ other after o. one_outcome _ c.args.memory.now other (Ok (record { limit = c.in_ok-limit.field-0.limit; places = c.len-2.result })) after c.fill.new.memory o (search rules)
