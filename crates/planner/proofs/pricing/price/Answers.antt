use Rattle.std.proofs.Common.{refl}
use Rattle.std.proofs.lemmas.Bool.{both_ways}
use Rattle.planner.proofs.Searching.{costs_so, barred_so}
use Rattle.planner.proofs.pricing.price.Goals as goal

pub returns-then-is_barred-clause-refused : goal.returns-then-is_barred-clause-refused
returns-then-is_barred-clause-refused g c passed =
    let barred = c.is_barred.ensures.0 c.if-is_barred.true in
    (λ e. rw barred at (costs_so g.met.S.Scale.lawful _ _ _ _ c.cost_of-cost.ensures), λ e. refl)

pub returns-clause-least : goal.returns-clause-least
returns-clause-least g c = (
  costs_so g.met.S.Scale.lawful _ _ _ _ c.cost_of-cost.ensures,
  λ e. both_ways _ c.if-is_barred.false (c.is_barred.ensures.1 e),
)

pub returns-clause-refused : goal.returns-clause-refused
returns-clause-refused g c passed = (
  λ e. absurd (both_ways _ refl e),
  λ costs. absurd (both_ways _ c.if-is_barred.false (c.is_barred.ensures.1 (barred_so g.met.S.Scale.lawful _ _ _ _ c.cost_of-cost.ensures costs))),
)
