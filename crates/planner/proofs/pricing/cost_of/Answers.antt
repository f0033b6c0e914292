use Rattle.std.proofs.Common.{length}
use Rattle.derivations.proofs.Running.{over_run_is}
use Rattle.planner.proofs.Drawing.{blank_shown}
use Rattle.planner.proofs.pricing.cost_of.Goals as goal

pub draw-requires-clause-shut : goal.draw-requires-clause-shut
draw-requires-clause-shut g c = blank_shown c.new-sheet.result.memory.now (length c.args.run.now) c.new-sheet.ensures.content

pub returns : goal.returns
returns g c =
    let task = c.new-task.ensures in
    let least = rw (task.rules, task.sheet, c.draw.ensures.pairs, c.draw.ensures.long) at c.least.ensures in
    over_run_is g.met.S.Scale.lawful _ _ c.args.run.now c.least.result least
