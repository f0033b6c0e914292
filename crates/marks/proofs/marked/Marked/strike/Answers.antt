use Rattle.std.proofs.Common.{ap}
use Rattle.marks.specs.Marks.{saved_by}
use Rattle.marks.proofs.Calling.{strike_left}
use Rattle.marks.proofs.marked.Marked.strike.Goals as goal

pub returns-clause-state : goal.returns-clause-state
returns-clause-state g c =
    let s = g.H.Sheet in
    let below = c.args.self.now.below.now in
    let rows = c.args.self.now.marks.rows.items in
    strike_left (s.places below) (s.shown below) (s.shown c.strike.new.sheet) _ _ c.args.place c.args.stroke _ c.strike.result c.strike.ensures.answer c.strike.ensures.after (ap (λ n. saved_by n rows) (s.laws.lasts _ _ c.strike.ensures.memory))
