use Rattle.std.proofs.Common.{◌≡◌}
use Rattle.planner.proofs.Drawing.{drawn}
use Rattle.planner.proofs.pricing.draw.Given as goal

abbrev pub invariant-loop-before : goal.invariant-loop-before
invariant-loop-before g l = record {
  pairs : g.H.Sheet.shown l.sheet ≡ drawn l.run l.before;
  long : g.H.Sheet.places l.sheet ≡ g.H.Sheet.places l.initial.sheet;
}
