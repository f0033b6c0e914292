use Rattle.std.proofs.Common.{◌-◌}
use Rattle.text.specs.Lines.{After}
use Rattle.text.proofs.lines.line.Given as goal

abbrev pub invariant-loop : goal.invariant-loop
invariant-loop l = After (l.counter - 1) l.text l.rest
