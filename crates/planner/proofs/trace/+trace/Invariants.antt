use Rattle.planner.proofs.trace.+trace.Given as goal

abbrev pub decreases-trace : goal.decreases-trace
decreases-trace l = l.span.len
