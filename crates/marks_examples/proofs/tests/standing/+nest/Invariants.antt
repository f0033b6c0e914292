use Rattle.marks_examples.proofs.tests.standing.+nest.Given as goal

abbrev pub decreases-nest : goal.decreases-nest
decreases-nest g l = l.more
