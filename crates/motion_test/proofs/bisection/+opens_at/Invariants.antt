use Rattle.motion_test.proofs.bisection.+opens_at.Given as goal

abbrev pub decreases-opens_at : goal.decreases-opens_at
decreases-opens_at l = l.depth
