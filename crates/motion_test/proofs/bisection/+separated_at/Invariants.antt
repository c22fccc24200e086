use Rattle.motion_test.proofs.bisection.+separated_at.Given as goal

abbrev pub decreases-separated_at : goal.decreases-separated_at
decreases-separated_at l = l.depth
