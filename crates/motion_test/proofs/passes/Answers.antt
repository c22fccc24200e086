use Rattle.grid_base.proofs.SeparationLaws.{Passes-never_meet}
use Rattle.motion_test.specs.Pairs.{positions_of}
use Rattle.motion_test.proofs.passes.Goals as goal

pub returns-clause-clear : goal.returns-clause-clear
returns-clause-clear c = λ yes. Passes-never_meet c.args.depth (positions_of c.args.p.now.start) (positions_of c.args.p.now.end) (c.passes_at.ensures.0 yes)
