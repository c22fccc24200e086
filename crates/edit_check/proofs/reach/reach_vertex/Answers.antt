use Rattle.std.proofs.Common.{sym, ◌∙◌}
use Rattle.edit_check.proofs.Reached.{as_wide, at_one_moved}
use Rattle.edit_check.proofs.reach.reach_vertex.Goals as goal

pub returns-then-is_moved-clause-reaches : goal.returns-then-is_moved-clause-reaches
returns-then-is_moved-clause-reaches g c =
    at_one_moved (g.S.Surface.mesh c.args.paths.now.mesh.now) c.args.paths.now.moves.now c.args.fresh_from c.args.reach c.args.v c.requires (sym c.is_moved.ensures ∙ c.if-is_moved.true)

pub returns-then-is_moved-clause-keeps : goal.returns-then-is_moved-clause-keeps
returns-then-is_moved-clause-keeps g c = as_wide c.args.reach

pub returns-clause-reaches : goal.returns-clause-reaches
returns-clause-reaches g c = c.reach_at.ensures.reaches

pub returns-clause-keeps : goal.returns-clause-keeps
returns-clause-keeps g c = c.reach_at.ensures.keeps
