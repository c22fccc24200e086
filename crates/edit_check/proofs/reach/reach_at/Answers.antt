use Rattle.std.proofs.Common.{ap, subst, ◌∙◌}
use Rattle.std.specs.List.{All}
use Rattle.edit_check.specs.Reach.{Reaches, old_ones}
use Rattle.edit_check.proofs.reach.reach_at.Goals as goal

pub returns-clause-reaches : goal.returns-clause-reaches
returns-clause-reaches g c =
    let m = g.S.Surface.mesh c.args.paths.now.mesh.now in
    subst (All (Reaches m c.args.paths.now.moves.now c.reach_faces.result)) (c.as_slice.ensures.value ∙ c.keep_old.ensures ∙ ap (old_ones c.args.fresh_from) c.in_ok-faces_at.ensures.ok) c.reach_faces.ensures.reaches
