use Rattle.std.proofs.Common.{ap, ◌∙◌}
use Rattle.grid_base.specs.Points.{position_of}
use Rattle.mesh_base.proofs.PointOf.{position_of-point_of}
use Rattle.track_run.proofs.listed_volume.position.Goals as goal

pub returns-clause-value : goal.returns-clause-value
returns-clause-value g c = c.wide_of.ensures.value ∙ ap position_of c.point_in.ensures ∙ position_of-point_of (g.S.Surface.mesh c.args.mesh.now) c.args.v
