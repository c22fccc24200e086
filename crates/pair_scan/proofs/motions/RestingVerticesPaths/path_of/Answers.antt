use Rattle.std.proofs.Common.{ap, ◌∙◌}
use Rattle.grid_base.specs.Points.{position_of}
use Rattle.mesh_base.proofs.PointOf.{position_of-point_of}
use Rattle.pair_scan.proofs.motions.RestingVerticesPaths.path_of.Goals as goal

pub returns : goal.returns
returns g c =
    let here = c.of-here.ensures ∙ c.wide.ensures.value ∙ ap position_of c.point_of.ensures ∙ position_of-point_of (g.S.Surface.mesh c.args.self.now.mesh.now) c.args.v in
    λ i. record { start = here i; end = here i }
