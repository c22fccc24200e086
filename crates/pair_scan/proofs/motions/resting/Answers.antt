use Rattle.std.proofs.Common.{ap, ◌∙◌}
use Rattle.grid_base.specs.Triples.{times}
use Rattle.grid_base.specs.Points.{position_of}
use Rattle.mesh_base.proofs.PointOf.{position_of-point_of}
use Rattle.pair_scan.proofs.motions.resting.Goals as goal

pub returns-clause-value : goal.returns-clause-value
returns-clause-value g c =
    let stands = ap position_of c.point_of.ensures ∙ position_of-point_of (g.S.Surface.mesh c.args.mesh.now) c.args.v in
    c.doubled.ensures.value ∙ ap (times 2) stands
