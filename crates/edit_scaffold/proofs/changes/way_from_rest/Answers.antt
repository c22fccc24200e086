use Rattle.std.proofs.Common.{ap, ◌∙◌}
use Rattle.grid_base.specs.Triples.{times}
use Rattle.grid_base.specs.Points.{position_of}
use Rattle.mesh_base.proofs.PointOf.{position_of-point_of}
use Rattle.edit_scaffold.proofs.changes.way_from_rest.Goals as goal

pub returns : goal.returns
returns g c =
    let stands = ap position_of c.point_of.ensures ∙ position_of-point_of (g.S.Surface.mesh c.args.mesh.now) c.args.v in
    let e = c.doubled.ensures.value ∙ ap (times 2) stands in
    λ i. record { v = c.args.v; start = e i; end = c.args.end }
