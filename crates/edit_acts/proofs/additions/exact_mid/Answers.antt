use Rattle.std.proofs.Common.{ap, ◌∙◌}
use Rattle.grid_base.specs.Points.{position_of}
use Rattle.grid_base.specs.Triples.{plus}
use Rattle.mesh_base.proofs.PointOf.{position_of-point_of}
use Rattle.edit_acts.proofs.additions.exact_mid.Goals as goal

pub returns-clause-value : goal.returns-clause-value
returns-clause-value g c =
    let m = g.S.Surface.mesh c.args.mesh.now in
    let first = ap position_of c.point_of.ensures ∙ position_of-point_of m c.args.u in
    let second = ap position_of c.point_of-2.ensures ∙ position_of-point_of m c.args.v in
    c.middle.ensures.value ∙ (λ i. plus (first i) (second i))
