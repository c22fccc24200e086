use Rattle.std.proofs.Common.{◌≡◌, refl, ap, ◌∙◌}
use Rattle.grid_base.specs.Triples.{times}
use Rattle.grid_base.specs.Points.{position_of}
use Rattle.mesh_base.specs.Placements.{rest_positions_doubled}
use Rattle.mesh_base.proofs.PointOf.{position_of-point_of}
use Rattle.edit_pinch.specs.Pinch.{moves_from}
use Rattle.edit_scaffold.proofs.changes.put_for_pinch.Goals as goal

pub returns-clause-made : goal.returns-clause-made
returns-clause-made g c =
    let m = g.S.Surface.mesh c.args.mesh.now in
    let v = c.args.v in
    let here : c.doubled-here.result ≡ rest_positions_doubled m v = c.doubled-here.ensures.value ∙ ap (times 2) (ap position_of c.point_of.ensures ∙ position_of-point_of m v) in
    record {
      mesh = c.in_ok-put_pinch.ensures.made;
      ways = ◌∙◌ {b = moves_from c.doubled-here.result v c.args.at c.args.copies.now} c.in_ok-ways.ensures (λ i. moves_from (here i) v (c.requires.point i) (c.requires.copies i));
      claim = refl;
    }
