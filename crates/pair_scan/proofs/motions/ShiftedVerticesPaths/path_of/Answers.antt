use Rattle.std.proofs.Common.{ap, ◌∙◌}
use Rattle.std.specs.Option.{option_map, unwrap_or}
use Rattle.grid_base.specs.Triples.{plus}
use Rattle.grid_base.specs.Points.{position_of, displacement_of, point_at}
use Rattle.mesh_base.specs.Placements.{origin}
use Rattle.mesh_base.specs.Shifts.{shift_at}
use Rattle.mesh_base.proofs.PointOf.{position_of-point_of}
use Rattle.pair_scan.proofs.Paths.{ids_sorted, displaced, end_position}
use Rattle.pair_scan.proofs.motions.ShiftedVerticesPaths.path_of.Goals as goal

pub shift_of-requires : goal.shift_of-requires
shift_of-requires g c = record { rising = ids_sorted (g.S.Surface.mesh c.args.self.now.mesh.now) c.args.self.now.by.now c.args.self.now.named }

pub returns : goal.returns
returns g c =
    let m = g.S.Surface.mesh c.args.self.now.mesh.now in
    let shifts = c.args.self.now.by.now in
    let stands = ap position_of c.point_of-from.ensures ∙ position_of-point_of m c.args.v in
    let by = ap (λ o. unwrap_or (option_map displacement_of o) origin) c.shift_of.ensures ∙ displaced shifts c.args.v in
    let to = c.end_of-to.ensures
    ∙ ap (λ t. point_at (plus (position_of c.point_of-from.result) t)) by
    ∙ ap (λ t. point_at (plus t (shift_at shifts c.args.v))) stands in
    let start = c.of.ensures ∙ c.wide.ensures.value ∙ stands in
    let end = c.of-2.ensures ∙ c.wide-2.ensures.value ∙ ap position_of to ∙ end_position m shifts c.args.v c.args.self.now.in_box in
    λ i. record { start = start i; end = end i }
