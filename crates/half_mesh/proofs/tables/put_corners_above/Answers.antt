use Rattle.std.proofs.Common.{◌≡◌, ◌&&◌, ◌||◌, Some, None, nat_lt, sym, subst, ap, ◌∙◌}
use Rattle.std.specs.Option.{option_map}
use Rattle.std.specs.FinMap as map
use Rattle.mesh_base.specs.Mesh.{AreDifferent}
use Rattle.mesh_base.specs.SideList.{has_id, are_neighbours, neighbours_in}
use Rattle.mesh_base.proofs.EdgesInOrder.{seen_no_more}
use Rattle.half_mesh.specs.Tied.{corners_at, faces_in}
use Rattle.half_mesh.proofs.Mapped.{get-map_values}
use Rattle.half_mesh.proofs.tables.put_corners_above.Goals as goal

pub put_neighbours-requires : goal.put_neighbours-requires
put_neighbours-requires c = subst AreDifferent (sym c.corners_from-a.ensures) (c.requires c.args.f c.in-Some.key (sym c.in-Some.ensures))

pub returns-in-Some : goal.returns-in-Some
returns-in-Some c ok w =
    let sides = c.args.fans.now.woven.sides in
    let keys = c.args.keys.now.live in
    let old = has_id c.args.into.now.items w in
    let got : map.get (faces_in sides keys) c.args.f ≡ Some (corners_at sides c.in-Some.key) = get-map_values (corners_at sides) keys c.args.f ∙ ap (option_map (corners_at sides)) (sym c.in-Some.ensures) in
    c.put_neighbours.ensures ok w
    ∙ ap (λ d. old || (nat_lt c.args.v w && are_neighbours d c.args.v w)) c.corners_from-a.ensures
    ∙ ap (λ o. old || (nat_lt c.args.v w && neighbours_in o c.args.v w)) (sym got)

pub returns-in-None : goal.returns-in-None
returns-in-None c ok w =
    let sides = c.args.fans.now.woven.sides in
    let keys = c.args.keys.now.live in
    let got : map.get (faces_in sides keys) c.args.f ≡ None = get-map_values (corners_at sides) keys c.args.f ∙ ap (option_map (corners_at sides)) (sym c.in-None.ensures) in
    seen_no_more (has_id c.args.into.now.items w) (nat_lt c.args.v w) (neighbours_in (map.get (faces_in sides keys) c.args.f) c.args.v w) (ap (λ o. neighbours_in o c.args.v w) got)
