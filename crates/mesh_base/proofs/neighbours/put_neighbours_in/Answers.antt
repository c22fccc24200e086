use Rattle.std.proofs.Common.{◌&&◌, ◌||◌, nat_lt, sym, ap, ◌∙◌}
use Rattle.std.specs.FinMap as map
use Rattle.mesh_base.specs.SideList.{has_id, are_neighbours, neighbours_in}
use Rattle.mesh_base.proofs.EdgesInOrder.{neighbours_some, neighbours_none, seen_no_more}
use Rattle.mesh_base.proofs.neighbours.put_neighbours_in.Goals as goal

pub returns-in-Some : goal.returns-in-Some
returns-in-Some g c ok w =
    let face = map.get (g.T.FaceTable.mesh c.args.table.now).faces c.args.f in
    c.put_neighbours.ensures ok w
    ∙ ap (λ d. has_id c.args.ids.now.items w || (nat_lt c.args.v w && are_neighbours d c.args.v w)) c.of.ensures
    ∙ ap (λ t. has_id c.args.ids.now.items w || (nat_lt c.args.v w && t)) (sym (neighbours_some face c.in-Some.c c.args.v w (sym c.in-Some.ensures)))

pub returns-in-None : goal.returns-in-None
returns-in-None g c _ w =
    let face = map.get (g.T.FaceTable.mesh c.args.table.now).faces c.args.f in
    seen_no_more (has_id c.args.ids.now.items w) (nat_lt c.args.v w) (neighbours_in face c.args.v w) (neighbours_none face c.args.v w (sym c.in-None.ensures))
