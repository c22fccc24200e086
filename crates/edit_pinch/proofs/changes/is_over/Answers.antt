use Rattle.std.proofs.Common.{◌+◌, ◌-◌, ◌||◌, length, map, sum, nat_lt, ap, ◌∙◌}
use Rattle.grid_base.specs.declared.TheConstants.{ID_MAX}
use Rattle.edit_pinch.proofs.Room.{over_by_room}
use Rattle.mesh_base.specs.declared.limits.Limits.{Limits}
use Rattle.edit_pinch.proofs.changes.is_over.Goals as goal

pub returns : goal.returns
returns g c v closed live later =
    let n = length c.args.others.now in
    let k = sum (map length c.args.others.now) in
    let more = c.have_more.ensures ∙ ap (λ j. nat_lt (ID_MAX + 1 - j) k) c.next_face.ensures in
    let most = ap (λ (l : Limits). l.vertices) c.limits.ensures in
    c.is_too_much.ensures
    ∙ (λ i. (nat_lt (most i - c.vertices.ensures i) n || nat_lt (ID_MAX + 1 - c.next_vertex.ensures i) n) || more i)
    ∙ over_by_room (g.S.Surface.mesh c.args.mesh.now) v (g.met.S.Surface.sound c.args.mesh.now) closed live c.args.others.now later
