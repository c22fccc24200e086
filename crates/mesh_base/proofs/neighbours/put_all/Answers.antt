use Rattle.std.proofs.Common.{◌&&◌, ◌||◌, ℕ, Some, nat_lt, refl, ap, sym, ◌∙◌, arith}
use Rattle.std.specs.List.{list_any}
use Rattle.std.specs.FinMap as map
use Rattle.mesh_base.specs.SideList.{has_id}
use Rattle.mesh_base.specs.Sides.{above}
use Rattle.mesh_base.proofs.WalkSteps.{walk-start, above-step, above-end}
use Rattle.mesh_base.proofs.NeighboursAbove.{seen, found_more, found_all}
use Rattle.mesh_base.proofs.neighbours.put_all.Goals as goal

pub loop-f-init : goal.loop-f-init
loop-f-init g c w =
    let m = g.T.FaceTable.mesh c.args.table.now in
    let start = walk-start m.faces (λ q h. (c.requires.sound.is_mesh.face_ids q h).0) in
    ap (λ ids. has_id ids w || (nat_lt c.args.v w && list_any (seen m c.args.v w) (above 0 (map.keys m.faces)))) c.requires.empty
    ∙ ap (λ fs. nat_lt c.args.v w && list_any (seen m c.args.v w) fs) start

pub loop-f-smaller : goal.loop-f-smaller
loop-f-smaller g c =
    let faces = (g.T.FaceTable.mesh c.args.table.now).faces in
    let rest = above-step faces c.loop-f.last c.f.inside.0 (sym c.in-Some.ensures ∙ ap Some (sym c.f.view_is)) in
    rw rest (omega arith)

pub loop-f-preserved : goal.loop-f-preserved
loop-f-preserved g c w =
    let m = g.T.FaceTable.mesh c.args.table.now in
    let v : ℕ = c.args.v in
    let f = c.f.inside.0 in
    let old = has_id c.loop-f.ids.items w in
    let rest = above-step m.faces c.loop-f.last f (sym c.in-Some.ensures ∙ ap Some (sym c.f.view_is)) in
    found_more old (nat_lt v w) (seen m v w f) (list_any (seen m v w) (above f (map.keys m.faces))) (has_id c.put_neighbours_in.new.ids.items w)
    (c.in_ok-put_neighbours_in.ensures refl w ∙ ap (λ f. old || (nat_lt v w && seen m v w f)) (sym c.f.view_is))
    ∙ ap (λ fs. old || (nat_lt v w && list_any (seen m v w) fs)) (sym rest)
    ∙ c.loop-f.invariant w

pub returns : goal.returns
returns g c ok w =
    let m = g.T.FaceTable.mesh c.args.table.now in
    let v : ℕ = c.args.v in
    let ids = c.loop-f.ids.items in
    let none = above-end c.loop-f.last (map.keys m.faces) (sym c.face_above.ensures ∙ c.in_default.is) in
    sym (found_all (has_id ids w) (nat_lt v w))
    ∙ ap (λ fs. has_id ids w || (nat_lt v w && list_any (seen m v w) fs)) (sym none)
    ∙ c.loop-f.invariant w
