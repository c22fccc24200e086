use Rattle.std.proofs.Common.{◌≡◌, ◌∙◌, Some, false, sym, ap, subst, arith}
use Rattle.std.specs.FinMap as map
use Rattle.cell_grid.specs.Filed.{has}
use Rattle.mesh_base.specs.Sides.{above}
use Rattle.mesh_base.proofs.WalkSteps.{above-step, above-end}
use Rattle.mesh_journal.proofs.Walked.{none_passed, one_passed}
use Rattle.mesh_journal.proofs.face_boxes.put_all.Goals as goal

pub loop-f-init : goal.loop-f-init
loop-f-init g c = none_passed (Some c.args.grid.now) (g.B.Surface.mesh c.args.mesh.now) (g.met.B.Surface.sound c.args.mesh.now)

pub loop-f-smaller : goal.loop-f-smaller
loop-f-smaller g c =
    let faces = (g.B.Surface.mesh c.args.mesh.now).faces in
    let rest = above-step faces c.loop-f.last c.f.inside.0 (sym c.in-Some.ensures ∙ ap Some (sym c.f.view_is)) in
    rw rest (omega arith)

pub loop-f-preserved : goal.loop-f-preserved
loop-f-preserved g c = λ q d h none.
    let m = g.B.Surface.mesh c.args.mesh.now in
    let ids = map.keys m.faces in
    let f = c.in-Some.f in
    one_passed (Some c.loop-f.grid) (Some c.put_face.new.grid) m f q d (above c.loop-f.last ids) (above f ids)
    (above-step m.faces c.loop-f.last f (sym c.in-Some.ensures))
    c.in_ok-put_face.ensures.at c.in_ok-put_face.ensures.others (c.loop-f.invariant q d h) h
    (subst (λ k. has q (above k ids) ≡ false) c.f.view_is none)

pub returns : goal.returns
returns g c = λ q d h.
    let ids = map.keys (g.B.Surface.mesh c.args.mesh.now).faces in
    c.loop-f.invariant q d h (ap (has q) (above-end c.loop-f.last ids (sym c.face_after.ensures ∙ c.in_default.is)))
