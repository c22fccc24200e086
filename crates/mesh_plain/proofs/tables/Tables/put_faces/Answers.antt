use Rattle.std.proofs.Common.{◌≡◌, Some, ap, sym, ◌∙◌, arith}
use Rattle.std.specs.List.{fold}
use Rattle.std.specs.FinMap as finite
use Rattle.mesh_base.specs.Sides.{above}
use Rattle.mesh_base.proofs.WalkSteps.{walk-start, above-step, above-end}
use Rattle.mesh_plain.specs.Copying.{with_face_of}
use Rattle.mesh_plain.proofs.tables.Tables.put_faces.Goals as goal

pub loop-f-init : goal.loop-f-init
loop-f-init g c =
    let m = g.S.Surface.mesh c.args.mesh.now in
    ap (fold (with_face_of m) c.args.self.now) (walk-start m.faces (λ q h. ((g.met.S.Surface.sound c.args.mesh.now).is_mesh.face_ids q h).0))

pub loop-f-smaller : goal.loop-f-smaller
loop-f-smaller g c =
    let m = g.S.Surface.mesh c.args.mesh.now in
    let rest = above-step m.faces c.loop-f.last c.f.inside.0 (sym c.in-Some.ensures ∙ ap Some (sym c.f.view_is)) in
    rw rest (omega arith)

pub loop-f-preserved : goal.loop-f-preserved
loop-f-preserved g c =
    let m = g.S.Surface.mesh c.args.mesh.now in
    let rest = above-step m.faces c.loop-f.last c.f.inside.0 (sym c.in-Some.ensures ∙ ap Some (sym c.f.view_is)) in
    let put : c.put_face.new.self ≡ with_face_of m c.loop-f.self c.f.inside.0 = c.in_ok-put_face.ensures ∙ ap (with_face_of m c.loop-f.self) (sym c.f.view_is) in
    ap (λ t. fold (with_face_of m) t (above c.f.inside.0 (finite.keys m.faces))) put
    ∙ sym (ap (fold (with_face_of m) c.loop-f.self) rest)
    ∙ c.loop-f.invariant

pub returns : goal.returns
returns g c =
    let m = g.S.Surface.mesh c.args.mesh.now in
    let none = above-end c.loop-f.last (finite.keys m.faces) (sym c.face_after.ensures ∙ c.in_default.is) in
    sym (ap (fold (with_face_of m) c.loop-f.self) none) ∙ c.loop-f.invariant
