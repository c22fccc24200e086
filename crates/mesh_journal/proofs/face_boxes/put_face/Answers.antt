use Rattle.std.proofs.Common.{◌≡◌, Some, refl, ap, subst, ◌∙◌}
use Rattle.std.specs.FinMap as map
use Rattle.mesh_journal.specs.Boxed.{IsAround}
use Rattle.mesh_journal.proofs.Boxed.{held-at, held-others, corners-around}
use Rattle.mesh_journal.proofs.Walked.{corners_are}
use Rattle.mesh_journal.proofs.face_boxes.put_face.Goals as goal

pub returns-in_ok-insert-clause-at : goal.returns-in_ok-insert-clause-at
returns-in_ok-insert-clause-at g c = λ d has.
    let m = g.B.Surface.mesh c.args.mesh.now in
    let f = c.args.f in
    let e = c.box_of.result in
    let new = c.insert.new.self in
    let set : new ≡ map.insert c.args.grid.now f e = c.in_ok-insert.ensures.ok ∙ ap (λ k. map.insert c.args.grid.now k e) (c.from.ensures ∙ c.f.view_is) in
    corners-around (Some new) m f d e (λ t at. held-at (Some new) c.args.grid.now new f e t refl set at)
    (subst (IsAround e m) (corners_are (map.get m.faces f) c.in-Some.c d c.in-Some.ensures has) c.box_of.ensures)

pub returns-in_ok-insert-clause-others : goal.returns-in_ok-insert-clause-others
returns-in_ok-insert-clause-others g c = λ q p apart h.
    let f = c.args.f in
    let e = c.box_of.result in
    let new = c.insert.new.self in
    let set : new ≡ map.insert c.args.grid.now f e = c.in_ok-insert.ensures.ok ∙ ap (λ k. map.insert c.args.grid.now k e) (c.from.ensures ∙ c.f.view_is) in
    held-others (Some c.args.grid.now) (Some new) c.args.grid.now new f e q p refl refl set apart h
