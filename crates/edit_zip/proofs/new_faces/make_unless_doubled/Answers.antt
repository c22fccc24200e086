use Rattle.std.proofs.Common.{◌≡◌, ◌≤◌, true, false, length, get_or, sym, ap, subst, ◌∙◌, arith}
use Rattle.mesh_base.specs.Changes.{corners_of, with_face, IsFresh}
use Rattle.mesh_base.proofs.MarksHold.{begins_along}
use Rattle.edit_zip.specs.Standing.{stands}
use Rattle.edit_zip.proofs.Unless.{one_stands, one_is_fresh, one_is_made, none_is_doubled}
use Rattle.edit_zip.proofs.new_faces.make_unless_doubled.Goals as goal

pub returns-then-stands-clause-doubled : goal.returns-then-stands-clause-doubled
returns-then-stands-clause-doubled g c =
    let m = g.S.Surface.mesh c.loop-c.mesh in
    let there : stands m (corners_of (get_or c.args.faces.now c.loop-c.c-index c.c-item.result)) ≡ true = ap (λ k. stands m (corners_of k)) (sym c.c-item.is) ∙ ap (stands m) (sym c.of.ensures) ∙ sym c.stands.ensures ∙ c.if-stands.true in
    sym (one_stands (g.S.Surface.mesh c.args.mesh.now) m c.args.faces.now c.loop-c.c-index c.c-item.result c.loop-c.invariant.0 c.loop-c-test.true (g.met.S.Surface.sound c.loop-c.mesh).is_mesh there)

pub make_face-requires-clause-fresh : goal.make_face-requires-clause-fresh
make_face-requires-clause-fresh g c =
    let m = g.S.Surface.mesh c.loop-c.mesh in
    let none : stands m (corners_of (get_or c.args.faces.now c.loop-c.c-index c.c-item.result)) ≡ false = ap (λ k. stands m (corners_of k)) (sym c.c-item.is) ∙ ap (stands m) (sym c.of.ensures) ∙ sym c.stands.ensures ∙ c.if-stands.false in
    subst (λ k. IsFresh m (corners_of k)) (sym c.c-item.is)
    (one_is_fresh (g.S.Surface.mesh c.args.mesh.now) m c.args.faces.now c.loop-c.c-index c.c-item.result c.loop-c.invariant.0 c.loop-c-test.true none)

pub loop-c-preserved : goal.loop-c-preserved
loop-c-preserved g c =
    let mesh = g.S.Surface.mesh in
    let kept = g.S.Surface.kept in
    let made = c.in_ok-make_face.ensures.made ∙ ap (λ k. with_face (mesh c.loop-c.mesh) (corners_of k)) c.c-item.is in (
      one_is_made (mesh c.args.mesh.now) (mesh c.loop-c.mesh) c.args.faces.now c.loop-c.c-index c.c-item.result c.loop-c.invariant.0 c.loop-c-test.true (mesh c.make_face.new.mesh) made,
      begins_along (kept c.make_face.new.mesh) (kept c.loop-c.mesh) (kept c.args.mesh.now) c.make_face.ensures.marks c.loop-c.invariant.1,
    )

pub returns-clause-doubled : goal.returns-clause-doubled
returns-clause-doubled g c =
    let end : length c.args.faces.now ≤ c.loop-c.c-index = omega (arith, c.loop-c-test.false) in
    sym (none_is_doubled (g.S.Surface.mesh c.args.mesh.now) (g.S.Surface.mesh c.loop-c.mesh) c.args.faces.now c.loop-c.c-index c.loop-c.invariant.0 end (g.met.S.Surface.sound c.loop-c.mesh).is_mesh)

pub returns-in_err-make_face-clause-marks : goal.returns-in_err-make_face-clause-marks
returns-in_err-make_face-clause-marks g c =
    let kept = g.S.Surface.kept in
    begins_along (kept c.make_face.new.mesh) (kept c.loop-c.mesh) (kept c.args.mesh.now) c.make_face.ensures.marks c.loop-c.invariant.1
