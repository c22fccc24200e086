use Rattle.std.proofs.Common.{◌<◌, ◌+◌, ℕ, List, ◌∷◌, drop, get_or, length, sym, ap, subst, ◌∙◌}
use Rattle.mesh_base.specs.declared.ids.Corners.{Corners}
use Rattle.mesh_base.specs.Mesh.{Mesh}
use Rattle.mesh_base.proofs.MarksHold.{begins_along}
use Rattle.edit_base.specs.Edges.{without_faces}
use Rattle.edit_collapse.specs.Tried.{only_at, has_id_in, with_joined_or_gone, AreRising}
use Rattle.edit_collapse.proofs.Lists.{rest_at, ended}
use Rattle.edit_collapse.proofs.Halfway.{OnTheWay, gone, begun, goes_on, at_end, has_id, is_fresh}
use Rattle.edit_collapse.proofs.IdSearch.{left_rise}
use Rattle.edit_collapse.proofs.Room.{ids_fit, first_is_live}
use Rattle.edit_collapse.proofs.changes.put_joined.Goals as goal

pub drop_gone-requires : goal.drop_gone-requires
drop_gone-requires g c = subst AreRising (sym c.requires.left) (left_rise (g.S.Surface.mesh c.args.mesh.now) c.args.a c.args.b)

pub join_face-requires-clause-rising : goal.join_face-requires-clause-rising
join_face-requires-clause-rising g c = subst AreRising (sym c.requires.left) (left_rise (g.S.Surface.mesh c.args.mesh.now) c.args.a c.args.b)

pub loop-i-init : goal.loop-i-init
loop-i-init g c =
    let m = g.S.Surface.mesh c.args.mesh.now in
    let made = c.in_ok-drop_gone.ensures.made ∙ ap (λ left. without_faces m (gone left m c.args.a)) c.requires.left in
    let es = c.as_slice-faces.ensures ∙ c.in_ok-joining.ensures.faces in (
      subst (λ (xs : List (ℕ × Corners)). OnTheWay m c.args.a c.args.b (g.S.Surface.mesh c.drop_gone.new.mesh) xs) (sym es)
          (subst (λ (n : Mesh). OnTheWay m c.args.a c.args.b n (only_at m c.args.b c.args.a)) (sym made) (begun m c.args.a c.args.b (g.met.S.Surface.sound c.args.mesh.now) c.requires.apart)),
      c.in_ok-drop_gone.ensures.marks,
    )

-- the face that comes next, and those that follow
way_at : (m : Mesh) (a b : ℕ) (now : Mesh) (es : List (ℕ × Corners)) (i : ℕ) (d : ℕ × Corners) → i < length es → OnTheWay m a b now (drop i es) → OnTheWay m a b now (get_or es i d ∷ drop (i + 1) es)
way_at m a b now es i d more way = subst (λ (xs : List (ℕ × Corners)). OnTheWay m a b now xs) (rest_at es i d more) way

pub join_face-requires-clause-room : goal.join_face-requires-clause-room
join_face-requires-clause-room g c =
    let m = g.S.Surface.mesh c.args.mesh.now in
    let sound = g.met.S.Surface.sound c.args.mesh.now in
    let items = c.as_slice-faces.result.now in
    has_id m c.args.a c.args.b sound c.requires.apart (g.S.Surface.mesh c.loop-i.mesh) (get_or items c.loop-i.i c.index-faces-i.result) (drop (c.loop-i.i + 1) items)
    (way_at m c.args.a c.args.b (g.S.Surface.mesh c.loop-i.mesh) items c.loop-i.i c.index-faces-i.result c.loop-i-test.true c.loop-i.invariant.0)
    (ids_fit m c.args.a c.args.b c.requires.tried.full)

pub join_face-requires-clause-fresh : goal.join_face-requires-clause-fresh
join_face-requires-clause-fresh g c found =
    let m = g.S.Surface.mesh c.args.mesh.now in
    let sound = g.met.S.Surface.sound c.args.mesh.now in
    let items = c.as_slice-faces.result.now in
    let now = g.S.Surface.mesh c.loop-i.mesh in
    is_fresh m c.args.a c.args.b sound c.requires.apart c.requires.closed (first_is_live m c.args.a c.args.b sound c.requires.tried.edge) c.requires.tried.undoubled now (get_or items c.loop-i.i c.index-faces-i.result) (drop (c.loop-i.i + 1) items)
    (way_at m c.args.a c.args.b now items c.loop-i.i c.index-faces-i.result c.loop-i-test.true c.loop-i.invariant.0)
    (ap (λ (left : List (ℕ × Corners)). has_id_in left now.next_face) (sym c.requires.left) ∙ found)

pub loop-i-preserved : goal.loop-i-preserved
loop-i-preserved g c =
    let m = g.S.Surface.mesh c.args.mesh.now in
    let kept = g.S.Surface.kept in
    let items = c.as_slice-faces.result.now in
    let now = g.S.Surface.mesh c.loop-i.mesh in
    let made = c.in_ok-join_face.ensures.made ∙ ap (λ (left : List (ℕ × Corners)). with_joined_or_gone c.args.b c.args.a left now (get_or items c.loop-i.i c.index-faces-i.result).0) c.requires.left in (
      subst (λ (n : Mesh). OnTheWay m c.args.a c.args.b n (drop (c.loop-i.i + 1) items)) (sym made)
          (goes_on m c.args.a c.args.b (g.met.S.Surface.sound c.args.mesh.now) c.requires.apart now (get_or items c.loop-i.i c.index-faces-i.result) (drop (c.loop-i.i + 1) items)
          (way_at m c.args.a c.args.b now items c.loop-i.i c.index-faces-i.result c.loop-i-test.true c.loop-i.invariant.0)),
      begins_along (kept c.join_face.new.mesh) (kept c.loop-i.mesh) (kept c.args.mesh.now) c.join_face.ensures.marks c.loop-i.invariant.1,
    )

pub returns-in_err-drop_gone-clause-marks : goal.returns-in_err-drop_gone-clause-marks
returns-in_err-drop_gone-clause-marks g c = c.drop_gone.ensures.marks

pub returns-in_err-join_face-clause-marks : goal.returns-in_err-join_face-clause-marks
returns-in_err-join_face-clause-marks g c =
    let kept = g.S.Surface.kept in
    begins_along (kept c.join_face.new.mesh) (kept c.loop-i.mesh) (kept c.args.mesh.now) c.join_face.ensures.marks c.loop-i.invariant.1

pub returns-clause-marks : goal.returns-clause-marks
returns-clause-marks g c = c.loop-i.invariant.1

pub returns-clause-made : goal.returns-clause-made
returns-clause-made g c =
    let m = g.S.Surface.mesh c.args.mesh.now in
    let now = g.S.Surface.mesh c.loop-i.mesh in
    at_end m c.args.a c.args.b (g.met.S.Surface.sound c.args.mesh.now) c.requires.apart now
    (subst (λ (xs : List (ℕ × Corners)). OnTheWay m c.args.a c.args.b now xs) (ended c.as_slice-faces.result.now c.loop-i.i c.loop-i-test.false) c.loop-i.invariant.0)
