use Rattle.std.proofs.Common.{◌≡◌, true, false, Some, sym, subst, ap, is_some, ◌∙◌}
use Rattle.std.specs.Option.{unwrap_or}
use Rattle.mesh_base.specs.declared.ids.Corners.{Corners}
use Rattle.edit_base.specs.Edges.{renamed}
use Rattle.mesh_base.specs.Changes.{corners_of, with_face, without_face, IsFresh}
use Rattle.edit_collapse.proofs.Spent.{fresh_again, room_after, listed_corners, joined_there, joined_used_up}
use Rattle.edit_collapse.specs.Tried.{has_id_in, AreRising}
use Rattle.edit_collapse.proofs.changes.join_face.Goals as goal

pub has_id-requires : goal.has_id-requires
has_id-requires g c = subst AreRising (sym c.as_slice.ensures) c.requires.rising

pub make_again-requires-clause-live : goal.make_again-requires-clause-live
make_again-requires-clause-live g c = ap is_some (listed_corners _ c.in-Some.list (sym c.in-Some.is ∙ c.corners.ensures)).1

pub make_again-requires-clause-fresh : goal.make_again-requires-clause-fresh
make_again-requires-clause-fresh g c =
    let m = g.S.Surface.mesh c.args.mesh.now in
    let found = listed_corners _ c.in-Some.list (sym c.in-Some.is ∙ c.corners.ensures) in
    let there : has_id_in c.args.left.now m.next_face ≡ true = (λ i. has_id_in (sym c.as_slice.ensures i) (sym c.next_face.ensures i)) ∙ sym c.has_id.ensures ∙ c.if-has_id.true in
    let same = ap corners_of c.list.ensures ∙ c.renamed.ensures ∙ ap (renamed c.args.b c.args.a) (c.of.ensures ∙ found.2 ∙ sym (ap (λ o. unwrap_or o (record { first = 0; second = 0; third = 0 })) found.1)) in
    subst (λ (d : Corners). IsFresh (without_face m c.args.f) d) (sym same) (c.requires.fresh there)

pub make_again-requires-clause-room : goal.make_again-requires-clause-room
make_again-requires-clause-room g c =
    let m = g.S.Surface.mesh c.args.mesh.now in
    let found = listed_corners _ c.in-Some.list (sym c.in-Some.is ∙ c.corners.ensures) in
    room_after m c.args.f (g.met.S.Surface.sound c.args.mesh.now) (ap is_some found.1) c.requires.room

pub use_up_id-requires-clause-live : goal.use_up_id-requires-clause-live
use_up_id-requires-clause-live g c = ap is_some (listed_corners _ c.in-Some.list (sym c.in-Some.is ∙ c.corners.ensures)).1

pub use_up_id-requires-clause-fresh : goal.use_up_id-requires-clause-fresh
use_up_id-requires-clause-fresh g c =
    let m = g.S.Surface.mesh c.args.mesh.now in
    let found = listed_corners _ c.in-Some.list (sym c.in-Some.is ∙ c.corners.ensures) in
    fresh_again m c.args.f (corners_of c.in-Some.list) (g.met.S.Surface.sound c.args.mesh.now) (found.1 ∙ ap Some (sym found.2))

pub use_up_id-requires-clause-room : goal.use_up_id-requires-clause-room
use_up_id-requires-clause-room g c =
    let m = g.S.Surface.mesh c.args.mesh.now in
    let found = listed_corners _ c.in-Some.list (sym c.in-Some.is ∙ c.corners.ensures) in
    room_after m c.args.f (g.met.S.Surface.sound c.args.mesh.now) (ap is_some found.1) c.requires.room

pub returns-in_ok-make_again-clause-made : goal.returns-in_ok-make_again-clause-made
returns-in_ok-make_again-clause-made g c =
    let m = g.S.Surface.mesh c.args.mesh.now in
    let found = listed_corners _ c.in-Some.list (sym c.in-Some.is ∙ c.corners.ensures) in
    let there : has_id_in c.args.left.now m.next_face ≡ true = (λ i. has_id_in (sym c.as_slice.ensures i) (sym c.next_face.ensures i)) ∙ sym c.has_id.ensures ∙ c.if-has_id.true in
    let same = ap corners_of c.list.ensures ∙ c.renamed.ensures ∙ ap (renamed c.args.b c.args.a) (c.of.ensures ∙ found.2 ∙ sym (ap (λ o. unwrap_or o (record { first = 0; second = 0; third = 0 })) found.1)) in
    c.in_ok-make_again.ensures.made ∙ ap (with_face (without_face m c.args.f)) same ∙ joined_there m c.args.f found.0 c.args.b c.args.a c.args.left.now found.1 there

pub returns-in_ok-use_up_id-clause-made : goal.returns-in_ok-use_up_id-clause-made
returns-in_ok-use_up_id-clause-made g c =
    let m = g.S.Surface.mesh c.args.mesh.now in
    let found = listed_corners _ c.in-Some.list (sym c.in-Some.is ∙ c.corners.ensures) in
    let absent : has_id_in c.args.left.now m.next_face ≡ false = (λ i. has_id_in (sym c.as_slice.ensures i) (sym c.next_face.ensures i)) ∙ sym c.has_id.ensures ∙ c.if-has_id.false in
    c.in_ok-use_up_id.ensures.made ∙ joined_used_up m c.args.f found.0 c.args.b c.args.a c.args.left.now found.1 absent

pub returns-in_err-make_again-clause-marks : goal.returns-in_err-make_again-clause-marks
returns-in_err-make_again-clause-marks g c = c.make_again.ensures.marks

pub returns-in_err-use_up_id-clause-marks : goal.returns-in_err-use_up_id-clause-marks
returns-in_err-use_up_id-clause-marks g c = c.use_up_id.ensures.marks
