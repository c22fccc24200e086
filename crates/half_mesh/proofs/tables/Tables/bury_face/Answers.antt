use Rattle.std.proofs.Common.{ℕ, ◌≡◌, ◌/◌, min, Some, None, is_some, refl, sym, ap, subst, ◌∙◌}
use Rattle.std.specs.Option.{option_map}
use Rattle.std.specs.FinMap as finite
use Rattle.mesh_base.specs.declared.ids.Corners.{Corners}
use Rattle.mesh_base.specs.Changes.{without_face}
use Rattle.id_table.specs.Stock.{Stock}
use Rattle.half_mesh.specs.States.{Ledger, bury_face}
use Rattle.half_mesh.specs.Vertices.{points_in, solid_in}
use Rattle.half_mesh.specs.Tied.{AreTied, AreRings, woven_mesh, corners_at, faces_in}
use Rattle.half_mesh.proofs.Mapped.{get-map_values, map_values-insert}
use Rattle.half_mesh.proofs.FaceChanges.{have_fans, tied-without_face, faces-without_face}
use Rattle.half_mesh.proofs.StateLaws.{carry-some}
use Rattle.half_mesh.proofs.Ledgers.{SidesStay, rings-stay, faces-stay, rings-more, state_same, buried_same}
use Rattle.half_mesh.proofs.tables.Tables.bury_face.Goals as goal

pub bury_ring-requires-clause-different : goal.bury_ring-requires-clause-different
bury_ring-requires-clause-different c =
    let i = c.self.inside in
    let f = c.f.inside.0 in
    let r = c.corners_from-a.result in
    let corners : Corners = record { first = r.0; second = r.1; third = r.2 } in
    let there : finite.get (faces_in i.fans.woven.sides i.keys.live) f ≡ Some corners = get-map_values (corners_at i.fans.woven.sides) i.keys.live f ∙ ap (option_map (corners_at i.fans.woven.sides)) (sym c.in-Some.ensures) ∙ ap Some (sym c.corners_from-a.ensures) in
    let at : finite.get c.args.self.now.state.mesh.faces f ≡ Some corners = sym (ap (λ (x : Ledger). finite.get x.state.mesh.faces f) c.self.view_is) ∙ there in
    c.requires.sound.is_mesh.different_corners f corners at

pub bury_ring-requires-clause-live : goal.bury_ring-requires-clause-live
bury_ring-requires-clause-live c =
    let i = c.self.inside in
    let f = c.f.inside.0 in
    let r = c.corners_from-a.result in
    let corners : Corners = record { first = r.0; second = r.1; third = r.2 } in
    let there : finite.get (faces_in i.fans.woven.sides i.keys.live) f ≡ Some corners = get-map_values (corners_at i.fans.woven.sides) i.keys.live f ∙ ap (option_map (corners_at i.fans.woven.sides)) (sym c.in-Some.ensures) ∙ ap Some (sym c.corners_from-a.ensures) in
    let at : finite.get c.args.self.now.state.mesh.faces f ≡ Some corners = sym (ap (λ (x : Ledger). finite.get x.state.mesh.faces f) c.self.view_is) ∙ there in
    have_fans i.fans.woven i.keys.live i.limits i.next_vertex i.next_face c.args.self.now.state.mesh corners (ap (λ (x : Ledger). x.state.mesh) c.self.view_is) (c.requires.sound.is_mesh.live_corners f corners at)

pub invariant_of-self : goal.invariant_of-self
invariant_of-self c =
    let i = c.self.inside in
    let f = c.f.inside.0 in
    let r = c.corners_from-a.result in
    let corners : Corners = record { first = r.0; second = r.1; third = r.2 } in
    let key = c.in-Some.key in
    let held : finite.get i.keys.live f ≡ Some key = sym c.in-Some.ensures in
    let there : finite.get (faces_in i.fans.woven.sides i.keys.live) f ≡ Some corners = get-map_values (corners_at i.fans.woven.sides) i.keys.live f ∙ ap (option_map (corners_at i.fans.woven.sides)) held ∙ ap Some (sym c.corners_from-a.ensures) in
    let last = c.bury_ring.new.fans.woven in
    let down = c.bury.ensures key held in
    record {
      live = subst (AreTied last) (sym (ap (λ (x : Stock ℕ). x.live) down)) (tied-without_face i.fans.woven last i.keys.live f corners c.self.invariant.live c.bury_ring.ensures.lost there);
      buried = subst (AreRings last.sides) (sym (ap (λ (x : Stock ℕ). x.buried) down)) (rings-stay i.fans.woven.sides last.sides (finite.insert i.keys.buried f key) (λ k side at some. c.bury_ring.ensures.sides k ∙ at) (rings-more i.fans.woven.sides i.keys.buried f key c.self.invariant.buried (c.self.invariant.live.rings f key held)));
    }

pub returns-in-Some-clause-state : goal.returns-in-Some-clause-state
returns-in-Some-clause-state c =
    let i = c.self.inside in
    let f = c.f.inside.0 in
    let r = c.corners_from-a.result in
    let corners : Corners = record { first = r.0; second = r.1; third = r.2 } in
    let key = c.in-Some.key in
    let held : finite.get i.keys.live f ≡ Some key = sym c.in-Some.ensures in
    let there : finite.get (faces_in i.fans.woven.sides i.keys.live) f ≡ Some corners = get-map_values (corners_at i.fans.woven.sides) i.keys.live f ∙ ap (option_map (corners_at i.fans.woven.sides)) held ∙ ap Some (sym c.corners_from-a.ensures) in
    let sides = i.fans.woven.sides in
    let last = c.bury_ring.new.fans.woven in
    let down = c.bury.ensures key held in
    let lost = c.bury_ring.ensures.lost in
    let points = ap points_in lost.vertices in
    let solid = ap solid_in lost.vertices in
    let faces = faces-without_face i.fans.woven last i.keys.live f corners c.self.invariant.live lost in
    let made : woven_mesh last (finite.remove i.keys.live f) i.limits i.next_vertex i.next_face ≡ without_face (woven_mesh i.fans.woven i.keys.live i.limits i.next_vertex i.next_face) f =
    λ j. record { points = points j; faces = faces j; solid = solid j; limits = i.limits; next_vertex = i.next_vertex; next_face = i.next_face } in
    let stay : SidesStay sides last.sides (finite.insert i.keys.buried f key) = λ k side at some. c.bury_ring.ensures.sides k ∙ at in
    let rings = rings-more sides i.keys.buried f key c.self.invariant.buried (c.self.invariant.live.rings f key held) in
    let below = c.bury_ring.ensures.kept.0 in
    state_same _ _ _ _
    (ap (λ k. woven_mesh last k i.limits i.next_vertex i.next_face) (ap (λ (x : Stock ℕ). x.live) down) ∙ made)
    (buried_same _ _ _ _ _ _
    (ap points_in below)
    (ap (λ (x : Stock ℕ). faces_in last.sides x.buried) down
    ∙ faces-stay sides last.sides (finite.insert i.keys.buried f key) stay rings
    ∙ map_values-insert (corners_at sides) (corners_at sides) i.keys.buried f key corners (sym c.corners_from-a.ensures) (λ q z apart at. refl)
    ∙ sym (carry-some (faces_in sides i.keys.live) (faces_in sides i.keys.buried) f corners there))
    (ap solid_in below))
    ∙ ap (λ (x : Ledger). bury_face x.state f) c.self.view_is
    ∙ ap (bury_face c.args.self.now.state) c.f.view_is

pub returns-in-Some-clause-spare : goal.returns-in-Some-clause-spare
returns-in-Some-clause-spare c =
    let i = c.self.inside in
    let down = ap (λ (x : Stock ℕ). x.room) (c.bury.ensures c.in-Some.key (sym c.in-Some.ensures)) in
    let seats = c.bury_ring.ensures.kept.1 in
    let room = c.bury_ring.ensures.room in
    (λ j. min (min (seats j) (down j)) (room j / 3)) ∙ ap (λ (x : Ledger). x.spare) c.self.view_is

pub returns-in_default : goal.returns-in_default
returns-in_default c =
    let i = c.self.inside in
    let none : finite.get (faces_in i.fans.woven.sides i.keys.live) c.f.inside.0 ≡ None = get-map_values (corners_at i.fans.woven.sides) i.keys.live c.f.inside.0 ∙ ap (option_map (corners_at i.fans.woven.sides)) (sym c.in_default.ensures) in
    let gone = ap is_some (sym (ap (λ (x : Ledger). finite.get x.state.mesh.faces c.args.f) c.self.view_is) ∙ ap (finite.get (faces_in i.fans.woven.sides i.keys.live)) (sym c.f.view_is) ∙ none) in
    let live = c.requires.live in
    absurd (cc)
