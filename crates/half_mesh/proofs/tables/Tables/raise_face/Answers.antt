use Rattle.std.proofs.Common.{ℕ, ◌≡◌, ◌≤◌, ◌/◌, min, Some, None, is_some, refl, sym, ap, subst, ◌∙◌, arith}
use Rattle.std.specs.Option.{option_map}
use Rattle.std.specs.FinMap as finite
use Rattle.mesh_base.specs.declared.ids.Corners.{Corners}
use Rattle.id_table.specs.Stock.{Stock}
use Rattle.grid_base.specs.declared.TheConstants.{FACES_MAX}
use Rattle.mesh_base.specs.Mesh.{Mesh}
use Rattle.half_mesh.specs.States.{Ledger, AreApart, CanRaiseFace, raise_face}
use Rattle.half_mesh.specs.Vertices.{points_in, solid_in}
use Rattle.half_mesh.specs.Tied.{AreTied, AreRings, IsRing, ledger_in, corners_at, faces_in}
use Rattle.half_mesh.proofs.Mapped.{get-map_values, map_values-remove, len-map_values}
use Rattle.half_mesh.proofs.TiedLaws.{dead_key}
use Rattle.half_mesh.proofs.FaceChanges.{have_fans, few-tied}
use Rattle.half_mesh.proofs.Raised.{tied-raised, faces-raised}
use Rattle.half_mesh.proofs.StateLaws.{carry-some}
use Rattle.half_mesh.proofs.Ledgers.{SidesStay, rings-stay, faces-stay, rings-less, outside-dead, state_same, buried_same}
use Rattle.half_mesh.proofs.tables.Tables.raise_face.Goals as goal

pub raise-requires : goal.raise-requires
raise-requires c =
    let i = c.self.inside in
    let f = c.f.inside.0 in
    let r = c.corners_from-a.result in
    let corners : Corners = record { first = r.0; second = r.1; third = r.2 } in
    let key = c.in-Some.key in
    let sides = i.fans.woven.sides in
    let state = (ledger_in i.fans i.keys i.limits i.next_vertex i.next_face).state in
    let can : CanRaiseFace (ledger_in i.fans i.keys i.limits i.next_vertex i.next_face).state f = subst (CanRaiseFace (ledger_in i.fans i.keys i.limits i.next_vertex i.next_face).state) (sym c.f.view_is) (subst (λ s. CanRaiseFace s c.args.f) (sym (ap (λ (x : Ledger). x.state) c.self.view_is)) c.requires.can) in
    let apart : AreApart (ledger_in i.fans i.keys i.limits i.next_vertex i.next_face).state = subst AreApart (sym (ap (λ (x : Ledger). x.state) c.self.view_is)) c.requires.apart in
    let held : finite.get i.keys.buried f ≡ Some key = sym c.in-Some.ensures in
    let there : finite.get (faces_in sides i.keys.buried) f ≡ Some corners = get-map_values (corners_at sides) i.keys.buried f ∙ ap (option_map (corners_at sides)) held ∙ ap Some (sym c.corners_from-a.ensures) in
    let dead : finite.get (faces_in sides i.keys.live) f ≡ None = apart.faces f can.buried in
    let no_key = dead_key i.fans.woven i.keys.live i.limits i.next_vertex i.next_face state.mesh f refl (λ live. let gone = ap is_some dead in cc) in
    let ring : IsRing sides f corners key = subst (λ d. IsRing sides f d key) (sym c.corners_from-a.ensures) (c.self.invariant.buried f key held) in
    let different = apart.different f corners there in
    let room = can.room in
    let long = len-map_values (corners_at sides) i.keys.live in
    record { buried = ap is_some held; new = no_key; few = omega (arith, room, long) }

pub raise_ring-requires : goal.raise_ring-requires
raise_ring-requires c =
    let i = c.self.inside in
    let f = c.f.inside.0 in
    let r = c.corners_from-a.result in
    let corners : Corners = record { first = r.0; second = r.1; third = r.2 } in
    let key = c.in-Some.key in
    let sides = i.fans.woven.sides in
    let state = (ledger_in i.fans i.keys i.limits i.next_vertex i.next_face).state in
    let can : CanRaiseFace (ledger_in i.fans i.keys i.limits i.next_vertex i.next_face).state f = subst (CanRaiseFace (ledger_in i.fans i.keys i.limits i.next_vertex i.next_face).state) (sym c.f.view_is) (subst (λ s. CanRaiseFace s c.args.f) (sym (ap (λ (x : Ledger). x.state) c.self.view_is)) c.requires.can) in
    let apart : AreApart (ledger_in i.fans i.keys i.limits i.next_vertex i.next_face).state = subst AreApart (sym (ap (λ (x : Ledger). x.state) c.self.view_is)) c.requires.apart in
    let held : finite.get i.keys.buried f ≡ Some key = sym c.in-Some.ensures in
    let there : finite.get (faces_in sides i.keys.buried) f ≡ Some corners = get-map_values (corners_at sides) i.keys.buried f ∙ ap (option_map (corners_at sides)) held ∙ ap Some (sym c.corners_from-a.ensures) in
    let dead : finite.get (faces_in sides i.keys.live) f ≡ None = apart.faces f can.buried in
    let no_key = dead_key i.fans.woven i.keys.live i.limits i.next_vertex i.next_face state.mesh f refl (λ live. let gone = ap is_some dead in cc) in
    let ring : IsRing sides f corners key = subst (λ d. IsRing sides f d key) (sym c.corners_from-a.ensures) (c.self.invariant.buried f key held) in
    let different = apart.different f corners there in
    let most = subst (λ (m : Mesh). m.limits.faces ≤ FACES_MAX) (sym (ap (λ (x : Ledger). x.state.mesh) c.self.view_is)) c.requires.sound.limits.greatest.1 in
    let room = can.room in
    record {
      different = different;
      live = have_fans i.fans.woven i.keys.live i.limits i.next_vertex i.next_face state.mesh corners refl (can.live corners there);
      ring = ring;
      outside = λ v. outside-dead i.fans.woven i.keys.live f v c.self.invariant.live dead;
      few = few-tied i.fans.woven i.keys.live i.limits i.next_vertex i.next_face state.mesh refl (omega (arith, room, most)) c.self.invariant.live;
    }

pub invariant_of-self : goal.invariant_of-self
invariant_of-self c =
    let i = c.self.inside in
    let f = c.f.inside.0 in
    let r = c.corners_from-a.result in
    let corners : Corners = record { first = r.0; second = r.1; third = r.2 } in
    let key = c.in-Some.key in
    let sides = i.fans.woven.sides in
    let state = (ledger_in i.fans i.keys i.limits i.next_vertex i.next_face).state in
    let can : CanRaiseFace (ledger_in i.fans i.keys i.limits i.next_vertex i.next_face).state f = subst (CanRaiseFace (ledger_in i.fans i.keys i.limits i.next_vertex i.next_face).state) (sym c.f.view_is) (subst (λ s. CanRaiseFace s c.args.f) (sym (ap (λ (x : Ledger). x.state) c.self.view_is)) c.requires.can) in
    let apart : AreApart (ledger_in i.fans i.keys i.limits i.next_vertex i.next_face).state = subst AreApart (sym (ap (λ (x : Ledger). x.state) c.self.view_is)) c.requires.apart in
    let held : finite.get i.keys.buried f ≡ Some key = sym c.in-Some.ensures in
    let there : finite.get (faces_in sides i.keys.buried) f ≡ Some corners = get-map_values (corners_at sides) i.keys.buried f ∙ ap (option_map (corners_at sides)) held ∙ ap Some (sym c.corners_from-a.ensures) in
    let dead : finite.get (faces_in sides i.keys.live) f ≡ None = apart.faces f can.buried in
    let no_key = dead_key i.fans.woven i.keys.live i.limits i.next_vertex i.next_face state.mesh f refl (λ live. let gone = ap is_some dead in cc) in
    let ring : IsRing sides f corners key = subst (λ d. IsRing sides f d key) (sym c.corners_from-a.ensures) (c.self.invariant.buried f key held) in
    let different = apart.different f corners there in
    let last = c.raise_ring.new.fans.woven in
    record {
      live = subst (AreTied last) (sym (ap (λ (x : Stock ℕ). x.live) c.raise.ensures)) (tied-raised i.fans.woven last i.keys.live f corners key c.self.invariant.live c.raise_ring.ensures.raised ring different no_key);
      buried = subst (AreRings last.sides) (sym (ap (λ (x : Stock ℕ). x.buried) c.raise.ensures)) (rings-stay sides last.sides (finite.remove i.keys.buried f) (λ k side at some. c.raise_ring.ensures.raised.sides k ∙ at) (rings-less sides i.keys.buried f c.self.invariant.buried));
    }

pub returns-in-Some-clause-state : goal.returns-in-Some-clause-state
returns-in-Some-clause-state c =
    let i = c.self.inside in
    let f = c.f.inside.0 in
    let r = c.corners_from-a.result in
    let corners : Corners = record { first = r.0; second = r.1; third = r.2 } in
    let key = c.in-Some.key in
    let sides = i.fans.woven.sides in
    let state = (ledger_in i.fans i.keys i.limits i.next_vertex i.next_face).state in
    let can : CanRaiseFace (ledger_in i.fans i.keys i.limits i.next_vertex i.next_face).state f = subst (CanRaiseFace (ledger_in i.fans i.keys i.limits i.next_vertex i.next_face).state) (sym c.f.view_is) (subst (λ s. CanRaiseFace s c.args.f) (sym (ap (λ (x : Ledger). x.state) c.self.view_is)) c.requires.can) in
    let apart : AreApart (ledger_in i.fans i.keys i.limits i.next_vertex i.next_face).state = subst AreApart (sym (ap (λ (x : Ledger). x.state) c.self.view_is)) c.requires.apart in
    let held : finite.get i.keys.buried f ≡ Some key = sym c.in-Some.ensures in
    let there : finite.get (faces_in sides i.keys.buried) f ≡ Some corners = get-map_values (corners_at sides) i.keys.buried f ∙ ap (option_map (corners_at sides)) held ∙ ap Some (sym c.corners_from-a.ensures) in
    let dead : finite.get (faces_in sides i.keys.live) f ≡ None = apart.faces f can.buried in
    let no_key = dead_key i.fans.woven i.keys.live i.limits i.next_vertex i.next_face state.mesh f refl (λ live. let gone = ap is_some dead in cc) in
    let ring : IsRing sides f corners key = subst (λ d. IsRing sides f d key) (sym c.corners_from-a.ensures) (c.self.invariant.buried f key held) in
    let different = apart.different f corners there in
    let last = c.raise_ring.new.fans.woven in
    let raised = c.raise_ring.ensures.raised in
    let points = ap points_in raised.vertices in
    let solid = ap solid_in raised.vertices in
    let faces = ap (λ (x : Stock ℕ). faces_in last.sides x.live) c.raise.ensures ∙ faces-raised i.fans.woven last i.keys.live f corners key c.self.invariant.live raised ring ∙ sym (carry-some (faces_in sides i.keys.buried) (faces_in sides i.keys.live) f corners there) in
    let stay : SidesStay sides last.sides (finite.remove i.keys.buried f) = λ k side at some. raised.sides k ∙ at in
    let below = c.raise_ring.ensures.kept.0 in
    state_same _ _ _ _
    (λ j. record { points = points j; faces = faces j; solid = solid j; limits = i.limits; next_vertex = i.next_vertex; next_face = i.next_face })
    (buried_same _ _ _ _ _ _
    (ap points_in below)
    (ap (λ (x : Stock ℕ). faces_in last.sides x.buried) c.raise.ensures ∙ faces-stay sides last.sides (finite.remove i.keys.buried f) stay (rings-less sides i.keys.buried f c.self.invariant.buried) ∙ map_values-remove (corners_at sides) i.keys.buried f)
    (ap solid_in below))
    ∙ ap (λ (x : Ledger). raise_face x.state f) c.self.view_is
    ∙ ap (raise_face c.args.self.now.state) c.f.view_is

pub returns-in-Some-clause-spare : goal.returns-in-Some-clause-spare
returns-in-Some-clause-spare c =
    let i = c.self.inside in
    let down = ap (λ (x : Stock ℕ). x.room) c.raise.ensures in
    let seats = c.raise_ring.ensures.kept.1 in
    let room = c.raise_ring.ensures.room in
    (λ j. min (min (seats j) (down j)) (room j / 3)) ∙ ap (λ (x : Ledger). x.spare) c.self.view_is

pub returns-in_default : goal.returns-in_default
returns-in_default c =
    let i = c.self.inside in
    let none : finite.get (faces_in i.fans.woven.sides i.keys.buried) c.f.inside.0 ≡ None = get-map_values (corners_at i.fans.woven.sides) i.keys.buried c.f.inside.0 ∙ ap (option_map (corners_at i.fans.woven.sides)) (sym c.in_default.ensures) in
    let gone = ap is_some (sym (ap (λ (x : Ledger). finite.get x.state.buried.faces c.args.f) c.self.view_is) ∙ ap (finite.get (faces_in i.fans.woven.sides i.keys.buried)) (sym c.f.view_is) ∙ none) in
    let there = c.requires.can.buried in
    absurd (cc)
