use Rattle.std.proofs.Common.{ℕ, ◌≡◌, cond, Some, None, IsSome, is_some, sym, ap, subst, ◌∙◌}
use Rattle.std.specs.Option.{option_map}
use Rattle.std.specs.Ordering.{nat_cmp}
use Rattle.std.specs.Cmp.{nat_cmp_total, eq_by_cmp_equiv}
use Rattle.std.specs.FinMap as finite
use Rattle.std.specs.FinMap.{FinMap, get-remove}
use Rattle.mesh_base.specs.declared.ids.Corners.{Corners}
use Rattle.mesh_base.specs.Changes.{without_face}
use Rattle.id_table.specs.Stock.{Stock}
use Rattle.half_mesh.specs.Tied.{AreTied, AreRings, woven_mesh, corners_at, faces_in, ledger_in}
use Rattle.half_mesh.specs.States.{AreApart, Ledger}
use Rattle.half_mesh.specs.Vertices.{points_in, solid_in}
use Rattle.half_mesh.proofs.Ledgers.{SidesStay, rings-stay, faces-stay, apart-key, outside-dead, state_same, buried_same}
use Rattle.half_mesh.proofs.Mapped.{get-map_values}
use Rattle.half_mesh.proofs.FaceChanges.{have_fans, lost-freed, tied-without_face, faces-without_face}
use Rattle.half_mesh.proofs.tables.Tables.drop_face.Goals as goal

removed : {X : Type 0} (m : FinMap nat_cmp X) (k : ℕ) → finite.get (finite.remove m k) k ≡ None
removed m k = get-remove nat_cmp_total m k k ∙ ap (λ b. cond b None (finite.get m k)) ((eq_by_cmp_equiv nat_cmp_total).refl k)

pub bury_ring-requires-clause-different : goal.bury_ring-requires-clause-different
bury_ring-requires-clause-different c =
    let i = c.self.inside in
    let f = c.f.inside.0 in
    let r = c.corners_from-a.result in
    let corners : Corners = record { first = r.0; second = r.1; third = r.2 } in
    let there : finite.get (faces_in i.fans.woven.sides i.keys.live) f ≡ Some corners = get-map_values (corners_at i.fans.woven.sides) i.keys.live f ∙ ap (option_map (corners_at i.fans.woven.sides)) (sym c.in-Some.ensures) ∙ ap Some (sym c.corners_from-a.ensures) in
    let at : finite.get c.args.self.now.state.mesh.faces f ≡ Some corners = sym (ap (λ (x : Ledger). finite.get x.state.mesh.faces f) c.self.view_is) ∙ there in
    c.requires.sound.is_mesh.different_corners f corners at

pub bury_ring-requires-clause-live : goal.bury_ring-requires-clause-live
bury_ring-requires-clause-live c =
    let i = c.self.inside in
    let f = c.f.inside.0 in
    let r = c.corners_from-a.result in
    let corners : Corners = record { first = r.0; second = r.1; third = r.2 } in
    let there : finite.get (faces_in i.fans.woven.sides i.keys.live) f ≡ Some corners = get-map_values (corners_at i.fans.woven.sides) i.keys.live f ∙ ap (option_map (corners_at i.fans.woven.sides)) (sym c.in-Some.ensures) ∙ ap Some (sym c.corners_from-a.ensures) in
    let at : finite.get c.args.self.now.state.mesh.faces f ≡ Some corners = sym (ap (λ (x : Ledger). finite.get x.state.mesh.faces f) c.self.view_is) ∙ there in
    have_fans i.fans.woven i.keys.live i.limits i.next_vertex i.next_face c.args.self.now.state.mesh corners (ap (λ (x : Ledger). x.state.mesh) c.self.view_is) (c.requires.sound.is_mesh.live_corners f corners at)

pub free_ring-requires : goal.free_ring-requires
free_ring-requires c = λ v.
    let i = c.self.inside in
    let f = c.f.inside.0 in
    let r = c.corners_from-a.result in
    let corners : Corners = record { first = r.0; second = r.1; third = r.2 } in
    let there : finite.get (faces_in i.fans.woven.sides i.keys.live) f ≡ Some corners = get-map_values (corners_at i.fans.woven.sides) i.keys.live f ∙ ap (option_map (corners_at i.fans.woven.sides)) (sym c.in-Some.ensures) ∙ ap Some (sym c.corners_from-a.ensures) in
    let x = c.bury_ring.new.fans.woven in
    let lost = c.bury_ring.ensures.lost in
    outside-dead x (finite.remove i.keys.live f) f v
    (tied-without_face i.fans.woven x i.keys.live f corners c.self.invariant.live lost there)
    (ap (λ m. finite.get m f) (faces-without_face i.fans.woven x i.keys.live f corners c.self.invariant.live lost) ∙ removed (faces_in i.fans.woven.sides i.keys.live) f)

pub invariant_of-self : goal.invariant_of-self
invariant_of-self c =
    let i = c.self.inside in
    let f = c.f.inside.0 in
    let r = c.corners_from-a.result in
    let corners : Corners = record { first = r.0; second = r.1; third = r.2 } in
    let there : finite.get (faces_in i.fans.woven.sides i.keys.live) f ≡ Some corners = get-map_values (corners_at i.fans.woven.sides) i.keys.live f ∙ ap (option_map (corners_at i.fans.woven.sides)) (sym c.in-Some.ensures) ∙ ap Some (sym c.corners_from-a.ensures) in
    let last = c.free_ring.new.fans.woven in
    let lost = lost-freed i.fans.woven c.bury_ring.new.fans.woven last f corners c.bury_ring.ensures.lost c.free_ring.ensures.fans c.free_ring.ensures.sides in
    let apart : AreApart (ledger_in i.fans i.keys i.limits i.next_vertex i.next_face).state = subst AreApart (sym (ap (λ (x : Ledger). x.state) c.self.view_is)) c.requires.apart in
    let stay : SidesStay i.fans.woven.sides last.sides i.keys.buried = λ k side at some.
    lost.sides k side at (λ of_f. apart-key i.keys.live i.keys.buried i.fans.woven.sides f (apart.faces f) (ap is_some (sym c.in-Some.ensures)) (subst (λ g. IsSome (finite.get i.keys.buried g)) of_f some)) in
    let down : c.remove.new.self.buried ≡ i.keys.buried = ap (λ (x : Stock ℕ). x.buried) c.remove.ensures.kept in
    record {
      live = subst (AreTied last) (sym (ap (λ (x : Stock ℕ). x.live) c.remove.ensures.kept)) (tied-without_face i.fans.woven last i.keys.live f corners c.self.invariant.live lost there);
      buried = subst (AreRings last.sides) (sym down) (rings-stay i.fans.woven.sides last.sides i.keys.buried stay c.self.invariant.buried);
    }

pub returns-in-Some-clause-state : goal.returns-in-Some-clause-state
returns-in-Some-clause-state c =
    let i = c.self.inside in
    let f = c.f.inside.0 in
    let r = c.corners_from-a.result in
    let corners : Corners = record { first = r.0; second = r.1; third = r.2 } in
    let last = c.free_ring.new.fans.woven in
    let lost = lost-freed i.fans.woven c.bury_ring.new.fans.woven last f corners c.bury_ring.ensures.lost c.free_ring.ensures.fans c.free_ring.ensures.sides in
    let points = ap points_in lost.vertices in
    let solid = ap solid_in lost.vertices in
    let faces = faces-without_face i.fans.woven last i.keys.live f corners c.self.invariant.live lost in
    let made : woven_mesh last (finite.remove i.keys.live f) i.limits i.next_vertex i.next_face ≡ without_face (woven_mesh i.fans.woven i.keys.live i.limits i.next_vertex i.next_face) f =
    λ j. record { points = points j; faces = faces j; solid = solid j; limits = i.limits; next_vertex = i.next_vertex; next_face = i.next_face } in
    let apart : AreApart (ledger_in i.fans i.keys i.limits i.next_vertex i.next_face).state = subst AreApart (sym (ap (λ (x : Ledger). x.state) c.self.view_is)) c.requires.apart in
    let stay : SidesStay i.fans.woven.sides last.sides i.keys.buried = λ k side at some.
    lost.sides k side at (λ of_f. apart-key i.keys.live i.keys.buried i.fans.woven.sides f (apart.faces f) (ap is_some (sym c.in-Some.ensures)) (subst (λ g. IsSome (finite.get i.keys.buried g)) of_f some)) in
    let down : c.remove.new.self.buried ≡ i.keys.buried = ap (λ (x : Stock ℕ). x.buried) c.remove.ensures.kept in
    let below = c.free_ring.ensures.kept.0 ∙ c.bury_ring.ensures.kept.0 in
    state_same _ _ _ _
    (ap (λ k. woven_mesh last k i.limits i.next_vertex i.next_face) (ap (λ (x : Stock ℕ). x.live) c.remove.ensures.kept)
    ∙ made
    ∙ ap (λ m. without_face m f) (ap (λ (x : Ledger). x.state.mesh) c.self.view_is)
    ∙ ap (λ g. without_face c.args.self.now.state.mesh g) c.f.view_is)
    (buried_same _ _ _ _ _ _ (ap points_in below) (ap (faces_in last.sides) down ∙ faces-stay i.fans.woven.sides last.sides i.keys.buried stay c.self.invariant.buried) (ap solid_in below) ∙ ap (λ (x : Ledger). x.state.buried) c.self.view_is)

pub returns-in_default : goal.returns-in_default
returns-in_default c =
    let i = c.self.inside in
    let none : finite.get (faces_in i.fans.woven.sides i.keys.live) c.f.inside.0 ≡ None = get-map_values (corners_at i.fans.woven.sides) i.keys.live c.f.inside.0 ∙ ap (option_map (corners_at i.fans.woven.sides)) (sym c.in_default.ensures) in
    let gone = ap is_some (sym (ap (λ m. finite.get m.faces c.args.f) (ap (λ (x : Ledger). x.state.mesh) c.self.view_is)) ∙ ap (finite.get (faces_in i.fans.woven.sides i.keys.live)) (sym c.f.view_is) ∙ none) in
    let live = c.requires.live in
    absurd (cc)
