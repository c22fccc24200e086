use Rattle.std.proofs.Common.{ℕ, ◌≡◌, ◌+◌, sym, ap, subst, ◌∙◌, arith}
use Rattle.std.specs.FinMap as finite
use Rattle.mesh_base.specs.declared.ids.Corners.{Corners}
use Rattle.mesh_base.specs.Mesh.{Mesh}
use Rattle.mesh_base.specs.Changes.{with_face}
use Rattle.mesh_base.proofs.Finite.{live_inserted}
use Rattle.half_mesh.specs.Ground.{Ground}
use Rattle.id_table.specs.Stock.{Stock}
use Rattle.half_mesh.specs.Tied.{Keys, AreTied, AreRings, woven_mesh, corners_at, faces_in}
use Rattle.half_mesh.specs.Fans.{side_at}
use Rattle.half_mesh.proofs.Ledgers.{SidesStay, rings-stay, faces-stay, state_same, buried_same}
use Rattle.half_mesh.specs.Vertices.{points_in, solid_in}
use Rattle.half_mesh.proofs.Mapped.{len-map_values}
use Rattle.half_mesh.proofs.TiedLaws.{dead_key}
use Rattle.half_mesh.proofs.FaceChanges.{tied-room, mesh-room, have_fans, newest-tied, few-tied, faces_below, tied-with_face, faces-with_face, insert_twice}
use Rattle.half_mesh.specs.States.{Ledger}
use Rattle.half_mesh.proofs.tables.Tables.add_face.Goals as goal

pub put_ring-key-requires-clause-live : goal.put_ring-key-requires-clause-live
put_ring-key-requires-clause-live c =
    let i = c.self.inside in
    let view = mesh-room i.fans.woven c.reserve.new.self.woven i.keys.live i.limits i.next_vertex i.next_face c.args.self.now.state.mesh (ap (λ (x : Ground). x.woven) c.reserve.ensures.kept) (ap (λ (x : Ledger). x.state.mesh) c.self.view_is) in
    let corners : Corners = record { first = c.a.inside.0; second = c.b.inside.0; third = c.c.inside.0 } in
    have_fans c.reserve.new.self.woven i.keys.live i.limits i.next_vertex i.next_face c.args.self.now.state.mesh corners view (rw (c.a.view_is, c.b.view_is, c.c.view_is) c.requires.live)

pub put_ring-key-requires-clause-newest : goal.put_ring-key-requires-clause-newest
put_ring-key-requires-clause-newest c =
    let i = c.self.inside in
    newest-tied c.reserve.new.self.woven i.keys.live i.limits i.next_vertex i.next_face c.args.self.now.state.mesh (mesh-room i.fans.woven c.reserve.new.self.woven i.keys.live i.limits i.next_vertex i.next_face c.args.self.now.state.mesh (ap (λ (x : Ground). x.woven) c.reserve.ensures.kept) (ap (λ (x : Ledger). x.state.mesh) c.self.view_is)) c.requires.ids (tied-room i.fans.woven c.reserve.new.self.woven i.keys.live (ap (λ (x : Ground). x.woven) c.reserve.ensures.kept) c.self.invariant.live)

pub put_ring-key-requires-clause-few : goal.put_ring-key-requires-clause-few
put_ring-key-requires-clause-few c =
    let i = c.self.inside in
    few-tied c.reserve.new.self.woven i.keys.live i.limits i.next_vertex i.next_face c.args.self.now.state.mesh (mesh-room i.fans.woven c.reserve.new.self.woven i.keys.live i.limits i.next_vertex i.next_face c.args.self.now.state.mesh (ap (λ (x : Ground). x.woven) c.reserve.ensures.kept) (ap (λ (x : Ledger). x.state.mesh) c.self.view_is)) c.requires.few (tied-room i.fans.woven c.reserve.new.self.woven i.keys.live (ap (λ (x : Ground). x.woven) c.reserve.ensures.kept) c.self.invariant.live)

pub set-requires : goal.set-requires
set-requires c = rw (ap (λ (x : Stock ℕ). x.live) c.in_ok-insert.ensures.ok) (live_inserted c.self.inside.keys.live c.self.inside.next_face 0)

pub invariant_of-self-2 : goal.invariant_of-self-2
invariant_of-self-2 c =
    let i = c.self.inside in
    let w = c.reserve.new.self.woven in
    let view = mesh-room i.fans.woven w i.keys.live i.limits i.next_vertex i.next_face c.args.self.now.state.mesh (ap (λ (x : Ground). x.woven) c.reserve.ensures.kept) (ap (λ (x : Ledger). x.state.mesh) c.self.view_is) in
    let t = tied-room i.fans.woven w i.keys.live (ap (λ (x : Ground). x.woven) c.reserve.ensures.kept) c.self.invariant.live in
    let made = tied-with_face w c.put_ring-key.new.fans.woven i.keys.live i.next_face _ c.put_ring-key.result t c.put_ring-key.ensures.ring (faces_below w i.keys.live i.limits i.next_vertex i.next_face c.args.self.now.state.mesh view c.requires.ids) in
    let keys : c.set.new.self.live ≡ finite.insert i.keys.live i.next_face c.put_ring-key.result = (ap (λ (x : Stock ℕ). x.live) c.set.ensures) ∙ ap (λ (m : Keys). finite.insert m i.next_face c.put_ring-key.result) (ap (λ (x : Stock ℕ). x.live) c.in_ok-insert.ensures.ok) ∙ insert_twice i.keys.live i.next_face 0 c.put_ring-key.result in
    let down : c.set.new.self.buried ≡ i.keys.buried = ap (λ (x : Stock ℕ). x.buried) c.set.ensures ∙ ap (λ (x : Stock ℕ). x.buried) c.in_ok-insert.ensures.ok in
    let same : w.sides ≡ i.fans.woven.sides = ap (λ (x : Ground). x.woven.sides) c.reserve.ensures.kept in
    let stay : SidesStay i.fans.woven.sides c.put_ring-key.new.fans.woven.sides i.keys.buried = λ k side at some. c.put_ring-key.ensures.ring.sides k side (ap (λ ss. side_at ss k) same ∙ at) in
    record {
      live = subst (AreTied c.put_ring-key.new.fans.woven) (sym keys) made;
      buried = subst (AreRings c.put_ring-key.new.fans.woven.sides) (sym down) (rings-stay i.fans.woven.sides c.put_ring-key.new.fans.woven.sides i.keys.buried stay c.self.invariant.buried);
    }

pub returns-clause-ok : goal.returns-clause-ok
returns-clause-ok c =
    let i = c.self.inside in
    let w = c.reserve.new.self.woven in
    let x = c.put_ring-key.new.fans.woven in
    let t = tied-room i.fans.woven w i.keys.live (ap (λ (x : Ground). x.woven) c.reserve.ensures.kept) c.self.invariant.live in
    let corners : Corners = record { first = c.a.inside.0; second = c.b.inside.0; third = c.c.inside.0 } in
    let keys : c.set.new.self.live ≡ finite.insert i.keys.live i.next_face c.put_ring-key.result = (ap (λ (x : Stock ℕ). x.live) c.set.ensures) ∙ ap (λ (m : Keys). finite.insert m i.next_face c.put_ring-key.result) (ap (λ (x : Stock ℕ). x.live) c.in_ok-insert.ensures.ok) ∙ insert_twice i.keys.live i.next_face 0 c.put_ring-key.result in
    let faces = faces-with_face w x i.keys.live i.next_face corners c.put_ring-key.result t c.put_ring-key.ensures.ring in
    let points = ap points_in c.put_ring-key.ensures.ring.vertices in
    let solid = ap solid_in c.put_ring-key.ensures.ring.vertices in
    let made : woven_mesh x (finite.insert i.keys.live i.next_face c.put_ring-key.result) i.limits i.next_vertex (i.next_face + 1) ≡ with_face (woven_mesh w i.keys.live i.limits i.next_vertex i.next_face) corners =
    λ j. record { points = points j; faces = faces j; solid = solid j; limits = i.limits; next_vertex = i.next_vertex; next_face = i.next_face + 1 } in
    let down : c.set.new.self.buried ≡ i.keys.buried = ap (λ (x : Stock ℕ). x.buried) c.set.ensures ∙ ap (λ (x : Stock ℕ). x.buried) c.in_ok-insert.ensures.ok in
    let same : w.sides ≡ i.fans.woven.sides = ap (λ (x : Ground). x.woven.sides) c.reserve.ensures.kept in
    let stay : SidesStay i.fans.woven.sides x.sides i.keys.buried = λ k side at some. c.put_ring-key.ensures.ring.sides k side (ap (λ ss. side_at ss k) same ∙ at) in
    let below : c.put_ring-key.new.fans.buried ≡ i.fans.buried = c.put_ring-key.ensures.kept.0 ∙ ap (λ (x : Ground). x.buried) c.reserve.ensures.kept in
    state_same _ _ _ _
    (ap (λ k. woven_mesh x k i.limits i.next_vertex (i.next_face + 1)) keys
    ∙ made
    ∙ ap (λ m. with_face m corners) (mesh-room i.fans.woven w i.keys.live i.limits i.next_vertex i.next_face c.args.self.now.state.mesh (ap (λ (x : Ground). x.woven) c.reserve.ensures.kept) (ap (λ (x : Ledger). x.state.mesh) c.self.view_is))
    ∙ (λ j. with_face c.args.self.now.state.mesh (record { first = c.a.view_is j; second = c.b.view_is j; third = c.c.view_is j })))
    (buried_same _ _ _ _ _ _ (ap points_in below) (ap (faces_in x.sides) down ∙ faces-stay i.fans.woven.sides x.sides i.keys.buried stay c.self.invariant.buried) (ap solid_in below) ∙ ap (λ (x : Ledger). x.state.buried) c.self.view_is)

pub insert-requires : goal.insert-requires
insert-requires c =
    let i = c.self.inside in
    let next = ap (λ (m : Mesh). m.next_face) (ap (λ (x : Ledger). x.state.mesh) c.self.view_is) in
    let long = len-map_values (corners_at i.fans.woven.sides) i.keys.live in
    let same = ap (λ (m : Mesh). finite.len m.faces) (ap (λ (x : Ledger). x.state.mesh) c.self.view_is) in
    let few = c.requires.few in
    record {
      new = dead_key i.fans.woven i.keys.live i.limits i.next_vertex i.next_face c.args.self.now.state.mesh i.next_face (ap (λ (x : Ledger). x.state.mesh) c.self.view_is) (λ live. let b = c.requires.ids i.next_face live in omega arith);
      few = omega (arith, long, same, few);
    }
