use Rattle.std.proofs.Common.{false, refl, ap, sym, ◌∙◌, ◌+◌, arith}
use Rattle.std.specs.FinMap as finite
use Rattle.mesh_base.specs.Mesh.{Mesh}
use Rattle.half_mesh.specs.Ground.{Ground}
use Rattle.half_mesh.specs.Fans.{bare_fan}
use Rattle.half_mesh.proofs.Vertices.{len-points}
use Rattle.half_mesh.proofs.VertexChanges.{mesh-vertex_made}
use Rattle.half_mesh.proofs.TiedLaws.{tied-fan, dead_spokes, dead_fan}
use Rattle.half_mesh.specs.States.{Ledger}
use Rattle.half_mesh.specs.Tied.{woven_mesh, buried_in}
use Rattle.mesh_base.specs.Changes.{with_vertex}
use Rattle.half_mesh.proofs.Ledgers.{state_same}
use Rattle.half_mesh.proofs.tables.Tables.add_vertex.Goals as goal

pub invariant_of-self-2 : goal.invariant_of-self-2
invariant_of-self-2 c =
    let i = c.self.inside in
    let next = ap (λ m. m.next_vertex) (ap (λ (x : Ledger). x.state.mesh) c.self.view_is) in
    let none = dead_spokes i.fans.woven i.keys.live i.limits i.next_vertex i.next_face c.args.self.now.state.mesh i.next_vertex (ap (λ (x : Ledger). x.state.mesh) c.self.view_is) (λ live. let b = c.requires.ids i.next_vertex live in omega arith) in
    let woven = ap (λ (x : Ground). x.woven) c.in_ok-add.ensures.ok in
    record {
      live = rw woven (tied-fan i.fans.woven i.keys.live i.next_vertex (bare_fan (record { point = c.args.p; solid = false })) c.self.invariant.live (sym none));
      buried = rw woven c.self.invariant.buried;
    }

pub returns-clause-ok : goal.returns-clause-ok
returns-clause-ok c =
    let i = c.self.inside in
    let next = ap (λ (m : Mesh). m.next_vertex) (ap (λ (x : Ledger). x.state.mesh) c.self.view_is) in
    let none = dead_fan i.fans.woven i.keys.live i.limits i.next_vertex i.next_face c.args.self.now.state.mesh i.next_vertex (ap (λ (x : Ledger). x.state.mesh) c.self.view_is) (λ live. let b = c.requires.ids i.next_vertex live in omega arith) in
    state_same _ _ _ _
    (ap (λ w. woven_mesh w i.keys.live i.limits (i.next_vertex + 1) i.next_face) (ap (λ (x : Ground). x.woven) c.in_ok-add.ensures.ok)
    ∙ ap (λ (m : Mesh). record m { next_vertex = i.next_vertex + 1 }) (mesh-vertex_made i.fans.woven i.keys.live i.limits i.next_vertex i.next_face i.next_vertex (record { point = c.args.p; solid = false }) refl none)
    ∙ ap (λ m. with_vertex m c.args.p) (ap (λ (x : Ledger). x.state.mesh) c.self.view_is))
    (ap (λ (x : Ground). buried_in x i.keys) c.in_ok-add.ensures.ok ∙ ap (λ (x : Ledger). x.state.buried) c.self.view_is)

pub add-requires : goal.add-requires
add-requires c =
    let i = c.self.inside in
    let next = ap (λ (m : Mesh). m.next_vertex) (ap (λ (x : Ledger). x.state.mesh) c.self.view_is) in
    let long = len-points i.fans.woven.fans in
    let same = ap (λ (m : Mesh). finite.len m.points) (ap (λ (x : Ledger). x.state.mesh) c.self.view_is) in
    let few = c.requires.few in
    record {
      new = dead_fan i.fans.woven i.keys.live i.limits i.next_vertex i.next_face c.args.self.now.state.mesh i.next_vertex (ap (λ (x : Ledger). x.state.mesh) c.self.view_is) (λ live. let b = c.requires.ids i.next_vertex live in omega arith);
      few = omega (arith, long, same, few);
    }
