use Rattle.std.proofs.Common.{sym, ap, subst, is_some, ◌∙◌}
use Rattle.half_mesh.specs.Ground.{Ground}
use Rattle.half_mesh.specs.Tied.{woven_mesh, buried_in}
use Rattle.mesh_base.specs.Mesh.{IsLiveVertex}
use Rattle.mesh_base.specs.Changes.{without_vertex}
use Rattle.half_mesh.proofs.VertexChanges.{mesh-vertex_gone}
use Rattle.half_mesh.proofs.TiedLaws.{tied-bare, at-tied, live_fan}
use Rattle.half_mesh.specs.States.{Ledger}
use Rattle.half_mesh.proofs.Ledgers.{state_same}
use Rattle.half_mesh.proofs.tables.Tables.drop_vertex.Goals as goal

pub invariant_of-self : goal.invariant_of-self
invariant_of-self c =
    let i = c.self.inside in
    let woven = ap (λ (x : Ground). x.woven) c.remove.ensures.kept in
    record {
      live = rw woven (tied-bare i.fans.woven i.keys.live c.v.inside.0 c.self.invariant.live (at-tied i.fans.woven i.keys.live i.limits i.next_vertex i.next_face c.args.self.now.state.mesh c.v.inside.0 (ap (λ (x : Ledger). x.state.mesh) c.self.view_is) c.self.invariant.live ∙ rw c.v.view_is c.requires.bare));
      buried = rw woven c.self.invariant.buried;
    }

pub returns-clause-state : goal.returns-clause-state
returns-clause-state c =
    let i = c.self.inside in
    state_same _ _ _ _
    (ap (λ w. woven_mesh w i.keys.live i.limits i.next_vertex i.next_face) (ap (λ (x : Ground). x.woven) c.remove.ensures.kept)
    ∙ mesh-vertex_gone i.fans.woven i.keys.live i.limits i.next_vertex i.next_face c.v.inside.0
    ∙ ap (λ m. without_vertex m c.v.inside.0) (ap (λ (x : Ledger). x.state.mesh) c.self.view_is)
    ∙ ap (λ v. without_vertex c.args.self.now.state.mesh v) c.v.view_is)
    (ap (λ (x : Ground). buried_in x i.keys) c.remove.ensures.kept ∙ ap (λ (x : Ledger). x.state.buried) c.self.view_is)

pub remove-requires : goal.remove-requires
remove-requires c =
    let i = c.self.inside in
    ap is_some (live_fan i.fans.woven i.keys.live i.limits i.next_vertex i.next_face c.args.self.now.state.mesh c.v.inside.0 (ap (λ (x : Ledger). x.state.mesh) c.self.view_is) (subst (IsLiveVertex c.args.self.now.state.mesh) (sym c.v.view_is) c.requires.live)).1
