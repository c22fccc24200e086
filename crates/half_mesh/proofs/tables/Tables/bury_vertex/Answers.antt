use Rattle.std.proofs.Common.{◌≡◌, true, is_some, sym, ap, subst, ◌∙◌}
use Rattle.std.specs.FinMap as finite
use Rattle.mesh_base.specs.Mesh.{IsLiveVertex}
use Rattle.half_mesh.specs.Ground.{Ground}
use Rattle.half_mesh.specs.States.{Ledger, AreApart, bury_vertex}
use Rattle.half_mesh.specs.Vertices.{points_in, solid_in}
use Rattle.half_mesh.specs.Tied.{woven_mesh, ledger_in, spare_in, faces_in}
use Rattle.half_mesh.proofs.Vertices.{no_vertex}
use Rattle.half_mesh.proofs.VertexChanges.{mesh-vertex_gone, points-buried, solid-buried}
use Rattle.half_mesh.proofs.TiedLaws.{tied-bare, at-tied, live_fan}
use Rattle.half_mesh.proofs.Ledgers.{state_same, buried_same}
use Rattle.half_mesh.proofs.tables.Tables.bury_vertex.Goals as goal

pub bury-requires : goal.bury-requires
bury-requires c =
    let i = c.self.inside in
    ap is_some (live_fan i.fans.woven i.keys.live i.limits i.next_vertex i.next_face c.args.self.now.state.mesh c.v.inside.0 (ap (λ (x : Ledger). x.state.mesh) c.self.view_is) (subst (IsLiveVertex c.args.self.now.state.mesh) (sym c.v.view_is) c.requires.live)).1

pub invariant_of-self : goal.invariant_of-self
invariant_of-self c =
    let i = c.self.inside in
    let view = ap (λ (x : Ledger). x.state.mesh) c.self.view_is in
    let fan = live_fan i.fans.woven i.keys.live i.limits i.next_vertex i.next_face c.args.self.now.state.mesh c.v.inside.0 view (subst (IsLiveVertex c.args.self.now.state.mesh) (sym c.v.view_is) c.requires.live) in
    let woven = ap (λ (x : Ground). x.woven) (c.bury.ensures fan.0 fan.1) in
    record {
      live = rw woven (tied-bare i.fans.woven i.keys.live c.v.inside.0 c.self.invariant.live (at-tied i.fans.woven i.keys.live i.limits i.next_vertex i.next_face c.args.self.now.state.mesh c.v.inside.0 view c.self.invariant.live ∙ rw c.v.view_is c.requires.bare));
      buried = rw woven c.self.invariant.buried;
    }

pub returns-clause-state : goal.returns-clause-state
returns-clause-state c =
    let i = c.self.inside in
    let v = c.v.inside.0 in
    let view = ap (λ (x : Ledger). x.state.mesh) c.self.view_is in
    let live = subst (IsLiveVertex c.args.self.now.state.mesh) (sym c.v.view_is) c.requires.live in
    let fan = live_fan i.fans.woven i.keys.live i.limits i.next_vertex i.next_face c.args.self.now.state.mesh v view live in
    let down = c.bury.ensures fan.0 fan.1 in
    let apart : AreApart (ledger_in i.fans i.keys i.limits i.next_vertex i.next_face).state = subst AreApart (sym (ap (λ (x : Ledger). x.state) c.self.view_is)) c.requires.apart in
    let here : is_some (finite.get (woven_mesh i.fans.woven i.keys.live i.limits i.next_vertex i.next_face).points v) ≡ true = ap (λ (x : Ledger). is_some (finite.get x.state.mesh.points v)) c.self.view_is ∙ live in
    let none = no_vertex i.fans.buried v (λ some. let gone = ap is_some (apart.vertices v some) in cc) in
    state_same _ _ _ _
    (ap (λ (x : Ground). woven_mesh x.woven i.keys.live i.limits i.next_vertex i.next_face) down ∙ mesh-vertex_gone i.fans.woven i.keys.live i.limits i.next_vertex i.next_face v)
    (buried_same _ _ _ _ _ _
    (ap (λ (x : Ground). points_in x.buried) down ∙ points-buried i.fans.woven.fans i.fans.buried v fan.0 fan.1)
    (ap (λ (x : Ground). faces_in x.woven.sides i.keys.buried) down)
    (ap (λ (x : Ground). solid_in x.buried) down ∙ solid-buried i.fans.woven.fans i.fans.buried v fan.0 fan.1 none))
    ∙ ap (λ (x : Ledger). bury_vertex x.state v) c.self.view_is
    ∙ ap (bury_vertex c.args.self.now.state) c.v.view_is

pub returns-clause-spare : goal.returns-clause-spare
returns-clause-spare c =
    let i = c.self.inside in
    let fan = live_fan i.fans.woven i.keys.live i.limits i.next_vertex i.next_face c.args.self.now.state.mesh c.v.inside.0 (ap (λ (x : Ledger). x.state.mesh) c.self.view_is) (subst (IsLiveVertex c.args.self.now.state.mesh) (sym c.v.view_is) c.requires.live) in
    ap (λ (x : Ground). spare_in x i.keys) (c.bury.ensures fan.0 fan.1) ∙ ap (λ (x : Ledger). x.spare) c.self.view_is
