use Rattle.std.proofs.Common.{false, ap, sym, subst, ◌∙◌, is_some}
use Rattle.std.specs.FinMap as finite
use Rattle.mesh_base.specs.Mesh.{IsLiveVertex}
use Rattle.half_mesh.specs.Ground.{Ground}
use Rattle.half_mesh.specs.Tied.{woven_mesh, buried_in, spare_in}
use Rattle.half_mesh.proofs.TiedLaws.{tied-fan, live_fan, spokes_at-got}
use Rattle.half_mesh.proofs.VertexChanges.{mesh-vertex_plain, same_vertex, dead_vertex}
use Rattle.half_mesh.specs.States.{Ledger, without_solid}
use Rattle.half_mesh.proofs.Ledgers.{state_same}
use Rattle.half_mesh.proofs.tables.Tables.unmake_solid.Goals as goal

pub set-requires : goal.set-requires
set-requires c =
    let i = c.self.inside in
    let fan = live_fan i.fans.woven i.keys.live i.limits i.next_vertex i.next_face c.args.self.now.state.mesh c.v.inside.0 (ap (λ (x : Ledger). x.state.mesh) c.self.view_is) (subst (IsLiveVertex c.args.self.now.state.mesh) (sym c.v.view_is) c.requires) in
    ap is_some fan.1

pub invariant_of-self : goal.invariant_of-self
invariant_of-self c =
    let i = c.self.inside in
    let fan = live_fan i.fans.woven i.keys.live i.limits i.next_vertex i.next_face c.args.self.now.state.mesh c.v.inside.0 (ap (λ (x : Ledger). x.state.mesh) c.self.view_is) (subst (IsLiveVertex c.args.self.now.state.mesh) (sym c.v.view_is) c.requires) in
    let woven = ap (λ (x : Ground). x.woven) (c.set.ensures fan.0 fan.1) in
    record {
      live = rw woven (tied-fan i.fans.woven i.keys.live c.v.inside.0 (record fan.0 { vertex = record c.in-Some.vertex { solid = false } }) c.self.invariant.live (sym (spokes_at-got i.fans.woven.fans c.v.inside.0 fan.0 fan.1)));
      buried = rw woven c.self.invariant.buried;
    }

pub returns-in-Some-clause-state : goal.returns-in-Some-clause-state
returns-in-Some-clause-state c =
    let i = c.self.inside in
    let fan = live_fan i.fans.woven i.keys.live i.limits i.next_vertex i.next_face c.args.self.now.state.mesh c.v.inside.0 (ap (λ (x : Ledger). x.state.mesh) c.self.view_is) (subst (IsLiveVertex c.args.self.now.state.mesh) (sym c.v.view_is) c.requires) in
    let same = same_vertex i.fans.woven.fans c.v.inside.0 fan.0 c.in-Some.vertex c.in-Some.ensures fan.1 in
    state_same _ _ _ _
    (ap (λ w. woven_mesh w i.keys.live i.limits i.next_vertex i.next_face) (ap (λ (x : Ground). x.woven) (c.set.ensures fan.0 fan.1) ∙ ap (λ x. record i.fans.woven { fans = finite.insert i.fans.woven.fans c.v.inside.0 (record fan.0 { vertex = record x { solid = false } }) }) same)
    ∙ mesh-vertex_plain i.fans.woven i.keys.live i.limits i.next_vertex i.next_face c.v.inside.0 fan.0 fan.1
    ∙ ap (λ m. without_solid m c.v.inside.0) (ap (λ (x : Ledger). x.state.mesh) c.self.view_is)
    ∙ ap (λ v. without_solid c.args.self.now.state.mesh v) c.v.view_is)
    (ap (λ (x : Ground). buried_in x i.keys) (c.set.ensures fan.0 fan.1) ∙ ap (λ (x : Ledger). x.state.buried) c.self.view_is)

pub returns-in-Some-clause-spare : goal.returns-in-Some-clause-spare
returns-in-Some-clause-spare c =
    let i = c.self.inside in
    let fan = live_fan i.fans.woven i.keys.live i.limits i.next_vertex i.next_face c.args.self.now.state.mesh c.v.inside.0 (ap (λ (x : Ledger). x.state.mesh) c.self.view_is) (subst (IsLiveVertex c.args.self.now.state.mesh) (sym c.v.view_is) c.requires) in
    ap (λ (x : Ground). spare_in x i.keys) (c.set.ensures fan.0 fan.1) ∙ ap (λ (x : Ledger). x.spare) c.self.view_is

pub returns-in_default : goal.returns-in_default
returns-in_default c =
    let i = c.self.inside in
    let fan = live_fan i.fans.woven i.keys.live i.limits i.next_vertex i.next_face c.args.self.now.state.mesh c.v.inside.0 (ap (λ (x : Ledger). x.state.mesh) c.self.view_is) (subst (IsLiveVertex c.args.self.now.state.mesh) (sym c.v.view_is) c.requires) in
    absurd (dead_vertex i.fans.woven.fans c.v.inside.0 fan.0 c.in_default.ensures fan.1)
