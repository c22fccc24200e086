use Rattle.std.proofs.Common.{is_some, refl, sym, ap, subst, ◌∙◌, arith}
use Rattle.half_mesh.specs.Ground.{Ground}
use Rattle.half_mesh.specs.Fans.{bare_fan}
use Rattle.half_mesh.specs.States.{Ledger, AreApart, CanRaiseVertex, raise_vertex}
use Rattle.half_mesh.specs.declared.row.Vertex.{Vertex}
use Rattle.half_mesh.specs.Vertices.{points_in, solid_in}
use Rattle.half_mesh.specs.Tied.{woven_mesh, ledger_in, spare_in, faces_in}
use Rattle.half_mesh.proofs.Mapped.{map_values-remove}
use Rattle.half_mesh.proofs.Vertices.{vertex_there, solid-remove, len-points}
use Rattle.half_mesh.proofs.VertexChanges.{mesh-vertex_raised}
use Rattle.half_mesh.proofs.TiedLaws.{tied-fan, dead_fan, dead_spokes}
use Rattle.half_mesh.proofs.Ledgers.{state_same, buried_same}
use Rattle.half_mesh.proofs.tables.Tables.raise_vertex.Goals as goal

pub raise-requires : goal.raise-requires
raise-requires c =
    let i = c.self.inside in
    let v = c.v.inside.0 in
    let can : CanRaiseVertex (ledger_in i.fans i.keys i.limits i.next_vertex i.next_face).state v = subst (CanRaiseVertex (ledger_in i.fans i.keys i.limits i.next_vertex i.next_face).state) (sym c.v.view_is) (subst (λ s. CanRaiseVertex s c.args.v) (sym (ap (λ (x : Ledger). x.state) c.self.view_is)) c.requires.can) in
    let apart : AreApart (ledger_in i.fans i.keys i.limits i.next_vertex i.next_face).state = subst AreApart (sym (ap (λ (x : Ledger). x.state) c.self.view_is)) c.requires.apart in
    let x = vertex_there i.fans.buried v can.buried in
    let none = apart.vertices v can.buried in
    let room = can.room in
    let long = len-points i.fans.woven.fans in
    record {
      buried = ap is_some x.1;
      new = dead_fan i.fans.woven i.keys.live i.limits i.next_vertex i.next_face (woven_mesh i.fans.woven i.keys.live i.limits i.next_vertex i.next_face) v refl (λ live. let gone = ap is_some none in cc);
      few = omega (arith, room, long);
    }

pub invariant_of-self : goal.invariant_of-self
invariant_of-self c =
    let i = c.self.inside in
    let v = c.v.inside.0 in
    let can : CanRaiseVertex (ledger_in i.fans i.keys i.limits i.next_vertex i.next_face).state v = subst (CanRaiseVertex (ledger_in i.fans i.keys i.limits i.next_vertex i.next_face).state) (sym c.v.view_is) (subst (λ s. CanRaiseVertex s c.args.v) (sym (ap (λ (x : Ledger). x.state) c.self.view_is)) c.requires.can) in
    let apart : AreApart (ledger_in i.fans i.keys i.limits i.next_vertex i.next_face).state = subst AreApart (sym (ap (λ (x : Ledger). x.state) c.self.view_is)) c.requires.apart in
    let x = vertex_there i.fans.buried v can.buried in
    let none = apart.vertices v can.buried in
    let spokes = dead_spokes i.fans.woven i.keys.live i.limits i.next_vertex i.next_face (woven_mesh i.fans.woven i.keys.live i.limits i.next_vertex i.next_face) v refl (λ live. let gone = ap is_some none in cc) in
    let woven = ap (λ (y : Ground). y.woven) (c.raise.ensures x.0 x.1) in
    record {
      live = rw woven (tied-fan i.fans.woven i.keys.live v (bare_fan x.0) c.self.invariant.live (sym spokes));
      buried = rw woven c.self.invariant.buried;
    }

pub returns-clause-state : goal.returns-clause-state
returns-clause-state c =
    let i = c.self.inside in
    let v = c.v.inside.0 in
    let can : CanRaiseVertex (ledger_in i.fans i.keys i.limits i.next_vertex i.next_face).state v = subst (CanRaiseVertex (ledger_in i.fans i.keys i.limits i.next_vertex i.next_face).state) (sym c.v.view_is) (subst (λ s. CanRaiseVertex s c.args.v) (sym (ap (λ (x : Ledger). x.state) c.self.view_is)) c.requires.can) in
    let apart : AreApart (ledger_in i.fans i.keys i.limits i.next_vertex i.next_face).state = subst AreApart (sym (ap (λ (x : Ledger). x.state) c.self.view_is)) c.requires.apart in
    let x = vertex_there i.fans.buried v can.buried in
    let none = apart.vertices v can.buried in
    let no_fan = dead_fan i.fans.woven i.keys.live i.limits i.next_vertex i.next_face (woven_mesh i.fans.woven i.keys.live i.limits i.next_vertex i.next_face) v refl (λ live. let gone = ap is_some none in cc) in
    let up = c.raise.ensures x.0 x.1 in
    state_same _ _ _ _
    (ap (λ (y : Ground). woven_mesh y.woven i.keys.live i.limits i.next_vertex i.next_face) up ∙ mesh-vertex_raised i.fans.woven i.keys.live i.limits i.next_vertex i.next_face v i.fans.buried x.0 x.1 no_fan)
    (buried_same _ _ _ _ _ _
    (ap (λ (y : Ground). points_in y.buried) up ∙ map_values-remove (λ (y : Vertex). y.point) i.fans.buried v)
    (ap (λ (y : Ground). faces_in y.woven.sides i.keys.buried) up)
    (ap (λ (y : Ground). solid_in y.buried) up ∙ solid-remove i.fans.buried v))
    ∙ ap (λ (y : Ledger). raise_vertex y.state v) c.self.view_is
    ∙ ap (raise_vertex c.args.self.now.state) c.v.view_is

pub returns-clause-spare : goal.returns-clause-spare
returns-clause-spare c =
    let i = c.self.inside in
    let v = c.v.inside.0 in
    let can : CanRaiseVertex (ledger_in i.fans i.keys i.limits i.next_vertex i.next_face).state v = subst (CanRaiseVertex (ledger_in i.fans i.keys i.limits i.next_vertex i.next_face).state) (sym c.v.view_is) (subst (λ s. CanRaiseVertex s c.args.v) (sym (ap (λ (x : Ledger). x.state) c.self.view_is)) c.requires.can) in
    let x = vertex_there i.fans.buried v can.buried in
    ap (λ (y : Ground). spare_in y i.keys) (c.raise.ensures x.0 x.1) ∙ ap (λ (y : Ledger). y.spare) c.self.view_is
