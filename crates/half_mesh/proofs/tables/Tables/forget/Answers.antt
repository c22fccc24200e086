use Rattle.std.proofs.Common.{ℕ, ◌≡◌, true, is_some, refl, sym, ap, subst, ◌∙◌}
use Rattle.std.specs.FinMap as finite
use Rattle.half_mesh.specs.declared.row.Vertex.{Vertex}
use Rattle.id_table.specs.Stock.{Stock}
use Rattle.half_mesh.specs.Ground.{Ground}
use Rattle.half_mesh.specs.Fans.{Woven, side_at}
use Rattle.half_mesh.specs.States.{Ledger, AreApart}
use Rattle.half_mesh.specs.Vertices.{VertexMap, vertices_in, points_in, solid_in}
use Rattle.half_mesh.specs.Tied.{AreTied, woven_mesh, ledger_in, corners_at, faces_in}
use Rattle.half_mesh.proofs.Mapped.{map_values-empty}
use Rattle.half_mesh.proofs.Vertices.{solid-empty, point-there}
use Rattle.half_mesh.proofs.TiedLaws.{dead_key, dead_fan}
use Rattle.half_mesh.proofs.Rings.{got_some}
use Rattle.half_mesh.proofs.Ledgers.{SidesStay, no-rings, faces-stay, tied-stays, outside-dead, face_there, none_if, apart-key, state_same, buried_same}
use Rattle.half_mesh.proofs.tables.Tables.forget.Goals as goal

pub free_rings-requires : goal.free_rings-requires
free_rings-requires c = λ f v some.
    let i = c.self.inside in
    let sides = i.fans.woven.sides in
    let apart : AreApart (ledger_in i.fans i.keys i.limits i.next_vertex i.next_face).state = subst AreApart (sym (ap (λ (x : Ledger). x.state) c.self.view_is)) c.requires in
    outside-dead i.fans.woven i.keys.live f v c.self.invariant.live (apart.faces f (face_there sides i.keys.buried f some))

pub forget-requires : goal.forget-requires
forget-requires c = λ f some.
    let i = c.self.inside in
    let sides = i.fans.woven.sides in
    let apart : AreApart (ledger_in i.fans i.keys i.limits i.next_vertex i.next_face).state = subst AreApart (sym (ap (λ (x : Ledger). x.state) c.self.view_is)) c.requires in
    let none = apart.faces f (face_there sides i.keys.buried f some) in
    dead_key i.fans.woven i.keys.live i.limits i.next_vertex i.next_face (woven_mesh i.fans.woven i.keys.live i.limits i.next_vertex i.next_face) f refl (λ live. let gone = ap is_some none in cc)

pub forget-requires-2 : goal.forget-requires-2
forget-requires-2 c = λ v some.
    let i = c.self.inside in
    let sides = i.fans.woven.sides in
    let apart : AreApart (ledger_in i.fans i.keys i.limits i.next_vertex i.next_face).state = subst AreApart (sym (ap (λ (x : Ledger). x.state) c.self.view_is)) c.requires in
    let below : is_some (finite.get i.fans.buried v) ≡ true = ap (λ (m : VertexMap). is_some (finite.get m v)) (sym c.free_rings.ensures.kept.0) ∙ some in
    let x = got_some (finite.get i.fans.buried v) below in
    let none = apart.vertices v (ap is_some (point-there i.fans.buried v x.0 x.1)) in
    ap (λ m. finite.get m v) c.free_rings.ensures.fans ∙ dead_fan i.fans.woven i.keys.live i.limits i.next_vertex i.next_face (woven_mesh i.fans.woven i.keys.live i.limits i.next_vertex i.next_face) v refl (λ live. let gone = ap is_some none in cc)

pub invariant_of-self : goal.invariant_of-self
invariant_of-self c =
    let i = c.self.inside in
    let sides = i.fans.woven.sides in
    let apart : AreApart (ledger_in i.fans i.keys i.limits i.next_vertex i.next_face).state = subst AreApart (sym (ap (λ (x : Ledger). x.state) c.self.view_is)) c.requires in
    let last = c.forget-2.new.self.woven in
    let woven : last ≡ c.free_rings.new.fans.woven = ap (λ (x : Ground). x.woven) c.forget-2.ensures.kept in
    let stay : SidesStay sides last.sides i.keys.live = λ k side at some.
    ap (λ (w : Woven). side_at w.sides k) woven ∙ c.free_rings.ensures.sides k side at (none_if (finite.get i.keys.buried side.face) (λ below. apart-key i.keys.live i.keys.buried sides side.face (apart.faces side.face) some below)) in
    let fans : last.fans ≡ i.fans.woven.fans = ap (λ (w : Woven). w.fans) woven ∙ c.free_rings.ensures.fans in
    record {
      live = subst (AreTied last) (sym (ap (λ (x : Stock ℕ). x.live) c.forget.ensures.kept)) (tied-stays i.fans.woven last i.keys.live stay fans c.self.invariant.live);
      buried = no-rings last.sides c.forget.new.self.buried (ap (λ (x : Stock ℕ). x.buried) c.forget.ensures.kept);
    }

pub returns-clause-state : goal.returns-clause-state
returns-clause-state c =
    let i = c.self.inside in
    let sides = i.fans.woven.sides in
    let apart : AreApart (ledger_in i.fans i.keys i.limits i.next_vertex i.next_face).state = subst AreApart (sym (ap (λ (x : Ledger). x.state) c.self.view_is)) c.requires in
    let last = c.forget-2.new.self.woven in
    let woven : last ≡ c.free_rings.new.fans.woven = ap (λ (x : Ground). x.woven) c.forget-2.ensures.kept in
    let stay : SidesStay sides last.sides i.keys.live = λ k side at some.
    ap (λ (w : Woven). side_at w.sides k) woven ∙ c.free_rings.ensures.sides k side at (none_if (finite.get i.keys.buried side.face) (λ below. apart-key i.keys.live i.keys.buried sides side.face (apart.faces side.face) some below)) in
    let fans : last.fans ≡ i.fans.woven.fans = ap (λ (w : Woven). w.fans) woven ∙ c.free_rings.ensures.fans in
    let points = ap (λ m. points_in (vertices_in m)) fans in
    let solid = ap (λ m. solid_in (vertices_in m)) fans in
    let faces = ap (λ (x : Stock ℕ). faces_in last.sides x.live) c.forget.ensures.kept ∙ faces-stay sides last.sides i.keys.live stay c.self.invariant.live.rings in
    let none = ap (λ (x : Ground). x.buried) c.forget-2.ensures.kept in
    state_same _ _ _ _
    ((λ j. record { points = points j; faces = faces j; solid = solid j; limits = i.limits; next_vertex = i.next_vertex; next_face = i.next_face }) ∙ ap (λ (x : Ledger). x.state.mesh) c.self.view_is)
    (buried_same _ _ _ _ _ _
    (ap points_in none ∙ map_values-empty (λ (x : Vertex). x.point))
    (ap (λ (x : Stock ℕ). faces_in last.sides x.buried) c.forget.ensures.kept ∙ map_values-empty (corners_at last.sides))
    (ap solid_in none ∙ solid-empty))
