use Rattle.std.proofs.Common.{◌≡◌, Option, Some, None, refl, ap, sym, ◌∙◌, arith}
use Rattle.std.specs.Option.{option_map}
use Rattle.std.specs.FinMap as finite
use Rattle.half_mesh.specs.declared.row.Vertex.{Vertex}
use Rattle.half_mesh.specs.declared.row.Row.{Row}
use Rattle.id_table.specs.Stock.{Stock}
use Rattle.half_mesh.specs.Ground.{Ground}
use Rattle.half_mesh.specs.Fans.{Woven, bare_fan}
use Rattle.half_mesh.specs.Mapped.{map_values}
use Rattle.half_mesh.specs.Walks.{fan_of, woven_of}
use Rattle.id_table.proofs.BuriedItems.{no_none}
use Rattle.half_mesh.proofs.Grounds.{ground_same}
use Rattle.half_mesh.proofs.Mapped.{map_values-remove, map_values-insert, get-map_values, len-map_values}
use Rattle.half_mesh.proofs.Fanned.{fanned-insert, fanned-none, no_row}
use Rattle.half_mesh.proofs.fans.Fans.raise.Goals as goal

pub raise-requires-clause-new : goal.raise-requires-clause-new
raise-requires-clause-new c = no_row c.self.inside.rows.live c.self.inside.halves c.args.self.now.woven c.args.v (ap (λ (x : Ground). x.woven) c.self.view_is) c.requires.new

pub raise-requires-clause-few : goal.raise-requires-clause-few
raise-requires-clause-few c = let long = len-map_values (fan_of c.self.inside.halves) c.self.inside.rows.live in let same = ap (λ (w : Ground). finite.len w.woven.fans) c.self.view_is in let few = c.requires.few in omega (arith, long, same, few)

pub invariant_of-self : goal.invariant_of-self
invariant_of-self c =
    let s = c.self.inside.halves in
    let row : Row = record { vertex = c.in-Some.row.vertex; first = 0; count = 0 } in
    rw (ap (λ (x : Stock Row). x.live) c.raise.ensures) (fanned-insert c.self.inside.rows.live s s c.args.v row c.self.invariant (fanned-none s c.args.v row refl) (λ q apart k h there of_q. there))

point_same : (o : Option Row) (row : Row) (p : Vertex) → Some row ≡ o → option_map (λ (r : Row). r.vertex) o ≡ Some p → row.vertex ≡ p
point_same None row p e h = cc
point_same (Some x) row p e h = let same : row ≡ x = cc in ap (λ (r : Row). r.vertex) same ∙ (let got : x.vertex ≡ p = cc in got)

pub returns-in-Some : goal.returns-in-Some
returns-in-Some c = λ p is.
    let s = c.self.inside.halves in
    let view = ap (λ (x : Ground). x.woven) c.self.view_is in
    let old = c.self.inside.rows in
    let row : Row = record { vertex = c.in-Some.row.vertex; first = 0; count = 0 } in
    let same = point_same (finite.get old.buried c.args.v) c.in-Some.row p c.in-Some.ensures (sym (get-map_values (λ (r : Row). r.vertex) old.buried c.args.v) ∙ ap (λ (x : Ground). finite.get x.buried c.args.v) c.self.view_is ∙ is) in
    ground_same _ _ _ _ _ _
    (ap (λ (x : Stock Row). woven_of x.live s) c.raise.ensures ∙ ap (λ fans. record (woven_of old.live s) { fans = fans }) (map_values-insert (fan_of s) (fan_of s) old.live c.args.v row (bare_fan p) (ap bare_fan same) (λ q z apart at. refl)) ∙ ap (λ (w : Woven). record w { fans = finite.insert w.fans c.args.v (bare_fan p) }) view)
    (ap (λ (x : Stock Row). map_values (λ (r : Row). r.vertex) x.buried) c.raise.ensures ∙ map_values-remove (λ (r : Row). r.vertex) old.buried c.args.v ∙ ap (λ (x : Ground). finite.remove x.buried c.args.v) c.self.view_is)
    (ap (λ (x : Stock Row). x.room) c.raise.ensures ∙ ap (λ (x : Ground). x.seats) c.self.view_is)

pub returns-in_default : goal.returns-in_default
returns-in_default c = λ p is.
    let none = sym (ap (λ (x : Ground). finite.get x.buried c.args.v) c.self.view_is) ∙ get-map_values (λ (r : Row). r.vertex) c.self.inside.rows.buried c.args.v ∙ sym (ap (option_map (λ (r : Row). r.vertex)) c.in_default.ensures) in
    absurd (no_none _ none c.requires.buried)
