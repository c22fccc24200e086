use Rattle.std.proofs.Common.{ap, refl, ◌∙◌, arith}
use Rattle.half_mesh.specs.declared.row.Row.{Row}
use Rattle.half_mesh.specs.Walks.{fan_of, woven_of, AreFanned}
use Rattle.half_mesh.specs.Fans.{Woven, bare_fan}
use Rattle.std.specs.FinMap as finite
use Rattle.half_mesh.specs.Ground.{Ground}
use Rattle.half_mesh.proofs.Mapped.{map_values-insert, len-map_values}
use Rattle.id_table.specs.Stock.{Stock}
use Rattle.half_mesh.specs.Mapped.{map_values}
use Rattle.half_mesh.proofs.Grounds.{ground_same}
use Rattle.half_mesh.proofs.Outcomes.{on_ok, on_err}
use Rattle.mesh_shape.proofs.Outcomes.{on_both}
use Rattle.half_mesh.proofs.Fanned.{fanned-insert, fanned-none, no_row}
use Rattle.half_mesh.proofs.fans.Fans.add.Goals as goal

pub invariant_of-self : goal.invariant_of-self
invariant_of-self c =
    let s = c.self.inside.halves in
    let row : Row = record { vertex = c.args.vertex; first = 0; count = 0 } in
    on_both (λ rows. AreFanned rows s) c.insert.result c.insert.new.self.live (finite.insert c.self.inside.rows.live c.args.v row) c.self.inside.rows.live (on_ok c.insert.result _ _ (λ is. ap (λ (x : Stock Row). x.live) is) c.insert.ensures.ok) (on_err c.insert.result _ _ (λ is. ap (λ (x : Stock Row). x.live) is) c.insert.ensures.err)
    (fanned-insert c.self.inside.rows.live s s c.args.v row c.self.invariant (fanned-none s c.args.v row refl) (λ q apart k h there of_q. there))
    c.self.invariant

pub returns-clause-ok : goal.returns-clause-ok
returns-clause-ok c =
    let s = c.self.inside.halves in
    let row : Row = record { vertex = c.args.vertex; first = 0; count = 0 } in
    (on_ok c.insert.result _ _ (λ is. ground_same _ _ _ _ _ _ (
    ap (λ (x : Stock Row). woven_of x.live s) is
    ∙ ap (λ fans. record (woven_of c.self.inside.rows.live s) { fans = fans }) (map_values-insert (fan_of s) (fan_of s) c.self.inside.rows.live c.args.v row (bare_fan c.args.vertex) refl (λ q z apart there. refl))
    ∙ ap (λ (w : Woven). record w { fans = finite.insert w.fans c.args.v (bare_fan c.args.vertex) }) (ap (λ (x : Ground). x.woven) c.self.view_is))
    (ap (λ (x : Stock Row). map_values (λ r. r.vertex) x.buried) is ∙ ap (λ (x : Ground). x.buried) c.self.view_is) refl) c.insert.ensures.ok)

pub insert-requires : goal.insert-requires
insert-requires c = record {
  new = no_row c.self.inside.rows.live c.self.inside.halves c.args.self.now.woven c.args.v (ap (λ (x : Ground). x.woven) c.self.view_is) c.requires.new;
  few = let long = len-map_values (fan_of c.self.inside.halves) c.self.inside.rows.live in let same = ap (λ (w : Woven). finite.len w.fans) (ap (λ (x : Ground). x.woven) c.self.view_is) in let few = c.requires.few in omega (arith, long, same, few);
}
