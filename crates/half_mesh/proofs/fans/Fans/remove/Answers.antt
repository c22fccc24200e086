use Rattle.std.proofs.Common.{ap, refl, ◌∙◌}
use Rattle.std.specs.FinMap as finite
use Rattle.half_mesh.specs.Fans.{Woven}
use Rattle.half_mesh.specs.Mapped.{map_values}
use Rattle.half_mesh.proofs.Grounds.{ground_same}
use Rattle.half_mesh.specs.Walks.{fan_of, woven_of}
use Rattle.half_mesh.specs.Ground.{Ground}
use Rattle.id_table.specs.Stock.{Stock}
use Rattle.half_mesh.specs.declared.row.Row.{Row}
use Rattle.half_mesh.proofs.Mapped.{map_values-remove}
use Rattle.half_mesh.proofs.Fanned.{fanned-remove, row_there}
use Rattle.half_mesh.proofs.fans.Fans.remove.Goals as goal

pub invariant_of-self : goal.invariant_of-self
invariant_of-self c = rw (ap (λ (x : Stock Row). x.live) c.remove.ensures.kept) (fanned-remove c.self.inside.rows.live c.self.inside.halves c.args.v c.self.invariant)

pub returns-clause-kept : goal.returns-clause-kept
returns-clause-kept c = ground_same _ _ _ _ _ _ (ap (λ (x : Stock Row). woven_of x.live c.self.inside.halves) c.remove.ensures.kept ∙ ap (λ fans. record (woven_of c.self.inside.rows.live c.self.inside.halves) { fans = fans }) (map_values-remove (fan_of c.self.inside.halves) c.self.inside.rows.live c.args.v) ∙ ap (λ (w : Woven). record w { fans = finite.remove w.fans c.args.v }) (ap (λ (x : Ground). x.woven) c.self.view_is))
    (ap (λ (x : Stock Row). map_values (λ r. r.vertex) x.buried) c.remove.ensures.kept ∙ ap (λ (x : Ground). x.buried) c.self.view_is) refl

pub remove-requires : goal.remove-requires
remove-requires c = row_there c.self.inside.rows.live c.self.inside.halves c.args.self.now.woven c.args.v (ap (λ (x : Ground). x.woven) c.self.view_is) c.requires
