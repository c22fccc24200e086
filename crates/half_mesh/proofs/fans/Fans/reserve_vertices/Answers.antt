use Rattle.std.proofs.Common.{refl, ap, ◌∙◌}
use Rattle.half_mesh.specs.declared.row.Row.{Row}
use Rattle.id_table.specs.Stock.{Stock}
use Rattle.half_mesh.specs.Ground.{Ground}
use Rattle.half_mesh.specs.Mapped.{map_values}
use Rattle.half_mesh.specs.Walks.{woven_of}
use Rattle.half_mesh.proofs.Grounds.{ground_same}
use Rattle.half_mesh.proofs.fans.Fans.reserve_vertices.Goals as goal

pub invariant_of-self : goal.invariant_of-self
invariant_of-self c = rw (ap (λ (x : Stock Row). x.live) c.reserve.ensures.kept) c.self.invariant

pub returns-clause-kept : goal.returns-clause-kept
returns-clause-kept c = ground_same _ _ _ _ _ _
    (ap (λ (x : Stock Row). woven_of x.live c.self.inside.halves) c.reserve.ensures.kept ∙ ap (λ (x : Ground). x.woven) c.self.view_is)
    (ap (λ (x : Stock Row). map_values (λ (r : Row). r.vertex) x.buried) c.reserve.ensures.kept ∙ ap (λ (x : Ground). x.buried) c.self.view_is)
    refl
