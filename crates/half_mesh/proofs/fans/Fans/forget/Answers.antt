use Rattle.std.proofs.Common.{is_some, refl, ap, sym, ◌∙◌}
use Rattle.std.specs.FinMap as finite
use Rattle.half_mesh.specs.declared.row.Row.{Row}
use Rattle.id_table.specs.Stock.{Stock}
use Rattle.half_mesh.specs.Ground.{Ground}
use Rattle.half_mesh.specs.Mapped.{map_values}
use Rattle.half_mesh.specs.Walks.{woven_of}
use Rattle.half_mesh.proofs.Grounds.{ground_same, buried_there}
use Rattle.half_mesh.proofs.Mapped.{map_values-empty}
use Rattle.half_mesh.proofs.Fanned.{no_row}
use Rattle.half_mesh.proofs.fans.Fans.forget.Goals as goal

pub forget-requires : goal.forget-requires
forget-requires c = λ v some.
    no_row c.self.inside.rows.live c.self.inside.halves c.args.self.now.woven v (ap (λ (x : Ground). x.woven) c.self.view_is) (c.requires v (ap (λ (x : Ground). is_some (finite.get x.buried v)) (sym c.self.view_is) ∙ buried_there c.self.inside.rows.buried v some))

pub invariant_of-self : goal.invariant_of-self
invariant_of-self c = rw (ap (λ (x : Stock Row). x.live) c.forget.ensures.kept) c.self.invariant

pub returns-clause-kept : goal.returns-clause-kept
returns-clause-kept c = ground_same _ _ _ _ _ _
    (ap (λ (x : Stock Row). woven_of x.live c.self.inside.halves) c.forget.ensures.kept ∙ ap (λ (x : Ground). x.woven) c.self.view_is)
    (ap (λ (x : Stock Row). map_values (λ (r : Row). r.vertex) x.buried) c.forget.ensures.kept ∙ map_values-empty (λ (r : Row). r.vertex))
    refl
