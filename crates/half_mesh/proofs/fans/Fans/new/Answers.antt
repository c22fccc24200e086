use Rattle.std.proofs.Common.{◌≡◌, None, ap, ◌∙◌}
use Rattle.std.specs.Ordering.{nat_cmp}
use Rattle.std.specs.FinMap as finite
use Rattle.std.specs.FinMap.{get-empty}
use Rattle.half_mesh.specs.declared.row.Row.{Row}
use Rattle.half_mesh.specs.Mapped.{map_values}
use Rattle.half_mesh.specs.Walks.{fan_of}
use Rattle.half_mesh.proofs.Mapped.{map_values-empty}
use Rattle.half_mesh.proofs.fans.Fans.new.Goals as goal

pub invariant_of-result : goal.invariant_of-result
invariant_of-result c = λ v row there. let e : finite.get (finite.empty {X = Row} {R = nat_cmp}) v ≡ None = get-empty nat_cmp v in let n = ap (λ m. finite.get m v) c.new.ensures.live in cc

pub returns-clause-fans : goal.returns-clause-fans
returns-clause-fans c = ap (map_values (fan_of c.new-2.result)) c.new.ensures.live ∙ map_values-empty (fan_of c.new-2.result)

pub returns-clause-buried : goal.returns-clause-buried
returns-clause-buried c = ap (map_values (λ (r : Row). r.vertex)) c.new.ensures.buried ∙ map_values-empty (λ (r : Row). r.vertex)
