use Rattle.std.proofs.Common.{◌≡◌, ◌++◌, take}
use Rattle.std.specs.List.{flat_map}
use Rattle.std.specs.FinMap as finite
use Rattle.obj_text.specs.Written.{vertex_line}
use Rattle.obj_text.proofs.Lookups.{text_of_found}
use Rattle.obj_text.proofs.writer.put_vertices.Given as goal

abbrev pub invariant-loop-v : goal.invariant-loop-v
invariant-loop-v g l = l.out.items ≡ l.initial.out.items ++ flat_map (λ v. text_of_found (vertex_line l.decimals) (finite.get (g.S.Surface.mesh l.mesh).points v)) (take l.v-index l.ids)
