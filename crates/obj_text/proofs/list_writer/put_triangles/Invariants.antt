use Rattle.std.proofs.Common.{◌≡◌, ◌++◌, take}
use Rattle.std.specs.List.{flat_map}
use Rattle.obj_text.specs.ListsWritten.{triangle_line}
use Rattle.obj_text.proofs.list_writer.put_triangles.Given as goal

abbrev pub invariant-loop-f : goal.invariant-loop-f
invariant-loop-f l = l.out.items ≡ l.initial.out.items ++ flat_map (λ f. triangle_line f) (take l.f-index l.faces)
