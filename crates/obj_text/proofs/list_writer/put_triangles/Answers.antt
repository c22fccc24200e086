use Rattle.obj_text.specs.ListsWritten.{triangle_line}
use Rattle.obj_text.proofs.LinesOfItems.{line_of_next}
use Rattle.obj_text.proofs.list_writer.put_triangles.Goals as goal

pub loop-f-preserved : goal.loop-f-preserved
loop-f-preserved c = line_of_next (λ f. triangle_line f) _ _ _ c.args.faces.now c.loop-f.f-index _ c.loop-f-test.true c.loop-f.invariant c.in_ok-put_triangle.ensures
