use Rattle.std.proofs.Common.{◌≡◌, ◌++◌, take}
use Rattle.std.specs.List.{flat_map}
use Rattle.grid_base.specs.Points.{position_of}
use Rattle.obj_text.specs.ListsWritten.{point_line}
use Rattle.obj_text.proofs.list_writer.put_points.Given as goal

abbrev pub invariant-loop-p : goal.invariant-loop-p
invariant-loop-p l = l.out.items ≡ l.initial.out.items ++ flat_map (λ p. point_line l.decimals (position_of p)) (take l.p-index l.points)
