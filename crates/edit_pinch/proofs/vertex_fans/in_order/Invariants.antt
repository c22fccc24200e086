use Rattle.std.proofs.Common.{◌≡◌, ◌++◌, drop}
use Rattle.std.specs.List.{filter}
use Rattle.edit_base.specs.Classes.{is_one_of}
use Rattle.edit_pinch.proofs.vertex_fans.in_order.Given as goal

-- those so far, and those of the faces that are left, are all
abbrev pub invariant-loop-g : goal.invariant-loop-g
invariant-loop-g l = l.fan ++ filter (is_one_of l.members) (drop l.g-index l.faces) ≡ filter (is_one_of l.members) l.faces
