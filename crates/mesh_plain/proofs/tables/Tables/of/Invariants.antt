use Rattle.std.proofs.Common.{◌≡◌, take, []}
use Rattle.mesh_base.specs.Given.{mesh_under}
use Rattle.mesh_plain.proofs.tables.Tables.of.Given as goal

-- the points so far
abbrev pub invariant-loop-p : goal.invariant-loop-p
invariant-loop-p l = l.tables ≡ mesh_under l.fn.scale (take l.p-index l.lists.points) []

-- all points and the faces so far
abbrev pub invariant-loop-f : goal.invariant-loop-f
invariant-loop-f l = l.tables ≡ mesh_under l.fn.scale l.lists.points (take l.f-index l.lists.faces)
