use Rattle.std.proofs.Common.{◌≡◌, take, []}
use Rattle.mesh_base.specs.Given.{mesh_under}
use Rattle.half_mesh.specs.States.{none_buried}
use Rattle.half_mesh.proofs.tables.Tables.add_points.Given as goal

-- the points so far
abbrev pub invariant-loop-p : goal.invariant-loop-p
invariant-loop-p l = l.self.state ≡ record { mesh = mesh_under l.fn.scale (take l.p-index l.lists.points) []; buried = none_buried }
