use Rattle.std.proofs.Common.{◌≡◌, take}
use Rattle.mesh_base.specs.Given.{mesh_under}
use Rattle.half_mesh.specs.States.{none_buried}
use Rattle.half_mesh.proofs.tables.Tables.add_faces.Given as goal

-- all points and the faces so far
abbrev pub invariant-loop-f : goal.invariant-loop-f
invariant-loop-f l = l.self.state ≡ record { mesh = mesh_under l.fn.scale l.lists.points (take l.f-index l.lists.faces); buried = none_buried }
