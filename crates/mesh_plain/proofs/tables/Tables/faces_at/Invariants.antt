use Rattle.std.proofs.Common.{◌≡◌, ◌++◌}
use Rattle.mesh_base.specs.Sides.{ids_where, has_corner, faces_at}
use Rattle.mesh_plain.proofs.tables.Tables.faces_at.Given as goal

-- the faces found and those to come are all of them
abbrev pub invariant-loop-id : goal.invariant-loop-id
invariant-loop-id l = l.into.items ++ ids_where (λ c. has_corner c l.v) l.id-iterator ≡ faces_at l.self l.v
