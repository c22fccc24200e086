use Rattle.std.proofs.Common.{◌≡◌, slice_get}
use Rattle.mesh_base.specs.Sides.{ids_where, follows, faces_running}
use Rattle.mesh_plain.proofs.tables.Tables.run_face.Given as goal

-- what is sought among the faces to come is what was sought among all
abbrev pub invariant-loop-id : goal.invariant-loop-id
invariant-loop-id l = slice_get (ids_where (λ c. follows c l.u l.v) l.id-iterator) l.left ≡ slice_get (faces_running l.self l.u l.v) l.nth
