use Rattle.std.proofs.Common.{◌≡◌, ◌++◌, map, drop}
use Rattle.mesh_ids.specs.NewIds.{new_id}
use Rattle.mesh_rename.specs.Rows.{face_row}
use Rattle.mesh_rename.proofs.rows.faces_taken.Given as goal

-- the rows so far and those to come are all
abbrev pub invariant-loop-f : goal.invariant-loop-f
invariant-loop-f g l = l.rows ++ map (face_row (g.S.Surface.mesh l.mesh) (new_id l.old l.ids) (λ v. v)) (drop l.f-index l.old) ≡ map (face_row (g.S.Surface.mesh l.mesh) (new_id l.old l.ids) (λ v. v)) l.old
