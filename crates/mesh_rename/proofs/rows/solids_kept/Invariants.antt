use Rattle.std.proofs.Common.{◌≡◌, ◌++◌, map, drop}
use Rattle.mesh_rename.specs.Rows.{solid_ids}
use Rattle.mesh_rename.proofs.rows.solids_kept.Given as goal

-- the rows so far and those to come are all
abbrev pub invariant-loop-v : goal.invariant-loop-v
invariant-loop-v g l = l.solids ++ solid_ids (g.S.Surface.mesh l.mesh) (λ v. v) (drop l.v-index l.old) ≡ solid_ids (g.S.Surface.mesh l.mesh) (λ v. v) l.old
