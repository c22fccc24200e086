use Rattle.std.proofs.Common.{◌≡◌, ◌++◌, drop}
use Rattle.std.specs.List.{filter}
use Rattle.mesh_base.specs.Mesh.{is_solid}
use Rattle.track_held.proofs.queries.solid_among.Given as goal

-- the rows so far and those to come are all
abbrev pub invariant-loop-v : goal.invariant-loop-v
invariant-loop-v g l = l.rows ++ filter (is_solid (g.S.Surface.mesh l.mesh)) (drop l.v-index l.ids) ≡ filter (is_solid (g.S.Surface.mesh l.mesh)) l.ids
