use Rattle.std.proofs.Common.{◌≡◌, length}
use Rattle.std.specs.List.{fold}
use Rattle.std.specs.FinMap as finite
use Rattle.mesh_base.specs.Sides.{above}
use Rattle.mesh_plain.specs.Copying.{with_vertex_of, with_vertices_of}
use Rattle.mesh_plain.proofs.tables.Tables.put_vertices.Given as goal

-- with those above the last, it becomes what it becomes with all
abbrev pub invariant-loop-v : goal.invariant-loop-v
invariant-loop-v g l = fold (with_vertex_of (g.S.Surface.mesh l.mesh)) l.self (above l.last (finite.keys (g.S.Surface.mesh l.mesh).points)) ≡ with_vertices_of (g.S.Surface.mesh l.mesh) l.fn.self

-- those above the last become fewer
abbrev pub decreases-loop-v : goal.decreases-loop-v
decreases-loop-v g l = length (above l.last (finite.keys (g.S.Surface.mesh l.mesh).points))
