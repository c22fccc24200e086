-- The laws of collapses to whatever point, as statements.
use Rattle.std.specs.Prelude.{◌≡◌, ℕ, Bool, false, None}
use Rattle.grid_base.specs.declared.Point.{Point}
use Rattle.grid_base.specs.declared.Positions.{Positions}
use Rattle.grid_base.specs.SeparationTests.{IsExact}
use Rattle.mesh_base.specs.Mesh.{Mesh, IsSound}
use Rattle.mesh_base.specs.Limits.{is_over_limits}
use Rattle.mesh_base.specs.Placements.{IsClearMesh}
use Rattle.edit_base.specs.Edges.{Edge, doubles_a_face}
use Rattle.edit_base.specs.Scaffold.{first_failing}
use Rattle.edit_base.specs.Laws.{OfEachEdge}
use Rattle.edit_collapse.specs.Collapse.{joined_faces, collapse_mesh, collapse_scaffold}

-- The collapse leaves a sound mesh where no face is doubled and no limit passed.
abbrev pub CollapseIsSound : Mesh → Edge → Type 0
CollapseIsSound m s = (at : Point) → doubles_a_face (joined_faces m s.a s.b) ≡ false →
    is_over_limits (collapse_mesh m s.a s.b at) ≡ false → IsSound (collapse_mesh m s.a s.b at)

-- It leaves a clear mesh where no pair, by this test, fails to do what is required of it on the
-- way.
abbrev pub CollapseIsClear : (Positions → Bool) → Mesh → Edge → Type 0
CollapseIsClear meets m s = (at : Point) (depth : ℕ) →
    first_failing meets (collapse_scaffold m s.a s.b at) depth ≡ None →
    IsClearMesh (collapse_mesh m s.a s.b at)

-- So it is by each exact test.
abbrev pub CollapsesAreClear : Type 0
CollapsesAreClear =
    (meets : Positions → Bool) → IsExact meets → OfEachEdge (CollapseIsClear meets)
