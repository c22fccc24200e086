-- What the lines of a pass promise, and those of edits that are asked for.
use Rattle.std.specs.Prelude.{◌≡◌, ℕ, Bool, List}
use Rattle.grid_base.specs.declared.Positions.{Positions}
use Rattle.grid_base.specs.SeparationTests.{IsExact}
use Rattle.mesh_base.specs.Valid.{IsValidSurface}
use Rattle.edit_base.specs.declared.Asked.{Asked}
use Rattle.log_replay.specs.Replay.{Replay, after}
use Rattle.log_replay.specs.Safe.{LinesKeepTheMesh}
use Rattle.pass_run.specs.declared.terms.PassTerms.{PassTerms}
use Rattle.pass_run.specs.PassLines.{pass_lines, mesh_after_pass, lines_from, mesh_after_all}
use Rattle.pass_run.specs.Edits.{edit_rules}

-- The lines of a pass, replayed from its opening mesh, give the mesh that it leaves, and
-- change nothing else of the replay.
abbrev pub LinesTellTheMesh : Type 0
LinesTellTheMesh = (meets : Positions → Bool) (r : Replay) (terms : PassTerms) →
    after r (pass_lines meets terms r.mesh) ≡ record r { mesh = mesh_after_pass meets terms r.mesh }

-- Each edit that the lines of a pass over a valid surface tell as done is safe where it stands,
-- each line leaves a valid surface, and so does the pass.
abbrev pub PassesKeepTheMesh : Type 0
PassesKeepTheMesh = (meets : Positions → Bool) → IsExact meets → (r : Replay) (terms : PassTerms) →
    IsValidSurface r.mesh →
    LinesKeepTheMesh r (pass_lines meets terms r.mesh)
    × IsValidSurface (mesh_after_pass meets terms r.mesh)

-- The same of edits that are asked for.
abbrev pub EditsTellTheMesh : Type 0
EditsTellTheMesh =
    (meets : Positions → Bool) (r : Replay) (depth : ℕ) (grouped : Bool) (asked : List Asked) →
    let rules = edit_rules meets depth grouped in
    after r (lines_from rules r.mesh asked) ≡ record r { mesh = mesh_after_all rules r.mesh asked }

-- And the same of those.
abbrev pub EditsKeepTheMesh : Type 0
EditsKeepTheMesh = (meets : Positions → Bool) → IsExact meets →
    (r : Replay) (depth : ℕ) (grouped : Bool) (asked : List Asked) → IsValidSurface r.mesh →
    let rules = edit_rules meets depth grouped in
    LinesKeepTheMesh r (lines_from rules r.mesh asked)
    × IsValidSurface (mesh_after_all rules r.mesh asked)
