-- The lines of a pass, of a step and of a mesh are in the log's ranges, as statements.
use Rattle.std.specs.Prelude.{ℕ, ◌≤◌, Bool, List, [], ◌∷◌, ◌++◌, map, take}
use Rattle.std.specs.List.{All, AllByRecursion}
use Rattle.std.specs.FinMap as finite
use Rattle.grid_base.specs.declared.Positions.{Positions}
use Rattle.grid_base.specs.SeparationTests.{IsExact}
use Rattle.mesh_base.specs.declared.Scale.{Scale}
use Rattle.mesh_base.specs.declared.How.{How}
use Rattle.mesh_base.specs.declared.ids.PairName.{PairName}
use Rattle.mesh_base.specs.Mesh.{Mesh, IsSound, IsLiveVertex}
use Rattle.mesh_base.specs.Sides.{IsClosed}
use Rattle.mesh_base.specs.Pairs.{edges}
use Rattle.mesh_sizing.specs.declared.sizing.Want.{Want}
use Rattle.mesh_base.specs.Placements.{IsClearMesh}
use Rattle.mesh_base.specs.Shifts.{Shifts, NameLive}
use Rattle.step_choose.specs.declared.settings.Settings.{Settings}
use Rattle.step_choose.specs.Settings.{AreWithinLimits}
use Rattle.step_choose.specs.Choice.{IsFirstWay}
use Rattle.edit_base.specs.declared.Asked.{Asked}
use Rattle.edit_base.specs.declared.PassKind.{PassKind}
use Rattle.log_text.specs.declared.TheConstants.{COUNT_MAX}
use Rattle.log_text.specs.declared.log_line.LogLine.{LogLine}
use Rattle.log_text.specs.declared.log_line.LogLine.TheVariants.{Step, Hit, Block, Move, Moved, Mesh as MeshLine}
use Rattle.log_read.specs.Laws.{IsFrom, IsPairInRange, IsHowInRange, IsPassInRange, IsAskedInRange, IsInRange, NamesNoOther}
use Rattle.log_replay.specs.Laws.{IsWithin}
use Rattle.pass_run.specs.declared.terms.PassTerms.{PassTerms}
use Rattle.pass_run.specs.Candidates.{candidates}
use Rattle.pass_run.specs.PassLines.{pass_lines, lines_from}
use Rattle.pass_run.specs.Edits.{edit_rules}
use Rattle.pass_run.specs.Fits.{fit_lines}
use Rattle.run_laws.specs.Names.{IsBlockInRange}

-- The line may stand behind a first line that names the version that is written: it is in its
-- range, by how large the meshes of a job may be, and names no other version.
abbrev pub MayFollow : Scale → LogLine → Type 0
MayFollow scale l = IsInRange scale l × NamesNoOther l

-- each of the lines may
abbrev pub AreInRange : Scale → List LogLine → Type 0
AreInRange scale lines = All (MayFollow scale) lines

-- ---- passes

-- what a pass asks of a sound mesh
abbrev pub CandidatesAreInRange : Type 0
CandidatesAreInRange =
    (m : Mesh) (kind : PassKind) → IsSound m → All IsAskedInRange (candidates m kind)

-- the lines of a pass over a sound and closed mesh
abbrev pub PassLinesAreInRange : Type 0
PassLinesAreInRange = (scale : Scale) (meets : Positions → Bool) (terms : PassTerms) (m : Mesh) →
    IsSound m → IsClosed m → IsPassInRange terms.kind → AreInRange scale (pass_lines meets terms m)

-- the lines of a pass by a sizing over the edges of a sound and closed mesh, or over the first of
-- them, whatever is wanted of each
abbrev pub FitLinesAreInRange : Type 0
FitLinesAreInRange = (scale : Scale) (meets : Positions → Bool) (wants : ℕ × ℕ → Want) (depth : ℕ)
    (grouped : Bool) (m : Mesh) → IsSound m → IsClosed m →
    AreInRange scale (fit_lines meets wants depth grouped m (edges m))
    × ((count : ℕ) →
    AreInRange scale (fit_lines meets wants depth grouped m (take count (edges m))))

-- the lines of edits that are asked for of a sound and closed mesh, where what is asked is in range
abbrev pub EditLinesAreInRange : Type 0
EditLinesAreInRange = (scale : Scale) (meets : Positions → Bool) (depth : ℕ) (grouped : Bool)
    (m : Mesh) → IsSound m → IsClosed m → (asked : List Asked) → AllByRecursion IsAskedInRange asked →
    AreInRange scale (lines_from (edit_rules meets depth grouped) m asked)

-- ---- steps

-- the lines of a step: its number, the pairs that fail, the blocks, the moves, and how it is taken
abbrev pub lines_of_step : ℕ → List PairName → List (List ℕ) → Shifts → How → List LogLine
lines_of_step k pairs blocks moves how =
    Step k ∷ (map (λ p. Hit p) pairs
    ++ (map (λ ids. Block ids) blocks ++ (map (λ s. Move s) moves ++ Moved how ∷ [])))

-- they are in range, where the moves are of live vertices
abbrev pub StepLinesAreInRange : Type 0
StepLinesAreInRange = (scale : Scale) (m : Mesh) (k : ℕ) (pairs : List PairName)
    (blocks : List (List ℕ)) (moves : Shifts) (how : How) →
    IsSound m → IsFrom 1 COUNT_MAX k → All IsPairInRange pairs → All IsBlockInRange blocks →
    All (λ s. IsLiveVertex m s.v) moves →
    IsHowInRange scale how → AreInRange scale (lines_of_step k pairs blocks moves how)

-- The way in which a step of a mesh within the limits of a scale is taken is in range: how many
-- impulse passes or halvings there were, or which round of impact zones.
abbrev pub WaysAreInRange : Type 0
WaysAreInRange = (scale : Scale) (meets : Positions → Bool) (m : Mesh) (asked : Shifts) (set : Settings)
    (how : How) (taken : Shifts) →
    IsExact meets → IsWithin scale m.limits → IsSound m → IsClearMesh m → NameLive m asked →
    AreWithinLimits set → IsFirstWay meets m asked set how taken → IsHowInRange scale how

-- ---- meshes

-- the line of a sound mesh within the limits of a scale, with its live numbers
abbrev pub MeshLinesAreInRange : Type 0
MeshLinesAreInRange = (scale : Scale) (m : Mesh) (k : ℕ) → IsWithin scale m.limits →
    IsSound m → k ≤ COUNT_MAX → MayFollow scale (MeshLine k (finite.len m.points) (finite.len m.faces))
