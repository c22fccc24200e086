-- Which lines of a log fit the lines before them.
use Rattle.std.specs.Prelude.{◌≡◌, ℕ, ◌<◌, ⊤, true, false, [], length, MatchBool}
use Rattle.std.specs.FinMap as finite
use Rattle.mesh_base.specs.Mesh.{Mesh, IsLiveVertex}
use Rattle.mesh_base.specs.Sides.{IsClosed}
use Rattle.mesh_base.specs.Placements.{IsClearMesh}
use Rattle.mesh_ids.specs.NewIds.{MayTake}
use Rattle.edit_any.specs.Answered.{IsAnswered}
use Rattle.step_text.specs.declared.TheConstants.{GROUPS_MAX}
use Rattle.log_text.specs.declared.LogLine.{LogLine}
use Rattle.log_text.specs.declared.LogLine.TheVariants as line
use Rattle.log_run.specs.States.{LogState}
use Rattle.log_replay.specs.Moves.{MayMove}

-- what fits as the first line: that of the version
abbrev pub FitsFirst : LogLine → Type 0
FitsFirst (line.First version) = ⊤
FitsFirst _ = ⊥

-- What fits after other lines: within a step its moves and its end; between two steps a mesh line
-- with the numbers of vertices and faces, the beginning of a step, the solid mark of a live vertex,
-- an edit that comes out so, a group while fewer than `GROUPS_MAX` are open, and the end of one
-- that is open; where no group is open, new ids for all vertices or all faces; a second line of the
-- version nowhere; and every other line anywhere.
abbrev pub FitsLater : LogState → LogLine → Type 0
FitsLater s (line.First version) = ⊥
FitsLater s (line.Mesh k vertices faces) =
    (s.is_begun ≡ false)
    × (vertices ≡ finite.len s.replay.mesh.points)
    × (faces ≡ finite.len s.replay.mesh.faces)
FitsLater s (line.Step k) = s.is_begun ≡ false
FitsLater s (line.Vertices new) =
    (s.is_begun ≡ false)
    × (s.replay.stack ≡ [])
    × MayTake (finite.len s.replay.mesh.points) new.ids new.next
FitsLater s (line.Faces new) =
    (s.is_begun ≡ false)
    × (s.replay.stack ≡ [])
    × MayTake (finite.len s.replay.mesh.faces) new.ids new.next
FitsLater s (line.Solid v) = (s.is_begun ≡ false) × IsLiveVertex s.replay.mesh v
FitsLater s (line.Move shift) = (s.is_begun ≡ true) × MayMove s.replay.mesh s.replay.moves shift
FitsLater s (line.Moved how) = s.is_begun ≡ true
FitsLater s (line.Did change) = (s.is_begun ≡ false) × IsAnswered s.replay.mesh change
FitsLater s line.Group = (s.is_begun ≡ false) × (length s.replay.stack < GROUPS_MAX)
FitsLater s (line.Close kept) = (s.is_begun ≡ false) × (0 < length s.replay.stack)
FitsLater s _ = ⊤

-- what fits the lines before it
abbrev pub LineFits : LogState → LogLine → Type 0
LineFits s l = MatchBool s.has_line (FitsLater s l) (FitsFirst l)

-- what has to hold of a mesh where a line is to be taken: of one that is
-- edited, that it is closed and clear
abbrev pub MayBeTried : Mesh → LogLine → Type 0
MayBeTried m (line.Did change) = IsClosed m × IsClearMesh m
MayBeTried m _ = ⊤
