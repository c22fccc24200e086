-- What a fetch of a file answers.
use Rattle.std.specs.Prelude.{ℕ, ◌≤◌, ◌<◌, List, length, Option}
use Rattle.mesh_base.specs.declared.Scale.{Scale}
use Rattle.mesh_base.specs.Limits.{text_most}
use Rattle.log_text.specs.declared.TheConstants.{SEEN_MAX}
use Rattle.outside_io.specs.Desk.{Files, HoldsFile, HoldsNoFile, HoldsAtLeast}

-- the bytes of a file, that there is none, or how many were seen of one that is too long
pub data Source : Type 0 where
  Bytes : (bytes : List ℕ) → Source
  Absent : Source
  TooLong : (seen : ℕ) → Source

-- What a fetch answers is what the name holds, where that is told, by how long the texts of a
-- job may be. A count of bytes that are too many is a number of the log.
abbrev pub IsSource : Scale → Option Files → List ℕ → Source → Type 0
IsSource scale files name (Bytes bytes) =
    (length bytes ≤ text_most scale) × HoldsFile files name bytes
IsSource scale files name Absent = HoldsNoFile files name
IsSource scale files name (TooLong seen) =
    (text_most scale < seen) × (seen ≤ SEEN_MAX) × HoldsAtLeast files name seen
