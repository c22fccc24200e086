-- Which meshes of a log are stored.
use Rattle.std.specs.Prelude.{ℕ, ◌==◌, Bool, true, List, [], ◌∷◌, ◌++◌, Option, Some, None, if◌then◌else◌}
use Rattle.log_text.specs.declared.LogLine.{LogLine}
use Rattle.log_text.specs.declared.LogLine.TheVariants.{Mesh as MeshLine}
use Rattle.log_replay.specs.Replay.{Replay, replayed}
use Rattle.track_engine.specs.Saved.{Target, file_at}

-- the texts of files, each behind the name of its file, in order
abbrev pub NamedTexts : Type 0
NamedTexts = List (List ℕ × List ℕ)

-- whether the mesh of this number is stored: each is, or the one alone of the number that is given
abbrev pub is_wanted : Option ℕ → ℕ → Bool
is_wanted None k = true
is_wanted (Some only) k = k == only

-- the file that a line names, with the text of the replay's mesh there, if that mesh is stored
abbrev pub wanted_at : Option ℕ → Target → Replay → LogLine → NamedTexts
wanted_at only to r (MeshLine k vertices faces) =
    if is_wanted only k then file_at to r (MeshLine k vertices faces) else []
wanted_at only to r _ = []

-- the files that the lines name whose meshes are stored, in order
abbrev pub wanted_of : Option ℕ → Target → Replay → List LogLine → NamedTexts
wanted_of only to r [] = []
wanted_of only to r (line ∷ lines) =
    wanted_at only to r line ++ wanted_of only to (replayed r line) lines
