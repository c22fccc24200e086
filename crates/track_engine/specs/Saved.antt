-- The files that the lines of a log name.
use Rattle.std.specs.Prelude.{ℕ, drop, List, [], ◌∷◌, ◌++◌, length, codes, decimal, Option}
use Rattle.obj_text.specs.Written.{mesh_text}
use Rattle.log_text.specs.declared.LogLine.{LogLine}
use Rattle.log_text.specs.declared.LogLine.TheVariants.{Mesh as MeshLine}
use Rattle.log_replay.specs.Replay.{Replay, replayed}
use Rattle.outside_io.specs.Desk.{Files, with_file}

-- how meshes are saved: under which prefix, and with how many decimals
pub record Target : Type 0 where
  pub prefix : List ℕ
  pub decimals : ℕ

-- six digits at least
abbrev pub six_digits : ℕ → List ℕ
six_digits k = drop (length (decimal k)) (codes "000000") ++ decimal k

-- the name of the file of mesh k
abbrev pub file_name : List ℕ → ℕ → List ℕ
file_name prefix k = prefix ++ codes "-" ++ six_digits k ++ codes ".obj"

-- the file that a line names, with the text of the replay's mesh there
abbrev pub file_at : Target → Replay → LogLine → List (List ℕ × List ℕ)
file_at to r (MeshLine k vertices faces) =
    (file_name to.prefix k, mesh_text to.decimals r.mesh) ∷ []
file_at to r _ = []

-- the files that the lines name, in order
abbrev pub files_of : Target → Replay → List LogLine → List (List ℕ × List ℕ)
files_of to r [] = []
files_of to r (line ∷ lines) = file_at to r line ++ files_of to (replayed r line) lines

-- the files, with these stored in order
abbrev pub stored : List (List ℕ × List ℕ) → Option Files → Option Files
stored [] files = files
stored (file ∷ more) files = stored more (with_file files file.0 file.1)
