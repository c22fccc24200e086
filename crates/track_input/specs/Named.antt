-- A command, its words as bytes.
use Rattle.std.specs.Prelude.{◌≤◌}
use Rattle.grid_base.specs.declared.TheConstants.{DECIMALS_MAX}
use Rattle.track_input.specs.declared.command.TheConstants.{CUBES_MAX}
use Rattle.track_input.specs.declared.command.Command.{Command}
use Rattle.track_input.specs.declared.command.Command.TheVariants as command
use Rattle.track_input.specs.declared.mesh_file.MeshFile.{MeshFile}
use Rattle.track_input.specs.declared.command.LogFiles.{LogFiles}
use Rattle.track_input.specs.declared.command.ProofFiles.{ProofFiles}
use Rattle.track_input.specs.declared.command.ReplayFiles.{ReplayFiles}
use Rattle.track_input.specs.Words.{MeshName, LogNames, ProofNames, ReplayNames, Named, Track}
use Rattle.track_input.specs.Words.{Convert, Try, Measure, Prove, Verify, Replay, Check}

-- the name of a mesh file, with its format
abbrev pub mesh_name : MeshFile → MeshName
mesh_name file = record { name = file.name.now; format = file.format }

-- the names of a mesh and a log, with the scale and the decimals
abbrev pub log_names : LogFiles → LogNames
log_names files = record {
  mesh = files.mesh.now;
  log = files.log.now;
  scale = files.scale;
  decimals = files.decimals;
}

-- the same with the name of a proof
abbrev pub proof_names : ProofFiles → ProofNames
proof_names given = record { names = log_names given.files; proof = given.proof.now }

-- the same with a prefix, and perhaps the number of a mesh
abbrev pub replay_names : ReplayFiles → ReplayNames
replay_names given =
    record { names = log_names given.files; prefix = given.prefix.now; only = given.only }

-- what the words of a command name
abbrev pub named_by : Command → Named
named_by (command.Track mesh steps prefix scale decimals) =
    Track mesh.now steps.now prefix.now scale decimals
named_by (command.Convert from to scale decimals) =
    Convert (mesh_name from) (mesh_name to) scale decimals
named_by (command.Try cubes key) = Try cubes key
named_by (command.Measure files) = Measure (log_names files)
named_by (command.Prove files) = Prove (log_names files)
named_by (command.Verify given) = Verify (proof_names given)
named_by (command.Replay given) = Replay (replay_names given)
named_by (command.Check mesh scale decimals) = Check (mesh_name mesh) scale decimals

-- its points have no more decimals than a text may have, and its cubes are few
abbrev pub IsInLimits : Command → Type 0
IsInLimits (command.Track mesh steps prefix scale decimals) = decimals ≤ DECIMALS_MAX
IsInLimits (command.Convert from to scale decimals) = decimals ≤ DECIMALS_MAX
IsInLimits (command.Try cubes key) = (1 ≤ cubes) × (cubes ≤ CUBES_MAX)
IsInLimits (command.Measure files) = files.decimals ≤ DECIMALS_MAX
IsInLimits (command.Prove files) = files.decimals ≤ DECIMALS_MAX
IsInLimits (command.Verify given) = given.files.decimals ≤ DECIMALS_MAX
IsInLimits (command.Replay given) = given.files.decimals ≤ DECIMALS_MAX
IsInLimits (command.Check mesh scale decimals) = decimals ≤ DECIMALS_MAX
