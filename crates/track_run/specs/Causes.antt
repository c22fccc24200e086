-- Why a run ends as it does.
use Rattle.std.specs.Prelude.{◌≡◌, ℕ, List, [], ◌∷◌, ◌++◌, length, Some, None, Ok, Err}
use Rattle.mesh_base.specs.declared.UseWhy.{UseWhy}
use Rattle.mesh_base.specs.declared.FileWord.TheVariants as file
use Rattle.mesh_base.specs.declared.PairName.{PairName}
use Rattle.mesh_base.specs.Mesh.{Mesh}
use Rattle.mesh_base.specs.Placements.{IsClearMesh}
use Rattle.pair_scan.specs.Scan.{IsMeeting, NoneMeetsBefore}
use Rattle.mesh_shape.specs.Shape.{shape_fault}
use Rattle.obj_text.specs.Obj.{Lists, lists_of}
use Rattle.step_text.specs.declared.Placed.{Placed}
use Rattle.step_text.specs.Steps.{steps_of}
use Rattle.log_text.specs.declared.LogLine.{LogLine}
use Rattle.track_run.specs.declared.outcome.Outcome.{Outcome}
use Rattle.track_run.specs.declared.outcome.Outcome.TheVariants as outcome
use Rattle.track_engine.specs.State.{State, start}
use Rattle.track_engine.specs.Answers.{Answers, first, later}
use Rattle.track_engine.specs.Effects.{Proceeds, Refused, effect_of}
use Rattle.track_input.specs.Source.{Source, Bytes, Absent, TooLong}
use Rattle.track_input.specs.Job.{Job, mesh_of_lists, met_first}

-- the file is there, and no longer than a text may be
abbrev pub IsThere : Source → Type 0
IsThere source = (bytes : List ℕ) × (source ≡ Bytes bytes)

-- both files are there, and these lists are what the mesh file's text gives
pub record HasLists (job : Job) (lists : Lists) (steps : List ℕ) : Type 0 where
  pub mesh : List ℕ
  pub mesh_file : job.mesh_file ≡ Bytes mesh
  pub step_file : job.step_file ≡ Bytes steps
  pub read : lists_of job.decimals mesh ≡ Ok lists

-- the lists are of good shape too, and within the limits of the job
pub record HasMesh (job : Job) (lists : Lists) (steps : List ℕ) : Type 0 where
  pub lists_read : HasLists job lists steps
  pub good : shape_fault job.scale (length lists.points) lists.faces ≡ None

-- and both texts are read without a fault
pub record HasSteps (job : Job) (lists : Lists) (directives : List Placed) : Type 0 where
  pub steps : List ℕ
  pub mesh_read : HasMesh job lists steps
  pub read : steps_of steps ≡ Ok directives

-- and no edge of the mesh meets a face that shares no vertex with it
pub record HasClear (job : Job) (lists : Lists) (directives : List Placed) : Type 0 where
  pub steps_read : HasSteps job lists directives
  pub clear : met_first (mesh_of_lists job.scale lists) ≡ None
  pub none_meets : IsClearMesh (mesh_of_lists job.scale lists)

-- the pair is the first that meets: it is a pair of the mesh and meets,
-- and none that meets comes before it
pub record MeetsFirst (m : Mesh) (pair : PairName) : Type 0 where
  pub found : met_first m ≡ Some pair
  pub meets : IsMeeting m pair
  pub none_before : NoneMeetsBefore m pair

-- all of these directives are taken as they are answered, from one state to the other
abbrev pub Reaches : Answers → State → List Placed → State → Type 0
Reaches answers s [] t = s ≡ t
Reaches answers s (placed ∷ more) t =
    (lines : List LogLine) × (next : State)
    × (effect_of (first answers) placed.what s ≡ Proceeds lines next)
    × Reaches (later answers) next more t

-- the answers to the directives after these
abbrev pub answers_after : List Placed → Answers → Answers
answers_after [] answers = answers
answers_after (placed ∷ more) answers = answers_after more (later answers)

-- the directives before one are all taken, and that one, at this line of the step file, is refused
pub record IsRefusedAt (answers : Answers) (s : State) (directives : List Placed) (line : ℕ)
    (why : UseWhy) : Type 0 where
  pub front : List Placed
  pub placed : Placed
  pub rest : List Placed
  pub split : directives ≡ front ++ placed ∷ rest
  pub state : State
  pub reached : Reaches answers s front state
  pub refused : effect_of (first (answers_after front answers)) placed.what state ≡ Refused why
  pub line_is : line ≡ placed.line

-- Why a job has an outcome, by what fields and the sizing answer to its directives. Each cause
-- holds what must have gone well before it, so no job has two.
abbrev pub Cause : Job → Answers → Outcome → Type 0
Cause job answers outcome.Done =
    (lists : Lists) × (directives : List Placed) × HasClear job lists directives × (end : State)
    × Reaches answers (start (mesh_of_lists job.scale lists)) directives end
Cause job answers (outcome.TooLong file.Mesh seen) = job.mesh_file ≡ TooLong seen
Cause job answers (outcome.TooLong file.Steps seen) =
    IsThere job.mesh_file × (job.step_file ≡ TooLong seen)
Cause job answers (outcome.Missing file.Mesh) = job.mesh_file ≡ Absent
Cause job answers (outcome.Missing file.Steps) = IsThere job.mesh_file × (job.step_file ≡ Absent)
-- a job has no log and no proof of one
Cause job answers (outcome.TooLong file.Log seen) = ⊥
Cause job answers (outcome.TooLong file.Proof seen) = ⊥
Cause job answers (outcome.Missing file.Log) = ⊥
Cause job answers (outcome.Missing file.Proof) = ⊥
Cause job answers (outcome.MeshText fault) =
    (bytes : List ℕ) × (job.mesh_file ≡ Bytes bytes) × IsThere job.step_file
    × (lists_of job.decimals bytes ≡ Err fault)
Cause job answers (outcome.MeshShape fault) =
    (lists : Lists) × (steps : List ℕ) × HasLists job lists steps
    × (shape_fault job.scale (length lists.points) lists.faces ≡ Some fault)
Cause job answers (outcome.StepText fault) =
    (lists : Lists) × (steps : List ℕ) × HasMesh job lists steps × (steps_of steps ≡ Err fault)
Cause job answers (outcome.StepUse line why) =
    (lists : Lists) × (directives : List Placed) × HasClear job lists directives
    × IsRefusedAt answers (start (mesh_of_lists job.scale lists)) directives line why
Cause job answers (outcome.MeshMeets pair) =
    (lists : Lists) × (directives : List Placed) × HasSteps job lists directives
    × MeetsFirst (mesh_of_lists job.scale lists) pair
Cause job answers (outcome.LogText fault) = ⊥
Cause job answers (outcome.LogUse line) = ⊥
Cause job answers (outcome.ProofText fault) = ⊥
Cause job answers (outcome.ProofBad line verdict) = ⊥
-- no job is of words that name none
Cause job answers outcome.Usage = ⊥
-- these stop a run, whatever its job
Cause job answers outcome.NoMemory = Unit {0}
Cause job answers outcome.DeskFault = Unit {0}
Cause job answers outcome.SinkFault = Unit {0}

-- the run was stopped before the end of its log
abbrev pub IsStopped : Outcome → Type 0
IsStopped outcome.NoMemory = Unit {0}
IsStopped outcome.DeskFault = Unit {0}
IsStopped outcome.SinkFault = Unit {0}
IsStopped _ = ⊥
