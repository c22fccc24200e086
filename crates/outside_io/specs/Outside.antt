-- What the two sides of a run do as one.
use Rattle.std.specs.Prelude.{◌≡◌, ◌≤◌, ◌<◌, ℕ, List, length, Option, Result, IfOk, OnOk, OnErr, IfErr, IsErrOf}
use Rattle.in_out.specs.InOut.{InOut, value_before, value_after}
use Rattle.outside_io.specs.declared.stop.Stop.{Stop}
use Rattle.outside_io.specs.declared.stop.Stop.TheVariants.{NoMemory, DeskFault, SinkFault}
use Rattle.outside_io.specs.declared.outside.Fetched.{Fetched}
use Rattle.outside_io.specs.declared.outside.Fetched.TheVariants as fetched
use Rattle.outside_io.specs.Causes.{Rose}
use Rattle.outside_io.specs.Desk.{Files, with_file, SameBut, HoldsFile, HoldsNoFile, HoldsAtLeast}
use Rattle.outside_io.specs.Sink.{appended, AppendsPart}
use Rattle.outside_io.specs.World.{Contents, World}

-- what is outside: which two sides these are, by the names of their borrows, what they
-- hold, and how often each has failed
pub record Around : Type 0 where
  pub sides : ℕ × ℕ
  pub world : World

-- the counts of faults have not fallen, and at a fault the one of its side has risen
pub record HasCauses {T : Type 0} (old new : World) (result : Result T Stop) : Type 0 where
  pub desk : old.desk_faults ≤ new.desk_faults
  pub out : old.sink_faults ≤ new.sink_faults
  pub desk_fault : IsErrOf result DeskFault → Rose old.desk_faults new.desk_faults
  pub sink_fault : IsErrOf result SinkFault → Rose old.sink_faults new.sink_faults

-- these are the same two sides, and their faults are counted
pub record Counts {T : Type 0} (old new : Around) (result : Result T Stop) : Type 0 where
  pub same : new.sides ≡ old.sides
  pub causes : HasCauses old.world new.world result

-- what a fetch found is what the name holds, where that is told
abbrev pub IsFetched : ℕ → Option Files → List ℕ → Fetched → Type 0
IsFetched limit files name (fetched.Bytes bytes) =
    (length bytes.items ≤ limit) × HoldsFile files name bytes.items
IsFetched limit files name fetched.Absent = HoldsNoFile files name
IsFetched limit files name (fetched.TooLong seen) = (limit < seen) × HoldsAtLeast files name seen

-- nothing is written or stored, and the sink is not at fault
pub record OnlyLooks {T : Type 0} (old new : Around) (result : Result T Stop) : Type 0 where
  pub kept : new.world.holds ≡ old.world.holds
  pub no_sink : IsErrOf result SinkFault → ⊥
  pub counts : Counts old new result

-- a file is fetched
pub record Fetches (limit : ℕ) (name : List ℕ) (old new : Around)
    (result : Result Fetched Stop) : Type 0 where
  pub found : IfOk result (IsFetched limit old.world.holds.files name)
  pub looks : OnlyLooks old new result

-- a file is stored, or memory was wanting and nothing was done, or the desk
-- failed and no other file is touched
pub record Stores (name bytes : List ℕ) (old new : Around)
    (result : Result (Unit {0}) Stop) : Type 0 where
  pub stored : OnOk result (new.world.holds.files ≡ with_file old.world.holds.files name bytes)
  pub refused : IsErrOf result NoMemory → new.world.holds.files ≡ old.world.holds.files
  pub others : IsErrOf result DeskFault → SameBut name old.world.holds.files new.world.holds.files
  pub written : new.world.holds.written ≡ old.world.holds.written
  pub no_sink : IsErrOf result SinkFault → ⊥
  pub counts : Counts old new result

-- bytes are written, or the first of them and not all: then the sink failed
pub record Puts (bytes : List ℕ) (old new : Around) (result : Result (Unit {0}) Stop) : Type 0 where
  pub whole : OnOk result (new.world.holds.written ≡ appended old.world.holds.written bytes)
  pub part : OnErr result (AppendsPart old.world.holds.written new.world.holds.written bytes)
  pub files : new.world.holds.files ≡ old.world.holds.files
  pub desk : new.world.desk_faults ≡ old.world.desk_faults
  pub fault : IfErr result (λ stop. stop ≡ SinkFault)
  pub counts : Counts old new result

-- whatever is written, nothing is stored, no fault is the desk's, and the sink's are counted
pub record StoresNothing {T : Type 0} (old new : Around) (result : Result T Stop) : Type 0 where
  pub files : new.world.holds.files ≡ old.world.holds.files
  pub desk : new.world.desk_faults ≡ old.world.desk_faults
  pub no_desk : IsErrOf result DeskFault → ⊥
  pub counts : Counts old new result

-- what both sides hold
abbrev pub holds_of : Around → Contents
holds_of around = around.world.holds

-- what the sink was given
abbrev pub written_of : Around → Option (List ℕ)
written_of around = around.world.holds.written

-- ---- of a call that is handed what is outside, by how a contract sees it

-- the world before the call and the one after it stand so to each other
abbrev pub InWorld : {O : Type 0} → (O → Around) → InOut O → (World → World → Type 0) → Type 0
InWorld around outside relation =
    relation (around (value_before outside)).world (around (value_after outside)).world

-- the files that the desk holds before the call
abbrev pub files_before : {O : Type 0} → (O → Around) → InOut O → Option Files
files_before around outside = (around (value_before outside)).world.holds.files

-- the call wrote these bytes, all of them, at the end of what was written
abbrev pub WritesAll : {O : Type 0} → (O → Around) → InOut O → List ℕ → Type 0
WritesAll around outside bytes =
    written_of (around (value_after outside))
    ≡ appended (written_of (around (value_before outside))) bytes

-- the call wrote the first of these bytes, perhaps none, and not all of them
abbrev pub WritesPart : {O : Type 0} → (O → Around) → InOut O → List ℕ → Type 0
WritesPart around outside bytes =
    AppendsPart (written_of (around (value_before outside)))
    (written_of (around (value_after outside))) bytes

-- whatever the call wrote, it stored nothing, met no fault of the desk, and counted the sink's
abbrev pub LeavesDesk : {O T : Type 0} → (O → Around) → InOut O → Result T Stop → Type 0
LeavesDesk around outside result =
    StoresNothing (around (value_before outside)) (around (value_after outside)) result
