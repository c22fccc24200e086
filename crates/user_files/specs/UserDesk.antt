-- Of the desk of a user: a desk that counts exactly, and how often two desks have failed.
use Rattle.std.specs.Prelude.{◌≡◌, ◌≤◌, ◌<◌, ℕ, ◌+◌, ◌-◌, ◌^◌, min, List, [], length, Option, Result, OnOk, OnErr, IsErrOf}
use Rattle.outside_io.specs.declared.desk.FetchFault.{FetchFault}
use Rattle.outside_io.specs.declared.desk.FetchFault.TheVariants as fetch
use Rattle.outside_io.specs.declared.desk.StoreFault.{StoreFault}
use Rattle.outside_io.specs.declared.desk.StoreFault.TheVariants as store
use Rattle.outside_io.specs.Causes.{Rose}
use Rattle.outside_io.specs.Desk.{Files, with_file, SameBut, HoldsFile, HoldsNoFile, HoldsAtLeast}

-- what a desk tells of its files, and how often it has failed
pub record Told : Type 0 where
  pub files : Option Files
  pub faults : ℕ

-- what a file store (desk) tells of itself
abbrev pub told : {D : Type 0} → (D → Option Files) → (D → ℕ) → D → Told
told files faults desk = record { files = files desk; faults = faults desk }

-- A fetch does what that of each desk does, and counts no fault where it does not fail.
pub record FetchesExactly (name : List ℕ) (limit : ℕ) (old new : Told) (into : List ℕ)
    (result : Result (Unit {0}) FetchFault) : Type 0 where
  pub found : OnOk result (HoldsFile old.files name into)
  pub within : OnOk result (length into ≤ limit)
  pub refused : OnErr result (into ≡ [])
  pub kept : new.files ≡ old.files
  pub long : (seen : ℕ) → IsErrOf result (fetch.TooLong seen) → limit < seen
  pub seen : (seen : ℕ) → IsErrOf result (fetch.TooLong seen) → HoldsAtLeast old.files name seen
  pub missing : IsErrOf result fetch.Missing → HoldsNoFile old.files name
  pub later : old.faults ≤ new.faults
  pub failed : IsErrOf result fetch.Failed → Rose old.faults new.faults
  pub none : ¬ IsErrOf result fetch.Failed → new.faults ≡ old.faults

-- A store likewise.
pub record StoresExactly (name bytes : List ℕ) (old new : Told)
    (result : Result (Unit {0}) StoreFault) : Type 0 where
  pub stored : OnOk result (new.files ≡ with_file old.files name bytes)
  pub refused : IsErrOf result store.NoMemory → new.files ≡ old.files
  pub others : IsErrOf result store.Failed → SameBut name old.files new.files
  pub later : old.faults ≤ new.faults
  pub failed : IsErrOf result store.Failed → Rose old.faults new.faults
  pub none : ¬ IsErrOf result store.Failed → new.faults ≡ old.faults

-- the faults of two desks, which are counted as one; the count stands still at its end
abbrev pub faults_of_both : ℕ → ℕ → ℕ
faults_of_both files spared = min (files + spared) (2 ^ 64 - 1)
