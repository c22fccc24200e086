-- What is kept while turns are tried and none is taken.
use Rattle.std.proofs.Common.{◌≡◌, List, Result, Ok, Err, subst}
use Rattle.grid_base.specs.declared.NoMemory.{NoMemory}
use Rattle.mesh_base.specs.Mesh.{Mesh}
use Rattle.mesh_base.specs.Kept.{BeginsWith}
use Rattle.edit_zip.specs.Trying.{KeepsWhereNoneIsTaken}
use Rattle.edit_zip.specs.declared.attempts.Attempt.{Attempt}
use Rattle.edit_zip.specs.declared.attempts.Attempt.TheVariants.{Taken, Failed}

-- where the kept meshes are those before, that is said of any answer
pub keeps : (result : Result Attempt NoMemory) (new old : List Mesh) → new ≡ old → KeepsWhereNoneIsTaken result new old
keeps (Ok (Taken k)) new old h = tt
keeps (Ok (Failed why)) new old h = h
keeps (Err fault) new old h = h

-- what begins with the kept meshes of before begins with those at the beginning
pub marks : (newest new old : List Mesh) → BeginsWith newest new → new ≡ old → BeginsWith newest old
marks newest new old h e = subst (BeginsWith newest) e h
