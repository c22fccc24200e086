-- What a file gives, by what was fetched and read.
use Rattle.std.proofs.Common.{◌≡◌, ℕ, List, refl, subst}
use Rattle.std.specs.declared.option.Option.{Option}
use Rattle.mesh_base.specs.declared.FileWord.TheVariants as file
use Rattle.mesh_base.specs.declared.limits.Scale.{Scale}
use Rattle.log_text.specs.declared.Refusal.TheVariants as refusal
use Rattle.outside_io.specs.Desk.{Files}
use Rattle.outside_io.specs.declared.outside.Fetched.{Fetched}
use Rattle.outside_io.specs.declared.outside.Fetched.TheVariants as fetched
use Rattle.track_input.specs.Fetched.{source_of}
use Rattle.track_input.specs.Source.{Source, Bytes, Absent, TooLong, IsSource}
use Rattle.track_input.specs.Words.{MeshName}
use Rattle.track_input.proofs.Sources.{some_source}
use Rattle.track_check.specs.declared.file_lists.FileLists.{FileLists}
use Rattle.track_check.specs.declared.file_lists.FileLists.TheVariants as found
use Rattle.track_check.specs.Check.{Check, IsCheck}
use Rattle.track_check.specs.Finding.{Finds, Reads}

module _ (scale : Scale) (files : Option Files) (mesh : MeshName) (decimals : ℕ) where
  abbrev pub check_of : Source → Check
  check_of source = record { scale = scale; source = source; format = mesh.format; decimals = decimals }

  pub is_check_of : (source : Source) → IsSource scale files mesh.name source → IsCheck scale files mesh decimals (check_of source)
  is_check_of source h = record { scale_is = refl; source = h; format_is = refl; decimals_are = refl }

  -- each file has a check
  pub some_check : (c : Check) × IsCheck scale files mesh decimals c
  some_check = let s = some_source scale files mesh.name in (check_of s.0, is_check_of s.0 s.1)

  source_at : (f g : Fetched) → f ≡ g → IsSource scale files mesh.name (source_of f) → IsSource scale files mesh.name (source_of g)
  source_at f g e h = let P : Fetched → Type 0 = λ x. IsSource scale files mesh.name (source_of x) in subst P e h

  pub finds_absent : (f : Fetched) → f ≡ fetched.Absent → IsSource scale files mesh.name (source_of f) → Finds scale files mesh decimals (found.No (refusal.Missing file.Mesh))
  finds_absent f e h = record { check = check_of Absent; is_check = is_check_of Absent (source_at f fetched.Absent e h); given = refl }

  pub finds_long : (f : Fetched) (seen : ℕ) → f ≡ fetched.TooLong seen → IsSource scale files mesh.name (source_of f) → Finds scale files mesh decimals (found.No (refusal.Long file.Mesh seen))
  finds_long f seen e h = record { check = check_of (TooLong seen); is_check = is_check_of (TooLong seen) (source_at f (fetched.TooLong seen) e h); given = refl }

  pub finds_read : (f : Fetched) (bytes : List ℕ) → source_of f ≡ Bytes bytes → IsSource scale files mesh.name (source_of f) → (r : FileLists) → Reads mesh.format decimals bytes r → Finds scale files mesh decimals r
  finds_read f bytes e h r reads = record {
    check = check_of (Bytes bytes);
    is_check = is_check_of (Bytes bytes) (let P : Source → Type 0 = λ s. IsSource scale files mesh.name s in subst P e h);
    given = reads;
  }
