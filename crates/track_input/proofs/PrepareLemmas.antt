-- What is prepared, by what was fetched and read.
use Rattle.std.proofs.Common.{◌≡◌, ℕ, List, refl, subst}
use Rattle.std.specs.declared.option.Option.{Option}
use Rattle.mesh_base.specs.declared.FileWord.TheVariants as file
use Rattle.mesh_base.specs.declared.Scale.{Scale}
use Rattle.log_text.specs.declared.Refusal.TheVariants as refusal
use Rattle.outside_io.specs.Desk.{Files}
use Rattle.outside_io.specs.declared.outside.Fetched.{Fetched}
use Rattle.outside_io.specs.declared.outside.Fetched.TheVariants as found
use Rattle.track_input.specs.declared.inputs.Ready.{Ready}
use Rattle.track_input.specs.declared.inputs.Ready.TheVariants as ready
use Rattle.track_input.specs.Fetched.{source_of}
use Rattle.track_input.specs.Source.{Source, Bytes, Absent, TooLong, IsSource}
use Rattle.track_input.specs.Reading.{Prepares, Reads}
use Rattle.track_input.proofs.Sources.{some_source}

source_at : (scale : Scale) (files : Option Files) (name : List ℕ) (f g : Fetched) → f ≡ g → IsSource scale files name (source_of f) → IsSource scale files name (source_of g)
source_at scale files name f g e h = let P : Fetched → Type 0 = λ x. IsSource scale files name (source_of x) in subst P e h

module _ (scale : Scale) (files : Option Files) (mesh_name step_name : List ℕ) (decimals : ℕ) where
  pub prepares_absent : (f : Fetched) → f ≡ found.Absent → IsSource scale files mesh_name (source_of f) → Prepares scale files mesh_name step_name decimals (ready.No (refusal.Missing file.Mesh))
  prepares_absent f e h = record {
    job = record { scale = scale; decimals = decimals; mesh_file = Absent; step_file = (some_source scale files step_name).0 };
    is_job = record { scale_is = refl; decimals_are = refl; mesh = source_at scale files mesh_name f found.Absent e h; steps = (some_source scale files step_name).1 };
    input = refl;
    ready = tt;
  }

  pub prepares_long : (f : Fetched) (seen : ℕ) → f ≡ found.TooLong seen → IsSource scale files mesh_name (source_of f) → Prepares scale files mesh_name step_name decimals (ready.No (refusal.Long file.Mesh seen))
  prepares_long f seen e h = record {
    job = record { scale = scale; decimals = decimals; mesh_file = TooLong seen; step_file = (some_source scale files step_name).0 };
    is_job = record { scale_is = refl; decimals_are = refl; mesh = source_at scale files mesh_name f (found.TooLong seen) e h; steps = (some_source scale files step_name).1 };
    input = refl;
    ready = tt;
  }

  module _ (f g : Fetched) (bytes : List ℕ) (fe : source_of f ≡ Bytes bytes) (fs : IsSource scale files mesh_name (source_of f)) (gs : IsSource scale files step_name (source_of g)) where
    mesh_source : IsSource scale files mesh_name (Bytes bytes)
    mesh_source = let P : Source → Type 0 = λ x. IsSource scale files mesh_name x in subst P fe fs

    pub prepares_absent_steps : g ≡ found.Absent → Prepares scale files mesh_name step_name decimals (ready.No (refusal.Missing file.Steps))
    prepares_absent_steps e = record {
      job = record { scale = scale; decimals = decimals; mesh_file = Bytes bytes; step_file = Absent };
      is_job = record { scale_is = refl; decimals_are = refl; mesh = mesh_source; steps = source_at scale files step_name g found.Absent e gs };
      input = refl;
      ready = tt;
    }

    pub prepares_long_steps : (seen : ℕ) → g ≡ found.TooLong seen → Prepares scale files mesh_name step_name decimals (ready.No (refusal.Long file.Steps seen))
    prepares_long_steps seen e = record {
      job = record { scale = scale; decimals = decimals; mesh_file = Bytes bytes; step_file = TooLong seen };
      is_job = record { scale_is = refl; decimals_are = refl; mesh = mesh_source; steps = source_at scale files step_name g (found.TooLong seen) e gs };
      input = refl;
      ready = tt;
    }

    pub prepares_read : (steps : List ℕ) → source_of g ≡ Bytes steps → (r : Ready) → Reads scale decimals bytes steps r → Prepares scale files mesh_name step_name decimals r
    prepares_read steps ge r reads = record {
      job = record { scale = scale; decimals = decimals; mesh_file = Bytes bytes; step_file = Bytes steps };
      is_job = record { scale_is = refl; decimals_are = refl; mesh = mesh_source; steps = (let P : Source → Type 0 = λ x. IsSource scale files step_name x in subst P ge gs) };
      input = reads.input;
      ready = reads.ready;
    }
