-- What is prepared, by what was fetched and read.
use Rattle.std.proofs.Common.{Vec, Global, ◌≡◌, ℕ, ◌<◌, ◌≤◌, ◌^◌, List, [], ◌∷◌, length, Option, Some, None, Result, Ok, Err, refl, ap, sym, ◌∙◌, subst, arith}
use Rattle.std.specs.Prelude.{◌↔◌, IsNone, IfOk}
use Rattle.std.proofs.lemmas.List.{length-append, length-map}
use Rattle.grid_base.specs.declared.NoMemory.{NoMemory}
use Rattle.grid_base.specs.declared.TheConstants.{TEXT_MAX}
use Rattle.grid_base.specs.Points.{position_of}
use Rattle.mesh_base.specs.declared.MeshLists.{MeshLists}
use Rattle.mesh_base.specs.declared.FileWord.TheVariants as file
use Rattle.mesh_base.specs.declared.PairName.{PairName}
use Rattle.mesh_base.specs.declared.ShapeFault.{ShapeFault}
use Rattle.mesh_base.specs.declared.Scale.{Scale}
use Rattle.mesh_base.specs.Mesh.{Mesh}
use Rattle.mesh_base.specs.Valid.{IsValidSurface}
use Rattle.mesh_base.specs.Placements.{IsClearMesh}
use Rattle.mesh_base.proofs.MeshLaws.{small_texts_of}
use Rattle.mesh_shape.specs.Shape.{shape_fault}
use Rattle.mesh_shape.proofs.Lists.{sound-mesh_under}
use Rattle.mesh_shape.proofs.Faults.{closed-mesh_under}
use Rattle.mesh_journal.specs.Journal.{mesh_in}
use Rattle.line_text.specs.declared.TextFault.{TextFault}
use Rattle.obj_text.specs.Obj.{lists_of}
use Rattle.obj_text.specs.Views.{lists_view}
use Rattle.log_text.specs.declared.LogLine.{LogLine}
use Rattle.log_text.specs.declared.Refusal.TheVariants as refusal
use Rattle.log_text.specs.Lines.{text_of_line, text_of_lines}
use Rattle.log_read.specs.Reading.{log_of}
use Rattle.log_text.proofs.LineLaws.{text_of_line-some}
use Rattle.log_read.proofs.LogLaws.{logs_are_their_lines_lem}
use Rattle.outside_io.specs.declared.outside.Fetched.{Fetched}
use Rattle.outside_io.specs.declared.outside.Fetched.TheVariants as found
use Rattle.outside_io.specs.Desk.{Files}
use Rattle.track_input.specs.Fetched.{source_of}
use Rattle.track_input.specs.Source.{Bytes, Absent, TooLong, IsSource}
use Rattle.track_input.specs.Words.{LogNames}
use Rattle.track_input.specs.Job.{met_first}
use Rattle.track_input.specs.Reading.{given, AreGood}
use Rattle.track_input.proofs.Sources.{some_source}
use Rattle.track_input.proofs.ReadLemmas.{same_mesh}
use Rattle.track_log.specs.declared.refusal.LogRefusal.{LogRefusal}
use Rattle.track_log.specs.declared.refusal.LogRefusal.TheVariants.{Input, Log}
use Rattle.track_log.specs.declared.inputs.FetchedLog.{FetchedLog}
use Rattle.track_log.specs.declared.inputs.FetchedLog.TheVariants as fetched
use Rattle.track_log.specs.declared.inputs.Texts.{Texts}
use Rattle.track_log.specs.declared.inputs.Texts.TheVariants as texts
use Rattle.track_log.specs.declared.inputs.PreparedLog.{PreparedLog}
use Rattle.track_log.specs.declared.inputs.PreparedLog.TheVariants as prepared
use Rattle.track_log.specs.LogJob.{LogJob, IsLogJob, read_of_log, read_of_shape, read_of_lists, read_of_fetched, input_of_test, input_of_read}
use Rattle.track_log.specs.Fetching.{fetched_by, AreShort, FetchesLog}
use Rattle.track_log.specs.Preparing.{ReadsLines, ReadsTexts, Tests, ReadsAndTests, PreparesLog}

-- ---- there are no more lines than bytes

few_in_text : (lines : List LogLine) → length lines ≤ length (text_of_lines lines)
few_in_text [] = omega arith
few_in_text (line ∷ lines) = omega (arith, few_in_text lines, text_of_line-some line, length-append (text_of_line line) (text_of_lines lines))

pub few_lines : (scale : Scale) (log : List ℕ) (lines : List LogLine) → log_of scale log ≡ Ok lines → length log ≤ TEXT_MAX → length lines < 2 ^ 31
few_lines scale log lines e small =
    let text : text_of_lines lines ≡ log = ((logs_are_their_lines_lem scale log lines).0 e).1 in
    omega (arith, few_in_text lines, ap length text)

-- ---- the texts

pub reads_lines : (scale : Scale) (lists : MeshLists) (log : List ℕ) (lines : List LogLine) → AreGood scale lists → length log ≤ TEXT_MAX → log_of scale log ≡ Ok lines → ReadsLines scale lists log (texts.Yes lists lines)
reads_lines scale lists log lines good small e = record {
  texts = ap (read_of_log (lists_view lists)) e;
  good = (good, few_lines scale log lines e small);
}

pub reads_no_lines : (scale : Scale) (lists : MeshLists) (log : List ℕ) (fault : TextFault) → log_of scale log ≡ Err fault → ReadsLines scale lists log (texts.No (Log fault))
reads_no_lines scale lists log fault e = record { texts = ap (read_of_log (lists_view lists)) e; good = tt }

-- as many points, seen as triples
same_shape : (scale : Scale) (lists : MeshLists) → shape_fault scale (length (lists_view lists).points) (lists_view lists).faces ≡ shape_fault scale (length lists.points) lists.faces
same_shape scale lists = ap (λ n. shape_fault scale n lists.faces) (length-map lists.points position_of)

pub reads_no_mesh : (scale : Scale) (decimals : ℕ) (mesh log : List ℕ) (fault : TextFault) → lists_of decimals mesh ≡ Err fault → ReadsTexts scale decimals mesh log (texts.No (Input (refusal.Mesh fault)))
reads_no_mesh scale decimals mesh log fault e = record { texts = ap (λ r. read_of_lists scale r log) e; good = tt }

pub reads_no_shape : (scale : Scale) (decimals : ℕ) (mesh log : List ℕ) (lists : MeshLists) (fault : ShapeFault) → lists_of decimals mesh ≡ Ok (lists_view lists) → shape_fault scale (length lists.points) lists.faces ≡ Some fault
    → ReadsTexts scale decimals mesh log (texts.No (Input (refusal.Shape fault)))
reads_no_shape scale decimals mesh log lists fault read e = record {
  texts = ap (λ r. read_of_lists scale r log) read ∙ ap (λ o. read_of_shape scale (lists_view lists) o log) (same_shape scale lists ∙ e);
  good = tt;
}

pub reads_both : (scale : Scale) (decimals : ℕ) (mesh log : List ℕ) (lists : MeshLists) (found : Texts) → lists_of decimals mesh ≡ Ok (lists_view lists) → AreGood scale lists → ReadsLines scale lists log found → ReadsTexts scale decimals mesh log found
reads_both scale decimals mesh log lists found read good lines = record {
  texts = ap (λ r. read_of_lists scale r log) read ∙ ap (λ o. read_of_shape scale (lists_view lists) o log) (same_shape scale lists ∙ good) ∙ lines.texts;
  good = lines.good;
}

-- ---- the test of the mesh

tests_clear : (scale : Scale) (lists : MeshLists) (lines : List LogLine) (mesh : _) → AreGood scale lists → mesh_in mesh ≡ given scale lists → met_first (mesh_in mesh) ≡ None → IsClearMesh (mesh_in mesh) → Tests scale lists lines (prepared.Yes mesh lines)
tests_clear scale lists lines mesh good is none clear = record {
  input =
      let P : Mesh → Type 0 = λ m. input_of_test m (met_first m) lines ≡ Ok (record { mesh = mesh_in mesh; lines = lines }) in
      subst P is (ap (λ o. input_of_test (mesh_in mesh) o lines) none);
  ready = λ few. (subst IsValidSurface (sym is) (record { sound = sound-mesh_under scale lists.points lists.faces good; closed = closed-mesh_under scale lists.points lists.faces good; clear = subst IsClearMesh is clear }), few);
}

pub tests_none : (scale : Scale) (lists : MeshLists) (lines : List LogLine) (mesh : _) → AreGood scale lists → mesh_in mesh ≡ given scale lists → (o : Option PairName) → o ≡ met_first (mesh_in mesh) → IsNone o ↔ IsClearMesh (mesh_in mesh) → o ≡ None → Tests scale lists lines (prepared.Yes mesh lines)
tests_none scale lists lines mesh good is o first clear none =
    let P : Option PairName → Type 0 = λ x. IsNone x ↔ IsClearMesh (mesh_in mesh) in
    tests_clear scale lists lines mesh good is (sym first ∙ none) ((subst P none clear).0 refl)

pub tests_meets : (scale : Scale) (lists : MeshLists) (lines : List LogLine) (m : Mesh) (pair : PairName) → m ≡ given scale lists → met_first m ≡ Some pair → Tests scale lists lines (prepared.No (Input (refusal.Meets pair)))
tests_meets scale lists lines m pair is some = record {
  input = (let P : Mesh → Type 0 = λ m. input_of_test m (met_first m) lines ≡ Err (Input (refusal.Meets pair)) in subst P is (ap (λ o. input_of_test m o lines) some));
  ready = λ few. tt;
}

-- ---- both

pub reads_and_refuses : (scale : Scale) (decimals : ℕ) (mesh log : List ℕ) (why : LogRefusal) → ReadsTexts scale decimals mesh log (texts.No why) → ReadsAndTests scale decimals mesh log (prepared.No why)
reads_and_refuses scale decimals mesh log why reads = record { input = ap (input_of_read scale) reads.texts; ready = tt }

reads_and_tests : (scale : Scale) (decimals : ℕ) (mesh log : List ℕ) (lists : MeshLists) (lines : List LogLine) (found : PreparedLog) → ReadsTexts scale decimals mesh log (texts.Yes lists lines) → Tests scale lists lines found → ReadsAndTests scale decimals mesh log found
reads_and_tests scale decimals mesh log lists lines found reads tests = record {
  input = ap (input_of_read scale) reads.texts ∙ ap (λ m. input_of_test m (met_first m) lines) (same_mesh scale lists) ∙ tests.input;
  ready = tests.ready reads.good.1;
}

pub reads_answer : (scale : Scale) (decimals : ℕ) (mesh log : List ℕ) (x : Texts) (lists : MeshLists) (lines : List LogLine) (r : Result PreparedLog NoMemory) → ReadsTexts scale decimals mesh log x → x ≡ texts.Yes lists lines → IfOk r (Tests scale lists lines) → IfOk r (ReadsAndTests scale decimals mesh log)
reads_answer scale decimals mesh log x lists lines (Err fault) reads e tests = tt
reads_answer scale decimals mesh log x lists lines (Ok found) reads e tests = reads_and_tests scale decimals mesh log lists lines found (subst (ReadsTexts scale decimals mesh log) e reads) tests

-- ---- the files

source_at : (scale : Scale) (files : Option Files) (name : List ℕ) (f g : Fetched) → f ≡ g → IsSource scale files name (source_of f) → IsSource scale files name (source_of g)
source_at scale files name f g e h = let P : Fetched → Type 0 = λ x. IsSource scale files name (source_of x) in subst P e h

module _ (files : Option Files) (names : LogNames) where
  -- each pair of names has a job
  pub some_log_job : (job : LogJob) × IsLogJob files names job
  some_log_job = (
    record { scale = names.scale; decimals = names.decimals; mesh_file = (some_source names.scale files names.mesh).0; log_file = (some_source names.scale files names.log).0 },
    record { scale_is = refl; decimals_are = refl; mesh = (some_source names.scale files names.mesh).1; log = (some_source names.scale files names.log).1 },
  )

  -- ---- what is fetched

  pub fetches_absent : (f : Fetched) → f ≡ found.Absent → IsSource names.scale files names.mesh (source_of f) → FetchesLog files names (fetched.No (Input (refusal.Missing file.Mesh)))
  fetches_absent f e h = record {
    job = record { scale = names.scale; decimals = names.decimals; mesh_file = Absent; log_file = (some_source names.scale files names.log).0 };
    is_job = record { scale_is = refl; decimals_are = refl; mesh = source_at names.scale files names.mesh f found.Absent e h; log = (some_source names.scale files names.log).1 };
    fetched = refl;
    short = tt;
  }

  pub fetches_long : (f : Fetched) (seen : ℕ) → f ≡ found.TooLong seen → IsSource names.scale files names.mesh (source_of f) → FetchesLog files names (fetched.No (Input (refusal.Long file.Mesh seen)))
  fetches_long f seen e h = record {
    job = record { scale = names.scale; decimals = names.decimals; mesh_file = TooLong seen; log_file = (some_source names.scale files names.log).0 };
    is_job = record { scale_is = refl; decimals_are = refl; mesh = source_at names.scale files names.mesh f (found.TooLong seen) e h; log = (some_source names.scale files names.log).1 };
    fetched = refl;
    short = tt;
  }

  module _ (f g : Fetched) (mesh : Vec ℕ Global) (fe : f ≡ found.Bytes mesh) (fs : IsSource names.scale files names.mesh (source_of f)) (gs : IsSource names.scale files names.log (source_of g)) where
    mesh_source : IsSource names.scale files names.mesh (Bytes mesh.items)
    mesh_source = source_at names.scale files names.mesh f (found.Bytes mesh) fe fs

    pub fetches_absent_log : g ≡ found.Absent → FetchesLog files names (fetched.No (Input (refusal.Missing file.Log)))
    fetches_absent_log e = record {
      job = record { scale = names.scale; decimals = names.decimals; mesh_file = Bytes mesh.items; log_file = Absent };
      is_job = record { scale_is = refl; decimals_are = refl; mesh = mesh_source; log = source_at names.scale files names.log g found.Absent e gs };
      fetched = refl;
      short = tt;
    }

    pub fetches_long_log : (seen : ℕ) → g ≡ found.TooLong seen → FetchesLog files names (fetched.No (Input (refusal.Long file.Log seen)))
    fetches_long_log seen e = record {
      job = record { scale = names.scale; decimals = names.decimals; mesh_file = Bytes mesh.items; log_file = TooLong seen };
      is_job = record { scale_is = refl; decimals_are = refl; mesh = mesh_source; log = source_at names.scale files names.log g (found.TooLong seen) e gs };
      fetched = refl;
      short = tt;
    }

    pub fetches_both : (log : Vec ℕ Global) → g ≡ found.Bytes log → FetchesLog files names (fetched.Yes mesh log)
    fetches_both log e =
        let log_source = source_at names.scale files names.log g (found.Bytes log) e gs in record {
          job = record { scale = names.scale; decimals = names.decimals; mesh_file = Bytes mesh.items; log_file = Bytes log.items };
          is_job = record { scale_is = refl; decimals_are = refl; mesh = mesh_source; log = log_source };
          fetched = refl;
          short = (omega (arith, mesh_source.0, small_texts_of names.scale), omega (arith, log_source.0, small_texts_of names.scale));
        }

  -- ---- what is prepared of it

  pub prepares_refused : (f : FetchedLog) (why : LogRefusal) → f ≡ fetched.No why → FetchesLog files names f → PreparesLog files names (prepared.No why)
  prepares_refused f why e h = record {
    job = h.job;
    is_job = h.is_job;
    input = ap (λ r. input_of_read h.job.scale (read_of_fetched h.job.scale h.job.decimals r)) (h.fetched ∙ ap fetched_by e);
    ready = tt;
  }

  pub short_at : (f : FetchedLog) (mesh log : Vec ℕ Global) → f ≡ fetched.Yes mesh log → FetchesLog files names f → AreShort (fetched.Yes mesh log)
  short_at f mesh log e h = subst AreShort e h.short

  pub prepares_read : (f : FetchedLog) (mesh log : Vec ℕ Global) → f ≡ fetched.Yes mesh log → FetchesLog files names f → (m : List ℕ) → m ≡ mesh.items → (r : PreparedLog) → ReadsAndTests names.scale names.decimals m log.items r → PreparesLog files names r
  prepares_read f mesh log e h m me r reads = record {
    job = h.job;
    is_job = h.is_job;
    input =
        ap (λ x. input_of_read h.job.scale (read_of_fetched h.job.scale h.job.decimals x)) (h.fetched ∙ ap fetched_by e)
        ∙ ap (λ s. input_of_read s (read_of_lists s (lists_of h.job.decimals mesh.items) log.items)) h.is_job.scale_is
        ∙ ap (λ d. input_of_read names.scale (read_of_lists names.scale (lists_of d mesh.items) log.items)) h.is_job.decimals_are
        ∙ ap (λ b. input_of_read names.scale (read_of_lists names.scale (lists_of names.decimals b) log.items)) (sym me)
        ∙ reads.input;
    ready = reads.ready;
  }
