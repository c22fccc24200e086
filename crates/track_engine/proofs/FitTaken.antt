-- What a pass by a sizing that is made and said is.
use Rattle.std.specs.Prelude.{nat_lt}
use Rattle.std.proofs.lemmas.Bool.{false≢true}
use Rattle.std.proofs.Math.Seq.{take-append_seam}
use Rattle.std.proofs.Common.{◌≡◌, ℕ, Bool, true, List, ◌++◌, map, length, take, Option, Some, None, Result, Ok, Err, IfOk, IsSome, refl, sym, ap, ◌∙◌, subst, inr, append-nil}
use Rattle.grid_base.specs.declared.Point.{Point}
use Rattle.grid_decided.specs.Decided.{meets_exactly, meets_exactly-is_exact}
use Rattle.mesh_base.specs.declared.UseWhy.{UseWhy}
use Rattle.mesh_base.specs.Kept.{BeginsWith}
use Rattle.mesh_base.specs.Mesh.{Mesh}
use Rattle.mesh_base.specs.Pairs.{edges}
use Rattle.mesh_base.specs.Shifts.{Shifts}
use Rattle.mesh_base.specs.Valid.{IsValidSurface}
use Rattle.mesh_sizing.specs.declared.sizing.Band.{Band}
use Rattle.mesh_sizing.specs.declared.sizing.Want.{Want}
use Rattle.mesh_sizing.specs.declared.sizing.Want.TheVariants.{Leave}
use Rattle.step_text.specs.declared.Directive.{Directive}
use Rattle.step_text.specs.declared.Directive.TheVariants as directive
use Rattle.log_text.specs.Lines.{text_of_lines}
use Rattle.log_text.specs.declared.LogLine.{LogLine}
use Rattle.outside_io.specs.Desk.{Files}
use Rattle.outside_io.specs.Outside.{Around, StoresNothing, holds_of, written_of}
use Rattle.outside_io.specs.declared.stop.Stop.{Stop}
use Rattle.outside_io.specs.Sink.{appended}
use Rattle.pass_run.specs.declared.passes.PassCount.{PassCount}
use Rattle.pass_run.specs.PassLines.{done_in, refused_in}
use Rattle.pass_run.specs.Fits.{turn_of, fit_rules, fit_lines, mesh_after_fit, AreWanted, AreFitLines, Fits}
use Rattle.log_write.proofs.WrittenLines.{written_nothing}
use Rattle.track_engine.specs.declared.open_group.OpenGroup.{OpenGroup}
use Rattle.track_engine.specs.Saved.{Target}
use Rattle.track_engine.specs.State.{Group, State, standing, asked_in, is_open}
use Rattle.track_engine.specs.Answers.{Answer, Nothing, NoSuchField, FieldShifts, Wanted, WantedOfFirst}
use Rattle.track_engine.specs.Answered.{Known, is_fit, AreWantedIn}
use Rattle.track_engine.specs.Effects.{Proceeds, fit_effect, fitted_lines, fitted_mesh, fail_if}
use Rattle.track_engine.specs.Invariant.{left_by}
use Rattle.track_engine.specs.Parts.{AdvancesAnswered, FitTakes, FitTells, Tells}
use Rattle.track_engine.specs.Shifting.{AsksOfGiven}
use Rattle.track_engine.specs.Told.{fit_told, pass_untold}
use Rattle.track_engine.proofs.AskedLemmas.{rest_again}
use Rattle.track_engine.proofs.VertexIds.{VertexIdsGoOn, ids_go_on}
use Rattle.track_engine.proofs.NoFiles.{NoFiles, files_of-none, logs_from_said, stops_from_said}
use Rattle.track_engine.proofs.Passing.{fit_replays, fit_names_none}

-- ---- what is made, by the state
module _ (may_size : Point → Band → Type 0) (s : State) (grouped : Bool) (same : grouped ≡ is_open s.groups) where
  lines_are : (wants : ℕ × ℕ → Want) (es : List (ℕ × ℕ)) → fit_lines meets_exactly wants s.set.depth grouped s.mesh es ≡ fitted_lines wants es s
  unfolding fitted_lines
  lines_are wants es = ap (λ b. fit_lines meets_exactly wants s.set.depth b s.mesh es) same

  mesh_is : (wants : ℕ × ℕ → Want) (es : List (ℕ × ℕ)) → mesh_after_fit meets_exactly wants s.set.depth grouped s.mesh es ≡ fitted_mesh wants es s
  unfolding fitted_mesh
  mesh_is wants es = ap (λ b. mesh_after_fit meets_exactly wants s.set.depth b s.mesh es) same

  wanted_in : (wants : ℕ × ℕ → Want) (es : List (ℕ × ℕ)) → AreWanted may_size (fit_rules meets_exactly wants s.set.depth grouped) wants s.mesh es → AreWantedIn may_size s wants es
  wanted_in wants es wanted = subst (λ b. AreWanted may_size (fit_rules meets_exactly wants s.set.depth b) wants s.mesh es) same wanted

  -- the lines of all edges
  module _ (lines : List LogLine) (end : Mesh) (fit : AreFitLines may_size meets_exactly s.set.depth grouped true s.mesh lines end) where
    all_edges : fit.first ≡ edges s.mesh
    all_edges = sym (append-nil fit.first) ∙ ap (λ l. fit.first ++ l) (sym (fit.all refl)) ∙ fit.split

    all_wanted : AreWantedIn may_size s fit.wants (edges s.mesh)
    all_wanted = subst (λ es. AreWantedIn may_size s fit.wants es) all_edges (wanted_in fit.wants fit.first fit.wanted)

    all_lines : lines ≡ fitted_lines fit.wants (edges s.mesh) s
    all_lines = fit.are ∙ lines_are fit.wants fit.first ∙ ap (λ es. fitted_lines fit.wants es s) all_edges

    mesh_left : end ≡ fitted_mesh fit.wants (edges s.mesh) s
    mesh_left = fit.leaves ∙ mesh_is fit.wants fit.first ∙ ap (λ es. fitted_mesh fit.wants es s) all_edges

  -- the first edges
  those : (es rest : List (ℕ × ℕ)) → es ++ rest ≡ edges s.mesh → take (length es) (edges s.mesh) ≡ es
  those es rest split = ap (take (length es)) (sym split) ∙ take-append_seam es rest

  -- it stops in its lines
  pub fit_in_part : (t : State) (to : Mesh) (fault stop : Stop) (old new : Option (List ℕ)) → Fits may_size s.set.depth grouped s.mesh to old new (Err fault) → FitTakes may_size s t old new (Err stop)
  fit_in_part t to fault stop old new f = (
    WantedOfFirst (length f.fit.first) f.fit.wants,
    (refl, subst (λ es. AreWantedIn may_size s f.fit.wants es) (sym (those f.fit.first f.fit.rest f.fit.split)) (wanted_in f.fit.wants f.fit.first f.fit.wanted)),
    f.lines,
    ap (λ es. fitted_lines f.fit.wants es s) (those f.fit.first f.fit.rest f.fit.split) ∙ sym (f.fit.are ∙ lines_are f.fit.wants f.fit.first),
    f.said.text,
  )

  -- it stops before it begins
  pub fit_not_begun : (t : State) (stop : Stop) (old : Option (List ℕ)) → FitTakes may_size s t old old (Err stop)
  fit_not_begun t stop old =
      let lines = fitted_lines (λ e. Leave) (take 0 (edges s.mesh)) s in
      (WantedOfFirst 0 (λ e. Leave), (refl, tt), lines, refl, written_nothing old old lines refl)

  -- what is asked after it
  pub fit_rest : IsValidSurface s.mesh → (m : Mesh) (count : PassCount) (old new : Option (List ℕ)) → Fits {E = Stop} may_size s.set.depth grouped s.mesh m old new (Ok count) → (now : Shifts) → asked_in s.mesh now ≡ s.asked → AsksOfGiven s.mesh now → asked_in m now ≡ asked_in m s.asked
  fit_rest good m count old new f now asks given =
      let goes = ids_go_on (fit_rules meets_exactly f.fit.wants s.set.depth grouped) meets_exactly-is_exact s.mesh good (map turn_of f.fit.first) in
      rest_again s.mesh m (subst (VertexIdsGoOn s.mesh) (sym (f.mesh ∙ f.fit.leaves)) goes) good.sound s.asked now asks given

  -- what it tells, by its lines
  told_is : (wants : ℕ × ℕ → Want) (count : PassCount) → count.done ≡ done_in (fitted_lines wants (edges s.mesh) s) → count.refused ≡ refused_in (fitted_lines wants (edges s.mesh) s) → count ≡ fit_told wants s
  told_is wants count done refused = λ i. record { done = done i; refused = refused i }

  pub fit_taken : (m : Mesh) (asked : Shifts) (groups : List Group) (count : PassCount) (old new : Option (List ℕ)) → Fits {E = Stop} may_size s.set.depth grouped s.mesh m old new (Ok count) → asked ≡ asked_in m s.asked
      → groups ≡ fail_if (nat_lt 0 count.refused) s.groups → FitTells may_size s (record s { mesh = m; asked = asked; groups = groups }) old new (Ok count)
  fit_taken m asked groups count old new f rest failed =
      let told = all_lines f.lines f.end f.fit in
      let left = fitted_mesh f.fit.wants (edges s.mesh) s in
      let mesh : m ≡ left = f.mesh ∙ mesh_left f.lines f.end f.fit in
      let asks : asked ≡ asked_in left s.asked = rest ∙ ap (λ n. asked_in n s.asked) mesh in
      let fails : groups ≡ fail_if (nat_lt 0 (refused_in (fitted_lines f.fit.wants (edges s.mesh) s))) s.groups =
      failed ∙ ap (λ n. fail_if (nat_lt 0 n) s.groups) (f.refused ∙ ap refused_in told) in
      let tells = told_is f.fit.wants count (f.done ∙ ap done_in told) (f.refused ∙ ap refused_in told) in
      (f.fit.wants, all_wanted f.lines f.end f.fit, λ i. record s { mesh = mesh i; asked = asks i; groups = fails i }, f.said.1 ∙ ap (λ l. appended old (text_of_lines l)) told, tells)

-- with nothing told
pub fit_untold : (may_size : Point → Band → Type 0) (s t : State) (old new : Option (List ℕ)) (r : Result PassCount Stop) → FitTells may_size s t old new r → FitTakes may_size s t old new (pass_untold r)
fit_untold may_size s t old new (Ok count) tells = (tells.0, tells.1, tells.2, tells.3)
fit_untold may_size s t old new (Err stop) tells = tells

-- its lines name no file
names_none : (s : State) (given : Answer) (lines : List LogLine) → Tells (fit_effect given s) lines → NoFiles lines
names_none s (Wanted wants) lines tells = subst NoFiles tells (fit_names_none wants (edges s.mesh) s)
names_none s (WantedOfFirst count wants) lines tells = subst NoFiles tells (fit_names_none wants (take count (edges s.mesh)) s)
names_none s (FieldShifts by) lines tells = subst NoFiles tells tt
names_none s NoSuchField lines tells = subst NoFiles tells tt
names_none s Nothing lines tells = subst NoFiles tells tt

-- ---- as an effect
advances_fit : (fields : Known) (to : Target) (s t : State) (files : Option Files) (old new : Option (List ℕ)) (r : Result (Option UseWhy) Stop) → FitTakes fields.may_size s t old new r
    → AdvancesAnswered fields to directive.Fit s t (record { files = files; written = old }) (record { files = files; written = new }) r
advances_fit fields to s t files old new (Ok None) takes =
    let lines = fitted_lines takes.0 (edges s.mesh) s in (
      Wanted takes.0,
      takes.1,
      record {
        lines = lines;
        goes = ap (Proceeds lines) (sym takes.2);
        logs = logs_from_said to (standing s) lines files old new (files_of-none to lines (standing s) (fit_names_none takes.0 (edges s.mesh) s)) takes.3;
        replay = fit_replays takes.0 (edges s.mesh) s ∙ ap standing (sym takes.2);
      },
    )
advances_fit fields to s t files old new (Ok (Some why)) takes = absurd takes
advances_fit fields to s t files old new (Err stop) takes =
    inr (takes.0, takes.1, record { lines = takes.2; tells = takes.3; stops = stops_from_said stop to (standing s) takes.2 files old new (names_none s takes.0 takes.2 takes.3) takes.4 })

-- ---- the directive
fit_named : (what : Directive) → is_fit what ≡ true → what ≡ directive.Fit
fit_named directive.Fit e = refl
fit_named (directive.Drive name) e = absurd (false≢true e)
fit_named (directive.SetDepth depth) e = absurd (false≢true e)
fit_named (directive.SetPasses passes) e = absurd (false≢true e)
fit_named (directive.SetZones zones) e = absurd (false≢true e)
fit_named (directive.SetHalvings halvings) e = absurd (false≢true e)
fit_named (directive.ShiftOne v by) e = absurd (false≢true e)
fit_named (directive.ShiftAll by) e = absurd (false≢true e)
fit_named (directive.Solid v) e = absurd (false≢true e)
fit_named directive.Step e = absurd (false≢true e)
fit_named (directive.Pass kind) e = absurd (false≢true e)
fit_named directive.Save e = absurd (false≢true e)
fit_named directive.Group e = absurd (false≢true e)
fit_named directive.Close e = absurd (false≢true e)

pub answered_fit : (fields : Known) (to : Target) (what : Directive) (s t : State) (a b : Around) (r : Result (Option UseWhy) Stop) → StoresNothing a b r → is_fit what ≡ true → FitTakes fields.may_size s t (written_of a) (written_of b) r
    → AdvancesAnswered fields to what s t (holds_of a) (holds_of b) r
answered_fit fields to what s t a b r nothing named takes =
    let old = holds_of a in
    let new = holds_of b in
    let P : Option Files → Type 0 = λ f. AdvancesAnswered fields to directive.Fit s t (record { files = old.files; written = old.written }) (record { files = f; written = new.written }) r in
    let Q : Directive → Type 0 = λ d. AdvancesAnswered fields to d s t old new r in
    subst Q (sym (fit_named what named)) (subst P (sym nothing.files) (advances_fit fields to s t old.files old.written new.written r takes))

-- all kept meshes stay
pub begins_fit : (what : Directive) (groups : List OpenGroup) (new kept : List Mesh) → is_fit what ≡ true → BeginsWith new kept → BeginsWith new (left_by what groups kept)
begins_fit what groups new kept named begins = let P : Directive → Type 0 = λ d. BeginsWith new (left_by d groups kept) in subst P (sym (fit_named what named)) begins

-- it is never refused
pub fit_left : (may_size : Point → Band → Type 0) (s t : State) (old new : Option (List ℕ)) (r : Result (Option UseWhy) Stop) → FitTakes may_size s t old new r → IfOk r (λ refused. IsSome refused → t ≡ s)
fit_left may_size s t old new (Ok None) takes = λ some. absurd (false≢true some)
fit_left may_size s t old new (Ok (Some why)) takes = absurd takes
fit_left may_size s t old new (Err stop) takes = tt
