-- The lines of a pass, in the replay.
use Rattle.std.proofs.Common.{◌≡◌, ℕ, List, [], ◌∷◌, map, ap, sym, ◌∙◌}
use Rattle.std.specs.Prelude.{nat_lt}
use Rattle.grid_decided.specs.Decided.{meets_exactly, meets_exactly-is_exact}
use Rattle.mesh_base.specs.Mesh.{Mesh}
use Rattle.mesh_sizing.specs.declared.sizing.Want.{Want}
use Rattle.edit_base.specs.declared.PassKind.{PassKind}
use Rattle.edit_base.specs.declared.Asked.{Asked}
use Rattle.log_text.specs.declared.LogLine.{LogLine}
use Rattle.log_text.specs.declared.LogLine.TheVariants.{Pass, PassFit, Did, No}
use Rattle.log_replay.specs.Replay.{Replay, after, replayed}
use Rattle.log_replay.specs.OfPass.{IsOfPass, AreOfPass}
use Rattle.log_replay.specs.Safe.{LineIsSafe, LinesKeepTheMesh}
use Rattle.pass_run.specs.PassLines.{PassRules, lines_due, terms_of, refused_in}
use Rattle.pass_run.specs.Fits.{turn_of, fit_rules}
use Rattle.pass_run.specs.Edits.{edit_rules}
use Rattle.mesh_base.specs.Valid.{IsValidSurface}
use Rattle.pass_run.proofs.Asking.{pass_makes, lines_make}
use Rattle.pass_run.proofs.Keeping.{passes_keep, all_keep}
use Rattle.pass_run.proofs.Replaying.{pass_is, lines_are}
use Rattle.track_engine.specs.Kept.{LineHolds, LogIsSafe}
use Rattle.track_engine.specs.State.{State, standing, is_open}
use Rattle.track_engine.specs.Effects.{passed_lines, passed_mesh, after_lines, after_pass, fitted_lines, fitted_mesh, after_fit, edited_lines, edited_mesh, after_edits}
use Rattle.track_engine.proofs.OpenMarks.{stack_failed}
use Rattle.track_engine.proofs.NoFiles.{NoFiles}

line_holds : (r : Replay) (line : LogLine) → IsOfPass line → LineIsSafe r line → LineHolds r line
line_holds r (Pass kind) h k = tt
line_holds r PassFit h k = tt
line_holds r (Did change) h k = k
line_holds r (No what why) h k = tt
line_holds r line h k = absurd h

-- lines of a pass that keep the mesh keep their promises
each_holds : (r : Replay) (lines : List LogLine) → AreOfPass lines → LinesKeepTheMesh r lines → LogIsSafe r lines
each_holds r [] h k = tt
each_holds r (line ∷ lines) h k = (line_holds r line h.0 k.0.0, each_holds (replayed r line) lines h.1 k.1)

-- what a pass keeps that tells these lines and leaves this mesh: its lines keep their promises, their replay is the mesh, and that is good
pub record PassKeeps (told : List LogLine) (left : Mesh) (s : State) : Type 0 where
  pub lines : LogIsSafe (standing s) told
  pub replay : after (standing s) told ≡ standing (after_lines told left s)
  pub good : IsValidSurface left

-- lines that make the mesh lead to the state after them
made_state : (told : List LogLine) (left : Mesh) (s : State) → after (standing s) told ≡ record (standing s) { mesh = left } → after (standing s) told ≡ standing (after_lines told left s)
made_state told left s made = made ∙ ap (λ (l : List Mesh). record { mesh = left; moves = []; stack = l }) (sym (stack_failed (nat_lt 0 (refused_in told)) s.groups))

-- the replay of the lines of a pass is the state after it
pass_makes_mesh : (kind : PassKind) (s : State) → after (standing s) (passed_lines kind s) ≡ record (standing s) { mesh = passed_mesh kind s }
unfolding passed_lines passed_mesh
pass_makes_mesh kind s = pass_makes meets_exactly (standing s) (terms_of kind s.set.depth (is_open s.groups))

pub pass_replays : (kind : PassKind) (s : State) → after (standing s) (passed_lines kind s) ≡ standing (after_pass kind s)
pass_replays kind s = made_state (passed_lines kind s) (passed_mesh kind s) s (pass_makes_mesh kind s)

pub pass_keeps : (kind : PassKind) (s : State) → IsValidSurface s.mesh → PassKeeps (passed_lines kind s) (passed_mesh kind s) s
unfolding passed_lines passed_mesh
pass_keeps kind s good =
    let terms = terms_of kind s.set.depth (is_open s.groups) in
    let kept = passes_keep meets_exactly meets_exactly-is_exact (standing s) terms good in
    record {
      lines = each_holds (standing s) (lines_due kind s.set.depth (is_open s.groups) s.mesh) (pass_is meets_exactly terms s.mesh) kept.0;
      replay = pass_replays kind s;
      good = kept.1;
    }

-- lines of a pass name no file
no_file : (line : LogLine) (lines : List LogLine) → IsOfPass line → NoFiles lines → NoFiles (line ∷ lines)
no_file (Pass kind) lines h k = k
no_file PassFit lines h k = k
no_file (Did change) lines h k = k
no_file (No what why) lines h k = k
no_file line lines h k = absurd h

no_files : (lines : List LogLine) → AreOfPass lines → NoFiles lines
no_files [] h = tt
no_files (line ∷ lines) h = no_file line lines h.0 (no_files lines h.1)

pub pass_names_none : (kind : PassKind) (s : State) → NoFiles (passed_lines kind s)
unfolding passed_lines
pass_names_none kind s = no_files (lines_due kind s.set.depth (is_open s.groups) s.mesh) (pass_is meets_exactly (terms_of kind s.set.depth (is_open s.groups)) s.mesh)

-- ---- a pass by a sizing, over any edges

module _ (wants : ℕ × ℕ → Want) (es : List (ℕ × ℕ)) (s : State) where
  abbrev rules : PassRules
  rules = fit_rules meets_exactly wants s.set.depth (is_open s.groups)

  pub fit_is : AreOfPass (fitted_lines wants es s)
  unfolding fitted_lines
  fit_is = (tt, lines_are rules s.mesh (map turn_of es))

  fit_makes_mesh : after (standing s) (fitted_lines wants es s) ≡ record (standing s) { mesh = fitted_mesh wants es s }
  unfolding fitted_lines fitted_mesh
  fit_makes_mesh = lines_make rules (standing s) (map turn_of es)

  pub fit_replays : after (standing s) (fitted_lines wants es s) ≡ standing (after_fit wants es s)
  fit_replays = made_state (fitted_lines wants es s) (fitted_mesh wants es s) s fit_makes_mesh

  safe_lines : IsValidSurface s.mesh → LinesKeepTheMesh (standing s) (fitted_lines wants es s)
  unfolding fitted_lines
  safe_lines good = ((tt, good), (all_keep rules meets_exactly-is_exact (standing s) good (map turn_of es)).0)

  good_after : IsValidSurface s.mesh → IsValidSurface (fitted_mesh wants es s)
  unfolding fitted_mesh
  good_after good = (all_keep rules meets_exactly-is_exact (standing s) good (map turn_of es)).1

  pub fit_keeps : IsValidSurface s.mesh → PassKeeps (fitted_lines wants es s) (fitted_mesh wants es s) s
  fit_keeps good = record { lines = each_holds (standing s) (fitted_lines wants es s) fit_is (safe_lines good); replay = fit_replays; good = good_after good }

  pub fit_names_none : NoFiles (fitted_lines wants es s)
  fit_names_none = no_files (fitted_lines wants es s) fit_is

-- ---- edits that are asked for

module _ (asked : List Asked) (s : State) where
  abbrev asked_rules : PassRules
  asked_rules = edit_rules meets_exactly s.set.depth (is_open s.groups)

  pub edits_are : AreOfPass (edited_lines asked s)
  unfolding edited_lines
  edits_are = lines_are asked_rules s.mesh asked

  edits_make_mesh : after (standing s) (edited_lines asked s) ≡ record (standing s) { mesh = edited_mesh asked s }
  unfolding edited_lines edited_mesh
  edits_make_mesh = lines_make asked_rules (standing s) asked

  edits_replay : after (standing s) (edited_lines asked s) ≡ standing (after_edits asked s)
  edits_replay = made_state (edited_lines asked s) (edited_mesh asked s) s edits_make_mesh

  safe_edits : IsValidSurface s.mesh → LinesKeepTheMesh (standing s) (edited_lines asked s)
  unfolding edited_lines
  safe_edits good = (all_keep asked_rules meets_exactly-is_exact (standing s) good asked).0

  good_edited : IsValidSurface s.mesh → IsValidSurface (edited_mesh asked s)
  unfolding edited_mesh
  good_edited good = (all_keep asked_rules meets_exactly-is_exact (standing s) good asked).1

  pub edits_keep : IsValidSurface s.mesh → PassKeeps (edited_lines asked s) (edited_mesh asked s) s
  edits_keep good = record { lines = each_holds (standing s) (edited_lines asked s) edits_are (safe_edits good); replay = edits_replay; good = good_edited good }
