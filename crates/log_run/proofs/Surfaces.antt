-- Lines that fit leave meshes that are sound, closed and clear.
use Rattle.std.proofs.Common.{◌≡◌, ℕ, Bool, true, false, List, [], ◌∷◌, refl, sym, ap, subst, ◌∙◌}
use Rattle.std.specs.List.{AllByRecursion}
use Rattle.std.specs.Bool.{MatchBool}
use Rattle.std.proofs.lemmas.Bool.{false≢true}
use Rattle.grid_base.specs.declared.TheConstants.{DEPTH_MAX}
use Rattle.grid_decided.specs.Decided.{meets_exactly, meets_exactly-is_exact}
use Rattle.mesh_base.specs.Mesh.{Mesh}
use Rattle.mesh_base.specs.Changes.{with_solid}
use Rattle.mesh_base.specs.Placements.{IsClearMesh}
use Rattle.mesh_base.specs.Shifts.{with_moves}
use Rattle.mesh_base.specs.Valid.{IsValidSurface}
use Rattle.mesh_base.proofs.MeshLaws.{sound-with_solid}
use Rattle.mesh_base.proofs.Moves.{sound-with_moves, closed-with_moves, clear_after_moves}
use Rattle.edit_base.specs.declared.Change.{Change}
use Rattle.edit_any.specs.Dispatch.{edited}
use Rattle.edit_any.proofs.Asked.{asked_stays_sound, asked_stays_closed, asked_stays_clear, asked_moves_clear}
use Rattle.mesh_ids.specs.NewIds.{with_vertex_ids, with_face_ids}
use Rattle.mesh_ids.proofs.Taken.{vertices_stay_valid, faces_stay_valid}
use Rattle.log_text.specs.declared.LogLine.{LogLine}
use Rattle.log_text.specs.declared.LogLine.TheVariants as line
use Rattle.log_replay.specs.Replay.{Replay, closed}
use Rattle.log_replay.specs.Safe.{EditIsSafe, LineIsSafe}
use Rattle.log_run.specs.States.{LogState, with_line}
use Rattle.log_replay.specs.Moves.{AreMoves}
use Rattle.edit_any.specs.Answered.{asked_of, IsAnswered}
use Rattle.log_run.specs.Fits.{FitsFirst, FitsLater}
use Rattle.log_run.specs.Laws.{IsValidState, StepIsClear, FittingLinesAreSafe}
use Rattle.log_run.proofs.StepMoves.{none_moves, more_moves}
use Rattle.log_run.proofs.SolidEdits.{none_moves_solid}

-- a mesh with one vertex more that is solid has the same pairs
clear-with_solid : (m : Mesh) (v : ℕ) → IsClearMesh m → IsClearMesh (with_solid m v)
clear-with_solid m v clear p is = clear p (record { ordered = is.ordered; edge = is.edge; face = is.face; not_first = is.not_first; not_second = is.not_second })

-- an edit that is done
edit_is_safe : (r : Replay) (change : Change) → IsValidSurface r.mesh → IsAnswered r.mesh change → EditIsSafe r change
edit_is_safe r change good done =
    let m : Mesh = r.mesh in
    let what = asked_of change in
    record {
      before = good;
      along = asked_moves_clear meets_exactly meets_exactly-is_exact DEPTH_MAX what m change good.sound good.closed done;
      after = record {
        sound = asked_stays_sound meets_exactly DEPTH_MAX what m change good.sound good.closed done;
        closed = asked_stays_closed meets_exactly DEPTH_MAX what m change good.sound good.closed done;
        clear = asked_stays_clear meets_exactly meets_exactly-is_exact DEPTH_MAX what m change good.sound good.closed good.clear done;
      };
      solid = none_moves_solid meets_exactly DEPTH_MAX what m change good.sound good.closed done;
    }

-- where a line changes neither mesh nor step
stays : (s t : LogState) → t.replay ≡ s.replay → t.is_begun ≡ s.is_begun → IsValidState s → IsValidState t
stays s t replay begun good = record {
  now = subst (λ (r : Replay). IsValidSurface r.mesh) (sym replay) good.now;
  groups = subst (λ (r : Replay). AllByRecursion IsValidSurface r.stack) (sym replay) good.groups;
  moves = subst (λ (r : Replay). AreMoves r.mesh r.moves) (sym replay) good.moves;
  between = λ e. subst (λ (r : Replay). r.moves ≡ []) (sym replay) (good.between (subst (λ b. b ≡ false) begun e));
}

-- where no step is begun, one mesh may take the place of another
changed : (s : LogState) (m : Mesh) → s.is_begun ≡ false → IsValidState s → IsValidSurface m → AreMoves m s.replay.moves
changed s m e good next = subst (AreMoves m) (sym (good.between e)) (none_moves m)

-- a group that is closed
group_closed : (s : LogState) (kept : Bool) (stack : List Mesh) → s.replay.stack ≡ stack → s.is_begun ≡ false → IsValidState s → IsValidState (record s { replay = closed kept stack s.replay; has_line = true })
group_closed s kept [] e b good = stays s (record s { has_line = true }) refl refl good
group_closed s true (m ∷ outer) e b good =
    let all : AllByRecursion IsValidSurface (m ∷ outer) = subst (AllByRecursion IsValidSurface) e good.groups in
    record { now = good.now; groups = all.1; moves = good.moves; between = good.between }
group_closed s false (m ∷ outer) e b good =
    let all : AllByRecursion IsValidSurface (m ∷ outer) = subst (AllByRecursion IsValidSurface) e good.groups in
    record { now = all.0; groups = all.1; moves = changed s m b good all.0; between = good.between }

later_is_safe : (s : LogState) (l : LogLine) → IsValidState s → FitsLater s l → StepIsClear s.replay l → LineIsSafe s.replay l × IsValidState (with_line s l)
later_is_safe s (line.First version) good fits clear = absurd fits
later_is_safe s (line.Mesh k vertices faces) good fits clear = (tt, stays s (with_line s (line.Mesh k vertices faces)) refl refl good)
later_is_safe s (line.Step k) good fits clear = (tt, record { now = good.now; groups = good.groups; moves = none_moves s.replay.mesh; between = λ e. refl })
later_is_safe s (line.Vertices new) good fits clear =
    let m : Mesh = with_vertex_ids s.replay.mesh new.ids new.next in
    let next : IsValidSurface m = vertices_stay_valid s.replay.mesh new.ids new.next fits.2 good.now in
    (tt, record { now = next; groups = good.groups; moves = changed s m fits.0 good next; between = good.between })
later_is_safe s (line.Faces new) good fits clear =
    let m : Mesh = with_face_ids s.replay.mesh new.ids new.next in
    let next : IsValidSurface m = faces_stay_valid s.replay.mesh new.ids new.next fits.2 good.now in
    (tt, record { now = next; groups = good.groups; moves = changed s m fits.0 good next; between = good.between })
later_is_safe s (line.Solid v) good fits clear =
    let m : Mesh = with_solid s.replay.mesh v in
    let next : IsValidSurface m = record { sound = sound-with_solid s.replay.mesh v good.now.sound fits.1; closed = good.now.closed; clear = clear-with_solid s.replay.mesh v good.now.clear } in
    (tt, record { now = next; groups = good.groups; moves = changed s m fits.0 good next; between = good.between })
later_is_safe s (line.Move shift) good fits clear =
    (fits.1.free, record { now = good.now; groups = good.groups; moves = more_moves s.replay.mesh s.replay.moves shift good.moves fits.1; between = λ e. absurd (false≢true (sym e ∙ fits.0)) })
later_is_safe s (line.Moved how) good fits clear =
    let m : Mesh = s.replay.mesh in
    let moves = s.replay.moves in
    let next : IsValidSurface (with_moves m moves) = record {
      sound = sound-with_moves m moves good.now.sound good.moves.once.live;
      closed = closed-with_moves m moves good.now.closed;
      clear = clear_after_moves m moves good.moves.once.once good.moves.inside clear;
    } in
    (record { before = good.now; along = clear; after = next }, record { now = next; groups = good.groups; moves = none_moves (with_moves m moves); between = λ e. refl })
later_is_safe s (line.Did change) good fits clear =
    let safe : EditIsSafe s.replay change = edit_is_safe s.replay change good.now fits.1 in
    (safe, record { now = safe.after; groups = good.groups; moves = changed s (edited s.replay.mesh change) fits.0 good safe.after; between = good.between })
later_is_safe s line.Group good fits clear = (tt, record { now = good.now; groups = (good.now, good.groups); moves = good.moves; between = good.between })
later_is_safe s (line.Close kept) good fits clear = (tt, group_closed s kept s.replay.stack refl fits.0 good)
later_is_safe s (line.Hit pair) good fits clear = (tt, stays s (with_line s (line.Hit pair)) refl refl good)
later_is_safe s (line.Block ids) good fits clear = (tt, stays s (with_line s (line.Block ids)) refl refl good)
later_is_safe s (line.Pass kind) good fits clear = (tt, stays s (with_line s (line.Pass kind)) refl refl good)
later_is_safe s line.PassFit good fits clear = (tt, stays s (with_line s line.PassFit) refl refl good)
later_is_safe s (line.No what why) good fits clear = (tt, stays s (with_line s (line.No what why)) refl refl good)
later_is_safe s (line.Refused why) good fits clear = (tt, stays s (with_line s (line.Refused why)) refl refl good)
later_is_safe s line.End good fits clear = (tt, stays s (with_line s line.End) refl refl good)

first_is_safe : (s : LogState) (l : LogLine) → IsValidState s → FitsFirst l → LineIsSafe s.replay l × IsValidState (with_line s l)
first_is_safe s (line.First version) good fits = (tt, stays s (with_line s (line.First version)) refl refl good)
first_is_safe s l good fits = absurd fits

pub fitting_is_safe : FittingLinesAreSafe
fitting_is_safe s l good fits clear = by_line s.has_line fits
  where
    by_line : (b : Bool) → MatchBool b (FitsLater s l) (FitsFirst l) → LineIsSafe s.replay l × IsValidState (with_line s l)
    by_line true fits = later_is_safe s l good fits clear
    by_line false fits = first_is_safe s l good fits
