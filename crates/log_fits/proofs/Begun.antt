-- The log of a caller that is begun at the mesh as it is.
use Rattle.std.proofs.Common.{◌≡◌, ◌⊎◌, ⊎_elim, inl, inr, ℕ, ◌+◌, Bool, true, false, List, [], ◌∷◌, ◌++◌, length, map, Option, Some, None, refl, sym, ap, ◌∙◌, subst, append_assoc, arith}
use Rattle.std.specs.Prelude.{IsSome}
use Rattle.std.specs.List.{AllByRecursion}
use Rattle.std.specs.Cmp.{nat_cmp_total}
use Rattle.std.specs.FinMap as finite
use Rattle.std.specs.FinMap.{same_map, nat_cmp-IsAntisymmetric}
use Rattle.std.proofs.lemmas.Bool.{false≢true}
use Rattle.std.proofs.lemmas.List.Elements.{All-nil, All-cons, All-append}
use Rattle.grid_base.specs.declared.TheConstants.{ID_MAX}
use Rattle.mesh_base.specs.declared.Scale.{Scale}
use Rattle.mesh_base.specs.declared.Scale.TheVariants.{Large}
use Rattle.mesh_base.specs.Mesh.{IdSet, Mesh, IsSound, IsLiveVertex, is_solid}
use Rattle.mesh_base.specs.Placements.{IsClearMesh}
use Rattle.mesh_base.specs.Valid.{IsValidSurface}
use Rattle.mesh_base.proofs.Finite.{live_after_insert, live_stays, live_inserted, none_in_empty}
use Rattle.mesh_base.proofs.Listed.{all_filter, at_live}
use Rattle.mesh_base.proofs.ListedPairs.{all_always, all_filtered, all_weaker}
use Rattle.obj_text.specs.Laws.{renumbered}
use Rattle.log_text.specs.declared.LogLine.{LogLine}
use Rattle.log_text.specs.declared.LogLine.TheVariants.{First, Solid, End}
use Rattle.log_read.specs.Laws.{IsFrom}
use Rattle.log_replay.specs.Again.{LineIsAgain, LinesAreAgain}
use Rattle.log_replay.specs.Laws.{IsWithin}
use Rattle.log_replay.specs.Replay.{Replay, replayed, after, at_mesh, at_mesh_in_groups}
use Rattle.log_replay.proofs.Limits.{within_large}
use Rattle.log_replay.proofs.Replaying.{after_then, each_then}
use Rattle.run_laws.specs.Directives.{HasRoomFor}
use Rattle.run_laws.specs.Lines.{MayFollow, AreInRange}
use Rattle.run_laws.proofs.StepLines.{mesh_in_range}
use Rattle.track_engine.specs.Effects.{mesh_line}
use Rattle.track_engine.specs.Kept.{IsSavedWell, LineHolds, LogIsSafe}
use Rattle.track_engine.specs.State.{State, Group, standing, unsaved}
use Rattle.track_engine.proofs.Keeping.{saved_well}
use Rattle.track_held.specs.Heads.{as_read, unmarked, head_version, id_lines, solid_lines, begun}
use Rattle.track_held.specs.Reading.{solid_vertices}
use Rattle.log_fits.specs.Fitting.{LinesFit}
use Rattle.log_fits.specs.Histories.{Call, history, state_after}
use Rattle.log_fits.specs.Begun.{log_begun, CanBeBegun, LogsCanBeBegun, HeadsMakeTheMesh, CallersBeginLogs, LogsAreOfTheirFiles}
use Rattle.log_fits.proofs.Histories.{AreGood, calls_good, calls_keep, room_at_first}
use Rattle.log_fits.specs.Logs.{MayFollowAs, IsLogOf}
use Rattle.log_fits.proofs.Versions.{may_follow_as}
use Rattle.log_fits.proofs.HeadIds.{TellTheIds, as_many_points, as_many_faces, read_valid, ids_told}
use Rattle.log_fits.proofs.Lines.{told, begun_behind, fits_append}

-- ---- vertices that are marked one after another

abbrev marks : IdSet → List ℕ → IdSet
marks ids [] = ids
marks ids (v ∷ vs) = marks (finite.insert ids v tt) vs

marks_stay : (ids : IdSet) (vs : List ℕ) (u : ℕ) → IsSome (finite.get ids u) → IsSome (finite.get (marks ids vs) u)
marks_stay ids [] u marked = marked
marks_stay ids (v ∷ vs) u marked = marks_stay (finite.insert ids v tt) vs u (live_stays ids v tt u marked)

-- each of them is marked
each_marked : (ids : IdSet) (vs : List ℕ) → AllByRecursion (λ v. IsSome (finite.get (marks ids vs) v)) vs
each_marked ids [] = tt
each_marked ids (v ∷ vs) = (marks_stay (finite.insert ids v tt) vs v (live_inserted ids v tt), each_marked (finite.insert ids v tt) vs)

-- and what is marked was so before, or is one of them
marked_among : (P : ℕ → Type 0) (ids : IdSet) (vs : List ℕ) (u : ℕ) → AllByRecursion P vs → IsSome (finite.get (marks ids vs) u) → IsSome (finite.get ids u) ⊎ P u
marked_among P ids [] u h marked = inl marked
marked_among P ids (v ∷ vs) u h marked = ⊎_elim
    (λ before. ⊎_elim (λ same. inr (subst P (sym same) h.0)) (λ old. inl old) (live_after_insert ids v tt u before))
    (λ one. inr one)
    (marked_among P (finite.insert ids v tt) vs u h.1 marked)

same_unit : (a b : Option (Unit {0})) → (IsSome a → IsSome b) → (IsSome b → IsSome a) → a ≡ b
same_unit None None f g = refl
same_unit (Some x) (Some y) f g = refl
same_unit None (Some y) f g = absurd (false≢true (g refl))
same_unit (Some x) None f g = absurd (false≢true (f refl))

-- ---- the solid vertices of a mesh

solids_live : (m : Mesh) → IsSound m → AllByRecursion (IsLiveVertex m) (solid_vertices m)
solids_live m sound = all_filtered (IsLiveVertex m) (is_solid m) (finite.keys m.points) (all_always (λ v. is_solid m v ≡ true → IsLiveVertex m v) (finite.keys m.points) (λ v solid. sound.is_mesh.solid_ids v solid))

-- where each of them is marked, and no other, the mesh is as it was
solids_again : (m : Mesh) → IsSound m → marks finite.empty (solid_vertices m) ≡ m.solid
solids_again m sound = same_map nat_cmp_total nat_cmp-IsAntisymmetric again m.solid (λ u. same_unit (finite.get again u) (finite.get m.solid u) (only u) (all u))
  where
    again : IdSet
    again = marks finite.empty (solid_vertices m)

    solids : AllByRecursion (λ v. is_solid m v ≡ true) (solid_vertices m)
    solids = all_filtered (λ v. is_solid m v ≡ true) (is_solid m) (finite.keys m.points) (all_always (λ v. is_solid m v ≡ true → is_solid m v ≡ true) (finite.keys m.points) (λ v solid. solid))

    only : (u : ℕ) → IsSome (finite.get again u) → IsSome (finite.get m.solid u)
    only u marked = ⊎_elim (λ none. absurd (false≢true (sym (none_in_empty (Unit {0}) u) ∙ none))) (λ solid. solid) (marked_among (λ v. is_solid m v ≡ true) finite.empty (solid_vertices m) u solids marked)

    each : AllByRecursion (λ v. is_solid m v ≡ true → IsSome (finite.get again v)) (finite.keys m.points)
    each = all_filter (λ v. IsSome (finite.get again v)) (is_solid m) (finite.keys m.points) (each_marked finite.empty (solid_vertices m))

    all : (u : ℕ) → IsSome (finite.get m.solid u) → IsSome (finite.get again u)
    all u solid = at_live (λ v. is_solid m v ≡ true → IsSome (finite.get again v)) m.points u each (sound.is_mesh.solid_ids u solid) solid

-- ---- a mesh with no vertex solid

unmarked_sound : (m : Mesh) → IsSound m → IsSound (unmarked m)
unmarked_sound m s = record {
  is_mesh = record {
    vertex_ids = s.is_mesh.vertex_ids;
    face_ids = s.is_mesh.face_ids;
    solid_ids = λ v solid. absurd (false≢true (sym (none_in_empty (Unit {0}) v) ∙ solid));
    live_corners = s.is_mesh.live_corners;
    different_corners = s.is_mesh.different_corners;
    different_faces = s.is_mesh.different_faces;
  };
  limits = record {
    vertices = s.limits.vertices;
    faces = s.limits.faces;
    greatest = s.limits.greatest;
    vertex_ids = s.limits.vertex_ids;
    face_ids = s.limits.face_ids;
  };
}

unmarked_clear : (m : Mesh) → IsClearMesh m → IsClearMesh (unmarked m)
unmarked_clear m clear p is = clear p (record { ordered = is.ordered; edge = is.edge; face = is.face; not_first = is.not_first; not_second = is.not_second })

unmarked_valid : (m : Mesh) → IsValidSurface m → IsValidSurface (unmarked m)
unmarked_valid m valid = record { sound = unmarked_sound m valid.sound; closed = valid.closed; clear = unmarked_clear m valid.clear }

-- ---- their lines

solids_told : (r : Replay) (vs : List ℕ) → after r (solid_lines vs) ≡ record r { mesh = record r.mesh { solid = marks r.mesh.solid vs } }
solids_told r [] = refl
solids_told r (v ∷ vs) = solids_told (replayed r (Solid v)) vs

solids_fit : (r : Replay) (vs : List ℕ) → AllByRecursion (IsLiveVertex r.mesh) vs → LinesFit (told false r) (solid_lines vs)
solids_fit r [] live = tt
solids_fit r (v ∷ vs) live = ((refl, live.0), solids_fit (replayed r (Solid v)) vs live.1)

solids_end : (vs : List ℕ) → begun_behind false (solid_lines vs) ≡ false
solids_end [] = refl
solids_end (v ∷ vs) = solids_end vs

solids_are_again : (r : Replay) (vs : List ℕ) → LinesAreAgain r (solid_lines vs)
solids_are_again r [] = tt
solids_are_again r (v ∷ vs) = (tt, solids_are_again (replayed r (Solid v)) vs)

solids_are_safe : (r : Replay) (vs : List ℕ) → LogIsSafe r (solid_lines vs)
solids_are_safe r [] = tt
solids_are_safe r (v ∷ vs) = (tt, solids_are_safe (replayed r (Solid v)) vs)

solids_in_range : (scale : Scale) (vs : List ℕ) → AllByRecursion (IsFrom 1 ID_MAX) vs → AreInRange scale (solid_lines vs)
solids_in_range scale [] ids = All-nil (MayFollow scale)
solids_in_range scale (v ∷ vs) ids = All-cons (MayFollow scale) (Solid v) (solid_lines vs) (ids.0, tt) (solids_in_range scale vs ids.1)

ids_in_range : (m : Mesh) → IsSound m → AllByRecursion (IsFrom 1 ID_MAX) (solid_vertices m)
ids_in_range m sound = all_weaker (IsLiveVertex m) (IsFrom 1 ID_MAX) (solid_vertices m) (λ v live. let ids = sound.is_mesh.vertex_ids v live in (ids.0, omega (arith, ids.1, sound.limits.vertex_ids.1))) (solids_live m sound)

-- ---- the log

-- the lines of the solid vertices, of the calls, and the last
record AreBehindIds (scale : Scale) (m : Mesh) (lines : List LogLine) : Type 0 where
  pub fits : LinesFit (told false (at_mesh (unmarked m))) lines
  pub again : LinesAreAgain (at_mesh (unmarked m)) lines
  pub safe : LogIsSafe (at_mesh (unmarked m)) lines
  pub range : AreInRange scale lines

behind_ids : (scale : Scale) (s : State) (calls : List Call) → CanBeBegun s calls → IsWithin scale s.mesh.limits → AreBehindIds scale s.mesh (solid_lines (solid_vertices s.mesh) ++ (history calls (begun s) ++ End ∷ []))
behind_ids scale s calls can within =
    let m = s.mesh in
    let kept = can.kept in
    let none = can.closed in
    let sound = kept.now.good.sound in
    let solids : List ℕ = solid_vertices m in
    let head : List LogLine = solid_lines solids in
    let rest : List LogLine = history calls (begun s) ++ End ∷ [] in
    let from : Replay = at_mesh (unmarked m) in
    let no_groups : AllByRecursion (λ (n : Mesh). IsWithin scale n.limits) (map (λ (g : Group). g.mesh) s.groups) =
    subst (λ (gs : List Group). AllByRecursion (λ (n : Mesh). IsWithin scale n.limits) (map (λ (g : Group). g.mesh) gs)) (sym none) tt in
    let room : HasRoomFor scale (length calls) (begun s) = record {
      kept = record { now = kept.now; groups = kept.groups };
      within = record { mesh = within; groups = no_groups };
      limits = can.limits;
      steps = can.steps;
      saved = can.saved;
    } in
    let all : AreGood scale (begun s) rest = calls_good scale calls (begun s) room can.may in
    let leads : after from head ≡ standing (begun s) =
    solids_told from solids
    ∙ (λ i. at_mesh_in_groups (record m { solid = solids_again m sound i }) (map (λ (g : Group). g.mesh) (sym none i))) in
    let Fit : Replay → Type 0 = λ r. LinesFit (told false r) rest in
    let Ends : Bool → Type 0 = λ b. LinesFit (told b (after from head)) rest in
    let Again : Replay → Type 0 = λ r. LinesAreAgain r rest in
    let Safe : Replay → Type 0 = λ r. LogIsSafe r rest in
    record {
      fits = fits_append false from head rest (solids_fit from solids (solids_live m sound)) (subst Ends (sym (solids_end solids)) (subst Fit (sym leads) all.fits));
      again = each_then LineIsAgain from head rest (solids_are_again from solids) (subst Again (sym leads) all.again);
      safe = each_then LineHolds from head rest (solids_are_safe from solids) (subst Safe (sym leads) all.safe);
      range = All-append (MayFollow scale) head rest (solids_in_range scale solids (ids_in_range m sound)) all.range;
    }

pub logs_can_be_begun : LogsCanBeBegun
logs_can_be_begun scale s calls can within =
    let m = s.mesh in
    let good = can.kept.now.good in
    let sound = good.sound in
    let from : Replay = at_mesh (as_read m) in
    let version = head_version m in
    let ids : List LogLine = id_lines m in
    let solids : List LogLine = solid_lines (solid_vertices m) in
    let rest : List LogLine = history calls (begun s) ++ End ∷ [] in
    let tail : List LogLine = solids ++ rest in
    let told_ids : TellTheIds m sound scale version ids = ids_told m sound scale in
    let behind : AreBehindIds scale m tail = behind_ids scale s calls can within in
    let Fit : Replay → Type 0 = λ r. LinesFit (told false r) tail in
    let Ends : Bool → Type 0 = λ b. LinesFit (told b (after from ids)) tail in
    let Again : Replay → Type 0 = λ r. LinesAreAgain r tail in
    let Safe : Replay → Type 0 = λ r. LogIsSafe r tail in
    let Saved : ℕ → ℕ → Type 0 = λ vertices faces. IsSavedWell from vertices faces in
    let saved : Saved (finite.len m.points) (finite.len m.faces) =
    subst (λ vertices. Saved vertices (finite.len m.faces)) (as_many_points m sound) (subst (λ faces. Saved (finite.len (as_read m).points) faces) (as_many_faces m sound) (saved_well from (read_valid m sound good))) in
    let whole : IsLogOf scale (as_read m) (First version ∷ mesh_line 0 m ∷ (ids ++ tail)) = record {
      version = version;
      is_written = told_ids.is_written;
      rest = mesh_line 0 m ∷ (ids ++ tail);
      lines_are = refl;
      range = All-cons (MayFollowAs scale version) (mesh_line 0 m) (ids ++ tail) ((mesh_in_range scale m 0 within sound (omega arith)).0, tt)
          (All-append (MayFollowAs scale version) ids tail told_ids.range (may_follow_as scale version false (at_mesh (unmarked m)) tail behind.fits behind.range));
      fits = (tt, ((refl, sym (as_many_points m sound), sym (as_many_faces m sound)), fits_append false from ids tail told_ids.fits (subst Ends (sym told_ids.ends) (subst Fit (sym told_ids.leads) behind.fits))));
      again = (tt, (tt, each_then LineIsAgain from ids tail told_ids.again (subst Again (sym told_ids.leads) behind.again)));
      safe = (tt, (saved, each_then LineHolds from ids tail told_ids.safe (subst Safe (sym told_ids.leads) behind.safe)));
    } in
    subst (λ (lines : List LogLine). IsLogOf scale (as_read m) (First version ∷ mesh_line 0 m ∷ lines)) (sym (append_assoc ids solids rest)) whole

-- the first lines lead back to the mesh
pub heads_make_the_mesh : HeadsMakeTheMesh
heads_make_the_mesh m sound =
    let ids : List LogLine = id_lines m in
    let solids : List ℕ = solid_vertices m in
    let told_ids : TellTheIds m sound Large (head_version m) ids = ids_told m sound Large in
    let all : after (at_mesh (as_read m)) (ids ++ solid_lines solids) ≡ at_mesh m =
    after_then (at_mesh (as_read m)) (at_mesh (unmarked m)) (at_mesh m) ids (solid_lines solids) told_ids.leads
    (solids_told (at_mesh (unmarked m)) solids ∙ (λ i. at_mesh (record m { solid = solids_again m sound i }))) in
    ap (λ (r : Replay). r.mesh) all

pub callers_begin_logs : CallersBeginLogs
callers_begin_logs scale m before calls within valid may_before none may few =
    let first = room_at_first scale m (length before + length calls) within valid (omega (arith, few)) in
    let room : HasRoomFor scale (length calls) (state_after before (unsaved m)) = calls_keep scale (length calls) before (unsaved m) first may_before in
    logs_can_be_begun scale (state_after before (unsaved m)) calls
    (record { kept = room.kept; limits = room.limits; closed = none; may = may; steps = room.steps; saved = omega (arith, few) }) room.within.mesh

pub logs_are_of_their_files : LogsAreOfTheirFiles
logs_are_of_their_files s calls can large =
    subst (λ limits. IsLogOf Large (record (renumbered Large s.mesh) { limits = limits }) (log_begun s calls)) large
    (logs_can_be_begun Large s calls can (within_large s.mesh can.kept.now.good.sound))
