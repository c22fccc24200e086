-- The lines that tell which ids there are, at the head of a log.
use Rattle.std.proofs.Common.{◌≡◌, ◌⊎◌, inl, inr, ℕ, ◌+◌, ◌-◌, ◌<◌, ◌≤◌, Bool, true, false, T, List, [], ◌∷◌, length, map, IsSome, is_some, Some, refl, sym, ap, subst, ◌∙◌, arith}
use Rattle.std.specs.Prelude.{All, if◌then◌else◌}
use Rattle.std.specs.List.{AllByRecursion}
use Rattle.std.specs.Ordering.{nat_cmp}
use Rattle.std.specs.FinMap as finite
use Rattle.std.specs.FinMap.{FinMap, entries_sorted, len-entries}
use Rattle.std.specs.FinMap.Entries.{is_sorted, below_all}
use Rattle.std.proofs.lemmas.List.{length-map}
use Rattle.std.proofs.lemmas.List.Elements.{All-nil, All-cons}
use Rattle.grid_base.specs.declared.TheConstants.{ID_MAX}
use Rattle.mesh_base.specs.declared.Scale.{Scale}
use Rattle.mesh_base.specs.declared.Scale.TheVariants.{Large}
use Rattle.mesh_base.specs.Changes.{corners_of}
use Rattle.mesh_base.specs.Mesh.{Mesh, IsSound}
use Rattle.mesh_base.specs.Valid.{IsValidSurface}
use Rattle.mesh_base.proofs.ListedPairs.{all_weaker}
use Rattle.mesh_base.proofs.WalkSteps.{both_of}
use Rattle.mesh_shape.proofs.Lists.{len_numbered}
use Rattle.mesh_ids.specs.NewIds.{AreRisingBelow, MayTake, vertex_id, renamed, with_vertex_ids}
use Rattle.mesh_ids.proofs.Taken.{entries_moved}
use Rattle.mesh_ids.proofs.TakenBack.{ids_are_taken_back_lem}
use Rattle.obj_text.specs.Written.{ranks, points_in_order, faces_by_rank}
use Rattle.obj_text.proofs.Renumbered.{closed_again, clear_again}
use Rattle.log_text.specs.declared.TheConstants.{VERSION, IDS_VERSION}
use Rattle.log_text.specs.declared.NewIds.{NewIds}
use Rattle.log_text.specs.declared.LogLine.{LogLine}
use Rattle.log_read.specs.Laws.{AreRisingTo, AreNewIds}
use Rattle.log_replay.specs.Again.{LinesAreAgain}
use Rattle.log_replay.specs.Replay.{after, at_mesh}
use Rattle.track_engine.specs.Kept.{FitsScale, LogIsSafe}
use Rattle.track_engine.proofs.ShapeAgain.{sound_again}
use Rattle.track_held.specs.Heads.{as_read, unmarked, has_dense_ids, vertices_line, faces_line, head_version, id_lines}
use Rattle.track_held.proofs.DenseIds.{above, each_live, dense_as_read}
use Rattle.log_fits.specs.Fitting.{LinesFit}
use Rattle.log_fits.specs.Logs.{MayFollowAs}
use Rattle.log_fits.proofs.Lines.{told, begun_behind}

-- ---- the ids of a map may be taken by as many

rising_keys : {X : Type 0} (next low : ℕ) (es : List (ℕ × X)) → T (is_sorted nat_cmp es) → AllByRecursion (λ e. low ≤ e.0) es → AllByRecursion (λ e. e.0 < next) es → AreRisingBelow next low (map (λ e. e.0) es)
rising_keys next low [] s from below = tt
rising_keys next low (e ∷ es) s from below =
    let parts = both_of (below_all nat_cmp e.0 es) (is_sorted nat_cmp es) s in
    (from.0, below.0, rising_keys next (e.0 + 1) es parts.1 (above e.0 es parts.0) below.1)

keys_may : {X : Type 0} (entries : FinMap nat_cmp X) (next : ℕ) → ((k : ℕ) → IsSome (finite.get entries k) → (1 ≤ k) × (k < next)) → (1 ≤ next) × (next ≤ ID_MAX + 1) → MayTake (finite.len entries) (finite.keys entries) next
keys_may {X} entries next ids most =
    let es = finite.entries entries in
    let live = each_live entries in
    record {
      many = length-map es (λ e. e.0) ∙ sym (len-entries entries);
      rise = rising_keys next 1 es (entries_sorted entries)
          (all_weaker (λ (e : ℕ × X). finite.get entries e.0 ≡ Some e.1) (λ (e : ℕ × X). 1 ≤ e.0) es (λ e found. (ids e.0 (ap is_some found)).0) live)
          (all_weaker (λ (e : ℕ × X). finite.get entries e.0 ≡ Some e.1) (λ (e : ℕ × X). e.0 < next) es (λ e found. (ids e.0 (ap is_some found)).1) live);
      some = most.0;
      most = most.1;
    }

rising_to : (next low : ℕ) (ids : List ℕ) → AreRisingBelow next low ids → AreRisingTo (next - 1) low ids
rising_to next low [] rise = tt
rising_to next low (id ∷ ids) rise = let least = rise.0 in let most = rise.1 in ((least, omega (arith, most)), rising_to next (id + 1) ids rise.2)

in_range : (count : ℕ) (new : NewIds) → MayTake count new.ids new.next → AreNewIds new
in_range count new may = record { next = (may.some, may.most); ids = rising_to new.next 1 new.ids may.rise }

module _ (m : Mesh) (sound : IsSound m) where
  abbrev read : Mesh
  read = as_read m

  -- ---- the mesh that is read

  pub as_many_points : finite.len read.points ≡ finite.len m.points
  as_many_points = len_numbered (points_in_order m) ∙ length-map (finite.entries m.points) (λ e. e.1) ∙ sym (len-entries m.points)

  pub as_many_faces : finite.len read.faces ≡ finite.len m.faces
  as_many_faces = len_numbered (map corners_of (faces_by_rank m)) ∙ length-map (faces_by_rank m) corners_of ∙ length-map (finite.entries m.faces) (λ e. ranks m e.1) ∙ sym (len-entries m.faces)

  fits_large : FitsScale Large m
  fits_large = record { vertices = omega (arith, sound.limits.vertices, sound.limits.greatest.0); faces = omega (arith, sound.limits.faces, sound.limits.greatest.1) }

  read_sound : IsSound read
  read_sound =
      let s = sound_again Large m sound fits_large in
      record {
        is_mesh = record {
          vertex_ids = s.is_mesh.vertex_ids;
          face_ids = s.is_mesh.face_ids;
          solid_ids = s.is_mesh.solid_ids;
          live_corners = s.is_mesh.live_corners;
          different_corners = s.is_mesh.different_corners;
          different_faces = s.is_mesh.different_faces;
        };
        limits = record {
          vertices = omega (arith, as_many_points, sound.limits.vertices);
          faces = omega (arith, as_many_faces, sound.limits.faces);
          greatest = sound.limits.greatest;
          vertex_ids = s.limits.vertex_ids;
          face_ids = s.limits.face_ids;
        };
      }

  pub read_valid : IsValidSurface m → IsValidSurface read
  read_valid valid = record {
    sound = read_sound;
    closed = closed_again Large m sound valid.closed;
    clear = λ p is. clear_again Large m sound valid.clear p (record { ordered = is.ordered; edge = is.edge; face = is.face; not_first = is.not_first; not_second = is.not_second });
  }

  -- ---- the ids that it takes

  abbrev named : Mesh
  named = with_vertex_ids read (finite.keys m.points) m.next_vertex

  vertices_may : MayTake (finite.len m.points) (finite.keys m.points) m.next_vertex
  vertices_may = keys_may m.points m.next_vertex sound.is_mesh.vertex_ids sound.limits.vertex_ids

  faces_may : MayTake (finite.len m.faces) (finite.keys m.faces) m.next_face
  faces_may = keys_may m.faces m.next_face sound.is_mesh.face_ids sound.limits.face_ids

  as_many_named : finite.len named.faces ≡ finite.len m.faces
  as_many_named =
      len-entries named.faces
      ∙ ap length (entries_moved read.faces (λ k. k) (λ k l live-k live-l less. less) (renamed (vertex_id read (finite.keys m.points))))
      ∙ length-map (finite.entries read.faces) (λ e. (e.0, renamed (vertex_id read (finite.keys m.points)) e.1))
      ∙ sym (len-entries read.faces) ∙ as_many_faces

  -- ---- the lines

  -- What is known of lines between that of a mesh and those of its solid vertices.
  pub record TellTheIds (scale : Scale) (version : ℕ) (lines : List LogLine) : Type 0 where
    pub is_written : (version ≡ VERSION) ⊎ (version ≡ IDS_VERSION)
    pub leads : after (at_mesh read) lines ≡ at_mesh (unmarked m)
    pub fits : LinesFit (told false (at_mesh read)) lines
    pub ends : begun_behind false lines ≡ false
    pub again : LinesAreAgain (at_mesh read) lines
    pub safe : LogIsSafe (at_mesh read) lines
    pub range : All (MayFollowAs scale version) lines

  both_in_range : (scale : Scale) → All (MayFollowAs scale IDS_VERSION) (vertices_line m ∷ faces_line m ∷ [])
  both_in_range scale =
      All-cons (MayFollowAs scale IDS_VERSION) (vertices_line m) (faces_line m ∷ []) (in_range (finite.len m.points) _ vertices_may, refl)
      (All-cons (MayFollowAs scale IDS_VERSION) (faces_line m) [] (in_range (finite.len m.faces) _ faces_may, refl) (All-nil (MayFollowAs scale IDS_VERSION)))

  pub ids_told : (scale : Scale) → TellTheIds scale (head_version m) (id_lines m)
  ids_told scale = by_test (has_dense_ids m) refl
    where
      Told : Bool → Type 0
      Told b = TellTheIds scale (if b then VERSION else IDS_VERSION) (if b then [] else vertices_line m ∷ faces_line m ∷ [])

      by_test : (b : Bool) → has_dense_ids m ≡ b → Told b
      by_test true e = record { is_written = inl refl; leads = ap at_mesh (dense_as_read m sound e); fits = tt; ends = refl; again = tt; safe = tt; range = All-nil (MayFollowAs scale VERSION) }
      by_test false e = record {
        is_written = inr refl;
        leads = ap at_mesh (ids_are_taken_back_lem m m.limits sound);
        fits = (
          (refl, refl, subst (λ count. MayTake count (finite.keys m.points) m.next_vertex) (sym as_many_points) vertices_may),
          ((refl, refl, subst (λ count. MayTake count (finite.keys m.faces) m.next_face) (sym as_many_named) faces_may), tt),
        );
        ends = refl;
        again = (tt, (tt, tt));
        safe = (tt, (tt, tt));
        range = both_in_range scale;
      }
