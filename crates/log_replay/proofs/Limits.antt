-- No edit and no line changes the limits of a mesh.
use Rattle.std.proofs.Common.{◌≡◌, ℕ, Bool, true, false, ◌&&◌, ◌||◌, ◌==◌, not, List, [], ◌∷◌, drop, refl, sym, subst, ◌∙◌, arith}
use Rattle.std.specs.List.{AllByRecursion, filter, zip, flat_map}
use Rattle.std.specs.FinMap as finite
use Rattle.grid_base.specs.declared.Point.{Point}
use Rattle.mesh_base.specs.declared.Limits.{Limits}
use Rattle.mesh_base.specs.declared.Scale.{Scale}
use Rattle.mesh_base.specs.Limits.{limits_of}
use Rattle.mesh_base.specs.Mesh.{Mesh}
use Rattle.mesh_base.specs.Changes.{with_vertex, with_point}
use Rattle.mesh_base.specs.Sides.{has_corner, faces_where, faces_at}
use Rattle.mesh_base.proofs.Moves.{limits-with_moves}
use Rattle.edit_base.specs.declared.Change.{Change}
use Rattle.edit_base.specs.declared.Change.TheVariants.{Split, Flip, Collapse, Zip, Pinch}
use Rattle.edit_base.specs.Edges.{edge_of, without_faces}
use Rattle.edit_acts.proofs.Sound.{limits-with_faces}
use Rattle.edit_split.specs.Split.{faces_beside, split_faces}
use Rattle.edit_flip.specs.Flip.{flip_faces}
use Rattle.edit_collapse.specs.Collapse.{without_shared, joined_faces, without_bare, has_face, has_solid_end, collapse_mesh}
use Rattle.edit_collapse.proofs.CollapseMesh.{dropped_next, placed_next}
use Rattle.edit_collapse.proofs.Joined.{limits-without_faces}
use Rattle.edit_collapse.proofs.Three.{three_cut}
use Rattle.edit_zip.specs.Zip.{first_rim, second_rim, two_faces, turns}
use Rattle.edit_pinch.specs.Pinch.{fans, copy_points}
use Rattle.edit_pinch.proofs.CopyClosed.{limits-renamed, limits-copied}
use Rattle.edit_any.specs.Dispatch.{edited}
use Rattle.log_text.specs.declared.LogLine.{LogLine}
use Rattle.log_text.specs.declared.LogLine.TheVariants as line
use Rattle.log_replay.specs.Replay.{Replay, replayed, closed, after, at_mesh}
use Rattle.log_replay.specs.Laws.{HaveLimits, LimitsStay, MeshesKeepLimits, IsWithin, LimitsStayWithin, MeshesAreWithin}

-- ---- edits
limits-collapsed : (m : Mesh) (a b : ℕ) (at : Point) → (collapse_mesh m a b at).limits ≡ m.limits
limits-collapsed m a b at =
    let one = without_shared m a b in
    let three = joined_faces m a b in
    let four = without_bare m b three in
    let bare : List ℕ = filter (λ v. (v == b) || (has_face m v && not (has_face three v))) (finite.keys three.points) in
    (placed_next (has_solid_end m a b) (finite.contains_key four.points a) four a at).2 ∙ (dropped_next bare three).2
    ∙ (three_cut m a b).limits ∙ limits-renamed b a one (faces_at one b)
    ∙ limits-without_faces m (faces_where (λ c. has_corner c a && has_corner c b) m)

-- whatever the change is
pub limits-edited : (m : Mesh) (change : Change) → (edited m change).limits ≡ m.limits
limits-edited m (Split a b w at) =
    let s = edge_of m a b in
    limits-with_faces (with_vertex (without_faces m (faces_beside s)) at) (split_faces s m.next_vertex) ∙ limits-without_faces m (faces_beside s)
limits-edited m (Flip a b) =
    let s = edge_of m a b in
    limits-with_faces (without_faces m (faces_beside s)) (flip_faces s) ∙ limits-without_faces m (faces_beside s)
limits-edited m (Collapse a b at) = limits-collapsed m a b at
limits-edited m (Zip a b e f turn) =
    let s = edge_of m a b in
    let t = edge_of m e f in
    let four : List ℕ = s.left_face ∷ s.right_face ∷ t.left_face ∷ t.right_face ∷ [] in
    limits-with_faces (without_faces m four) (flat_map (λ i. two_faces (first_rim s) (second_rim t) turn i) turns) ∙ limits-without_faces m four
limits-edited m (Pinch v at copies) = limits-copied v (with_point m v at) (zip (drop 1 (fans m v)) (copy_points copies))

-- ---- lines
module _ (Are : Limits → Type 0) where
  limits-closed : (kept : Bool) (stack : List Mesh) (r : Replay) → HaveLimits Are r → AllByRecursion (λ m. Are m.limits) stack → HaveLimits Are (closed kept stack r)
  limits-closed kept [] r h all = h
  limits-closed true (m ∷ outer) r h all = record { mesh = h.mesh; groups = all.1 }
  limits-closed false (m ∷ outer) r h all = record { mesh = all.0; groups = all.1 }

  -- one line
  pub limits-replayed : (r : Replay) (l : LogLine) → HaveLimits Are r → HaveLimits Are (replayed r l)
  limits-replayed r (line.Step k) h = record { mesh = h.mesh; groups = h.groups }
  limits-replayed r (line.Vertices new) h = record { mesh = h.mesh; groups = h.groups }
  limits-replayed r (line.Faces new) h = record { mesh = h.mesh; groups = h.groups }
  limits-replayed r (line.Solid v) h = record { mesh = h.mesh; groups = h.groups }
  limits-replayed r (line.Move s) h = record { mesh = h.mesh; groups = h.groups }
  limits-replayed r (line.Moved how) h = record { mesh = subst Are (sym (limits-with_moves r.mesh r.moves)) h.mesh; groups = h.groups }
  limits-replayed r (line.Did change) h = record { mesh = subst Are (sym (limits-edited r.mesh change)) h.mesh; groups = h.groups }
  limits-replayed r line.Group h = record { mesh = h.mesh; groups = (h.mesh, h.groups) }
  limits-replayed r (line.Close kept) h = limits-closed kept r.stack r h h.groups
  limits-replayed r _ h = h

  -- and so several
  pub limits-after : (r : Replay) (lines : List LogLine) → HaveLimits Are r → HaveLimits Are (after r lines)
  limits-after r [] h = h
  limits-after r (l ∷ ls) h = limits-after (replayed r l) ls (limits-replayed r l h)

pub limits_stay : LimitsStay
limits_stay limits r lines h = limits-after (λ l. l ≡ limits) r lines h

pub limits-after_lines : MeshesKeepLimits
limits-after_lines m lines = (limits-after (λ l. l ≡ m.limits) (at_mesh m) lines (record { mesh = refl; groups = tt })).mesh

-- ---- the limits of a scale
pub limits_stay_within : LimitsStayWithin
limits_stay_within scale r lines h = limits-after (IsWithin scale) r lines h

pub within_large : MeshesAreWithin
within_large m sound = record { vertices = sound.limits.greatest.0; faces = sound.limits.greatest.1 }

pub within_same : (scale : Scale) (limits : Limits) → limits ≡ limits_of scale → IsWithin scale limits
within_same scale limits same = subst (IsWithin scale) (sym same) (record { vertices = omega arith; faces = omega arith })
