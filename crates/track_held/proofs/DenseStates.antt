-- The state of a tracker that is numbered anew is sound, and the same is asked in it.
use Rattle.std.proofs.Common.{◌≡◌, ℕ, true, List, [], ◌∷◌, length, map, None, refl, sym, ap, ◌∙◌, subst, arith}
use Rattle.std.specs.Prelude.{All}
use Rattle.std.specs.List.{AllByRecursion}
use Rattle.std.specs.List.Sorted.{IsStrictlySortedBy}
use Rattle.std.specs.Ordering.{nat_cmp}
use Rattle.std.specs.FinMap as finite
use Rattle.grid_base.specs.declared.Point.{Point}
use Rattle.grid_base.specs.Points.{displacement_of}
use Rattle.mesh_base.specs.declared.limits.Scale.TheVariants.{Large}
use Rattle.mesh_base.specs.Mesh.{Mesh, IsSound, IsLiveVertex, is_solid}
use Rattle.mesh_base.specs.Placements.{origin}
use Rattle.mesh_base.specs.Shifts.{Shifts, NameLive}
use Rattle.mesh_base.specs.Sides.{IsClosed}
use Rattle.mesh_base.specs.Valid.{IsValidSurface}
use Rattle.mesh_base.proofs.ListedPairs.{all_mapped, all_weaker}
use Rattle.mesh_shape.specs.Shape.{shape_fault}
use Rattle.mesh_shape.proofs.Faults.{no_fault}
use Rattle.pair_scan.proofs.Paths.{ids_sorted}
use Rattle.mesh_base.specs.Given.{mesh_under}
use Rattle.mesh_rows.specs.Making.{with_solids}
use Rattle.obj_text.specs.Written.{rank, rank_among, points_in_order, faces_by_rank}
use Rattle.obj_text.specs.Laws.{renumbered}
use Rattle.obj_text.proofs.Renumbered.{closed_again, clear_again}
use Rattle.obj_text.proofs.RanksInOrder.{keeps_order_lem}
use Rattle.track_engine.specs.Kept.{FitsScale}
use Rattle.track_engine.specs.Invariant.{IsAskedWell, IsRunInvariant}
use Rattle.track_engine.specs.State.{state_of, group_of, groups_of, still_asked, asked_in}
use Rattle.track_engine.specs.declared.open_group.OpenGroup.{OpenGroup}
use Rattle.track_engine.specs.declared.run_state.RunState.{RunState}
use Rattle.track_engine.proofs.AskedLemmas.{still_named, whole_is}
use Rattle.track_engine.proofs.Keeping.{ids_in, asked_still}
use Rattle.track_engine.proofs.ShapeAgain.{sound_again, rank_lives}
use Rattle.track_engine.proofs.Still.{SolidsAreStill, rest_of_still}
use Rattle.track_held.specs.Renumbered.{ranked_shift, dense_shifts, dense_mesh, dense_state}
use Rattle.track_held.proofs.DenseSolids.{points-with_solids, sound-with_solids, closed-with_solids, clear-with_solids, all_of, keys_live, solids, solids_live, solid_was}

-- ---- the mesh

fits_large : (m : Mesh) → IsSound m → FitsScale Large m
fits_large m sound = record { vertices = omega (arith, sound.limits.vertices, sound.limits.greatest.0); faces = omega (arith, sound.limits.faces, sound.limits.greatest.1) }

-- its lists have no fault of shape
pub dense_shape : (m : Mesh) (points : List Point) (faces : List (List ℕ)) → IsSound m → IsClosed m → points ≡ points_in_order m → faces ≡ faces_by_rank m → shape_fault Large (length points) faces ≡ None
dense_shape m points faces sound closed of_points of_faces =
    ap (λ (ps : List Point). shape_fault Large (length ps) faces) of_points
    ∙ ap (λ (fs : List (List ℕ)). shape_fault Large (length (points_in_order m)) fs) of_faces
    ∙ no_fault Large (points_in_order m) (faces_by_rank m) (sound_again Large m sound (fits_large m sound)) (closed_again Large m sound closed)

-- the vertices that are to be solid live
pub ranks_live : (m : Mesh) → IsSound m → AllByRecursion (IsLiveVertex (renumbered Large m)) (map (rank m) (solids m))
ranks_live m sound =
    all_mapped (IsLiveVertex (renumbered Large m)) (rank m) (solids m)
    (all_weaker (IsLiveVertex m) (λ v. IsLiveVertex (renumbered Large m) (rank m v)) (solids m) (rank_lives Large m sound) (solids_live m))

pub dense_valid : (m : Mesh) → IsValidSurface m → IsValidSurface (dense_mesh m)
dense_valid m valid =
    let ranks = map (rank m) (solids m) in
    record {
      sound = sound-with_solids (renumbered Large m) ranks (ranks_live m valid.sound) (sound_again Large m valid.sound (fits_large m valid.sound));
      closed = closed-with_solids (renumbered Large m) ranks (closed_again Large m valid.sound valid.closed);
      clear = clear-with_solids (renumbered Large m) ranks (clear_again Large m valid.sound valid.clear);
    }

module _ (m : Mesh) (sound : IsSound m) (made : Mesh) (points : List Point) (faces : List (List ℕ)) (ids vertices ranks : List ℕ)
    (is_made : made ≡ mesh_under Large points faces) (of_points : points ≡ points_in_order m) (of_faces : faces ≡ faces_by_rank m) (of_ids : ids ≡ finite.keys m.points) (of_solids : vertices ≡ solids m) (of_ranks : ranks ≡ map (rank_among ids) vertices) where
  made_is : made ≡ renumbered Large m
  made_is = is_made ∙ ap (λ (ps : List Point). mesh_under Large ps faces) of_points ∙ ap (λ (fs : List (List ℕ)). mesh_under Large (points_in_order m) fs) of_faces

  ranks_are : ranks ≡ map (rank m) (solids m)
  ranks_are = of_ranks ∙ ap (λ (l : List ℕ). map (rank_among l) vertices) of_ids ∙ ap (λ (l : List ℕ). map (rank m) l) of_solids

  -- the vertices that are to be solid live in the mesh that is made
  pub marks_live : All (IsLiveVertex made) ranks
  marks_live =
      let P : Mesh → Type 0 = λ n. All (IsLiveVertex n) ranks in
      let Q : List ℕ → Type 0 = λ l. All (IsLiveVertex (renumbered Large m)) l in
      subst P (sym made_is) (subst Q (sym ranks_are) (all_of (IsLiveVertex (renumbered Large m)) (map (rank m) (solids m)) (ranks_live m sound)))

  -- and with them it is the mesh that is numbered anew
  pub marked_is : (marked : Mesh) → marked ≡ with_solids made ranks → marked ≡ dense_mesh m
  marked_is marked is = is ∙ ap (λ (n : Mesh). with_solids n ranks) made_is ∙ ap (λ (l : List ℕ). with_solids (renumbered Large m) l) ranks_are

-- ---- what is asked

ids_ranked : (m : Mesh) (asked : Shifts) → map (λ s. s.v) (dense_shifts m asked) ≡ map (rank m) (map (λ s. s.v) asked)
ids_ranked m [] = refl
ids_ranked m (s ∷ asked) = ap (λ ids. rank m s.v ∷ ids) (ids_ranked m asked)

module _ (m : Mesh) (asked : Shifts) where
  abbrev dense : Shifts
  dense = dense_shifts m (asked_in m asked)

  dense_named : NameLive (dense_mesh m) dense
  dense_named =
      ids_ranked m (asked_in m asked)
      ∙ ap (map (rank m)) (ids_in m asked)
      ∙ sym (keeps_order_lem Large m)
      ∙ ap (λ points. finite.keys points) (sym (points-with_solids (renumbered Large m) (map (rank m) (solids m))))

  pub dense_rises : IsStrictlySortedBy nat_cmp (map (λ s. s.v) dense)
  dense_rises = ids_sorted (dense_mesh m) dense dense_named

  still_along : (ids : List ℕ) → AllByRecursion (IsLiveVertex m) ids → SolidsAreStill m (map (still_asked m asked) ids) → AllByRecursion (λ s. is_solid (dense_mesh m) (rank m s.v) ≡ true → displacement_of s.by ≡ origin) (map (still_asked m asked) ids)
  still_along [] live still = tt
  still_along (v ∷ ids) live still =
      let named = still_named m asked v in (
        λ solid. still.0 (ap (is_solid m) named ∙ solid_was m Large v live.0 (ap (λ u. is_solid (dense_mesh m) (rank m u)) (sym named) ∙ solid)),
        still_along ids live.1 still.1,
      )

  dense_still : SolidsAreStill (dense_mesh m) dense
  dense_still =
      all_mapped (λ s. is_solid (dense_mesh m) s.v ≡ true → displacement_of s.by ≡ origin) (ranked_shift (finite.keys m.points)) (asked_in m asked)
      (still_along (finite.keys m.points) (keys_live m) (asked_still m asked (finite.keys m.points)))

  -- each vertex of the mesh is named
  dense_whole : asked_in (dense_mesh m) dense ≡ dense
  dense_whole = whole_is (dense_mesh m) dense dense_named dense_still

-- the shifts that are made
module _ (m : Mesh) (asked : Shifts) (ids : List ℕ) (given ranked : Shifts) (of_ids : ids ≡ finite.keys m.points) (of_given : given ≡ asked_in m asked) (of_ranked : ranked ≡ map (ranked_shift ids) given) where
  pub ranked_are : ranked ≡ dense_shifts m (asked_in m asked)
  ranked_are = of_ranked ∙ ap (λ (l : List ℕ). map (ranked_shift l) given) of_ids ∙ ap (λ (l : Shifts). map (ranked_shift (finite.keys m.points)) l) of_given

  pub ranked_rise : IsStrictlySortedBy nat_cmp (map (λ s. s.v) ranked)
  ranked_rise = let P : Shifts → Type 0 = λ l. IsStrictlySortedBy nat_cmp (map (λ s. s.v) l) in subst P (sym ranked_are) (dense_rises m asked)

-- ---- the state

pub dense_state_is : (m m' : Mesh) (kept kept' : List Mesh) (run run' : RunState) → m' ≡ dense_mesh m → run'.asked ≡ dense_shifts m (asked_in m run.asked) → run'.set ≡ run.set → run'.steps ≡ run.steps → run'.saved ≡ run.saved → run'.groups ≡ []
    → state_of m' kept' run' ≡ dense_state (state_of m kept run)
dense_state_is m m' kept kept' run run' mesh asked set steps saved groups =
    let all : asked_in m' run'.asked ≡ dense_shifts m (asked_in m run.asked) = ap (λ n. asked_in n run'.asked) mesh ∙ ap (asked_in (dense_mesh m)) asked ∙ dense_whole m run.asked in
    λ i. record { mesh = mesh i; asked = all i; set = set i; steps = steps i; saved = saved i; groups = map (group_of kept') (groups i) }

-- it is one as each directive leaves
pub dense_invariant : (m m' : Mesh) (kept : List Mesh) (run : RunState) → IsValidSurface m → m' ≡ dense_mesh m → run.groups ≡ [] → IsRunInvariant (state_of m' kept run)
dense_invariant m m' kept run valid mesh none = record {
  now = record {
    good = subst IsValidSurface (sym mesh) (dense_valid m valid);
    names = ids_in m' run.asked;
    still = rest_of_still m' (asked_in m' run.asked) (asked_still m' run.asked (finite.keys m'.points));
  };
  groups = let P : List OpenGroup → Type 0 = λ groups. AllByRecursion (λ group. IsAskedWell group.mesh group.asked) (groups_of kept groups) in subst P (sym none) tt;
}
