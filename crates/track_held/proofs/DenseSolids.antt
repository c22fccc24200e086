-- The vertices that are solid when a mesh is numbered anew are those that were, by their ranks.
use Rattle.std.proofs.Common.{◌≡◌, ℕ, zero, suc, ◌+◌, ◌⊎◌, ⊎_elim, true, false, List, [], ◌∷◌, ◌++◌, map, Some, is_some, refl, sym, ap, subst, ◌∙◌, arith, inl, inr}
use Rattle.std.specs.List.{AllByRecursion, filter}
use Rattle.std.specs.Prelude.{All}
use Rattle.std.specs.Ordering.{nat_cmp}
use Rattle.std.specs.FinMap as finite
use Rattle.std.specs.FinMap.{get-entries, entries_sorted}
use Rattle.std.specs.FinMap.Entries.{find}
use Rattle.std.proofs.lemmas.Bool.{false≢true}
use Rattle.grid_base.specs.declared.Point.{Point}
use Rattle.mesh_base.specs.declared.Scale.{Scale}
use Rattle.mesh_base.specs.Mesh.{Mesh, IsSound, IsLiveVertex, is_solid}
use Rattle.mesh_base.specs.Changes.{with_solid}
use Rattle.mesh_base.specs.Sides.{IsClosed}
use Rattle.mesh_base.specs.Placements.{IsClearMesh}
use Rattle.mesh_base.proofs.Finite.{live_after_insert, none_in_empty}
use Rattle.mesh_base.proofs.Listed.{each_found}
use Rattle.mesh_base.proofs.ListedPairs.{all_mapped, all_weaker, all_filtered}
use Rattle.mesh_base.proofs.MeshLaws.{sound-with_solid}
use Rattle.mesh_rows.specs.Making.{with_solids}
use Rattle.obj_text.specs.Written.{rank}
use Rattle.obj_text.specs.Laws.{renumbered}
use Rattle.obj_text.proofs.RanksInOrder.{rank_once}

-- ---- vertices are marked one after another

pub points-with_solids : (m : Mesh) (vs : List ℕ) → (with_solids m vs).points ≡ m.points
points-with_solids m [] = refl
points-with_solids m (v ∷ vs) = points-with_solids (with_solid m v) vs

pub solids_more : (m : Mesh) (vs : List ℕ) (v : ℕ) → with_solids m (vs ++ v ∷ []) ≡ with_solid (with_solids m vs) v
solids_more m [] v = refl
solids_more m (u ∷ vs) v = solids_more (with_solid m u) vs v

pub sound-with_solids : (m : Mesh) (vs : List ℕ) → AllByRecursion (IsLiveVertex m) vs → IsSound m → IsSound (with_solids m vs)
sound-with_solids m [] live sound = sound
sound-with_solids m (v ∷ vs) live sound = sound-with_solids (with_solid m v) vs live.1 (sound-with_solid m v sound live.0)

pub closed-with_solids : (m : Mesh) (vs : List ℕ) → IsClosed m → IsClosed (with_solids m vs)
closed-with_solids m [] closed = closed
closed-with_solids m (v ∷ vs) closed = closed-with_solids (with_solid m v) vs closed

clear-with_one : (m : Mesh) (v : ℕ) → IsClearMesh m → IsClearMesh (with_solid m v)
clear-with_one m v clear p is = clear p (record { ordered = is.ordered; edge = is.edge; face = is.face; not_first = is.not_first; not_second = is.not_second })

pub clear-with_solids : (m : Mesh) (vs : List ℕ) → IsClearMesh m → IsClearMesh (with_solids m vs)
clear-with_solids m [] clear = clear
clear-with_solids m (v ∷ vs) clear = clear-with_solids (with_solid m v) vs (clear-with_one m v clear)

-- what is solid then was so before, or is one of them
pub solid_among : (P : ℕ → Type 0) (m : Mesh) (vs : List ℕ) (u : ℕ) → AllByRecursion P vs → is_solid (with_solids m vs) u ≡ true → (is_solid m u ≡ true) ⊎ P u
solid_among P m [] u h solid = inl solid
solid_among P m (v ∷ vs) u h solid = ⊎_elim
    (λ before. ⊎_elim (λ same. inr (subst P (sym same) h.0)) (λ old. inl old) (live_after_insert m.solid v tt u before))
    (λ one. inr one)
    (solid_among P (with_solid m v) vs u h.1 solid)

-- ---- the live vertices

-- what holds of each, one after another, holds of each
pub all_of : {X : Type 0} (P : X → Type 0) (xs : List X) → AllByRecursion P xs → All P xs
all_of P [] h k d lt = absurd (omega arith)
all_of P (x ∷ xs) h zero d lt = h.0
all_of P (x ∷ xs) h (suc k) d lt = all_of P xs h.1 k d (omega arith)

module _ (m : Mesh) where
  found_along : (es : List (ℕ × Point)) → AllByRecursion (λ e. find nat_cmp e.0 (finite.entries m.points) ≡ Some e.1) es → AllByRecursion (IsLiveVertex m) (map (λ e. e.0) es)
  found_along [] h = tt
  found_along (e ∷ es) h = (ap is_some (get-entries m.points e.0 ∙ h.0), found_along es h.1)

  pub keys_live : AllByRecursion (IsLiveVertex m) (finite.keys m.points)
  keys_live = found_along (finite.entries m.points) (each_found (finite.entries m.points) (entries_sorted m.points))

  -- the rank of a live vertex that is solid
  pub record IsSolidRank (u : ℕ) : Type 0 where
    pub v : ℕ
    pub live : IsLiveVertex m v
    pub solid : is_solid m v ≡ true
    pub is : u ≡ rank m v

  abbrev pub solids : List ℕ
  solids = filter (is_solid m) (finite.keys m.points)

  pub solids_live : AllByRecursion (IsLiveVertex m) solids
  solids_live = all_filtered (IsLiveVertex m) (is_solid m) (finite.keys m.points) (all_weaker (IsLiveVertex m) (λ v. is_solid m v ≡ true → IsLiveVertex m v) (finite.keys m.points) (λ v live. λ solid. live) keys_live)

  solid_ranks : AllByRecursion IsSolidRank (map (rank m) solids)
  solid_ranks = all_mapped IsSolidRank (rank m) solids (
      all_filtered (λ v. IsSolidRank (rank m v)) (is_solid m) (finite.keys m.points)
      (all_weaker (IsLiveVertex m) (λ v. is_solid m v ≡ true → IsSolidRank (rank m v)) (finite.keys m.points) (λ v live. λ solid. record { v = v; live = live; solid = solid; is = refl }) keys_live)
      )

  -- a live vertex is solid, if its rank is then
  pub solid_was : (scale : Scale) (v : ℕ) → IsLiveVertex m v → is_solid (with_solids (renumbered scale m) (map (rank m) solids)) (rank m v) ≡ true → is_solid m v ≡ true
  solid_was scale v live solid = ⊎_elim
      (λ none. absurd (false≢true (sym (none_in_empty (Unit {0}) (rank m v)) ∙ none)))
      (λ (one : IsSolidRank (rank m v)). ap (is_solid m) (rank_once m v one.v live one.live one.is) ∙ one.solid)
      (solid_among IsSolidRank (renumbered scale m) (map (rank m) solids) (rank m v) solid_ranks solid)
