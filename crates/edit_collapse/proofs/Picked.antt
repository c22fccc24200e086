-- The faces of a list of ids that do not hold a vertex, with their corners.
use Rattle.std.proofs.Common.{◌≡◌, ℕ, ◌<◌, ◌≤◌, ◌+◌, Bool, true, false, cond, not, ◌&&◌, List, [], ◌∷◌, ◌++◌, map, length, get_or, drop, Option, Some, None, refl, sym, ap, ◌∙◌, append_assoc, arith}
use Rattle.std.specs.Option.{option_map_or}
use Rattle.std.specs.List.{filter, AllByRecursion}
use Rattle.std.specs.FinMap as finite
use Rattle.std.specs.FinMap.{len-entries}
use Rattle.grid_base.specs.declared.TheConstants.{FACES_MAX}
use Rattle.mesh_base.specs.declared.ids.Corners.{Corners}
use Rattle.mesh_base.specs.Mesh.{Mesh, IsSound, HasCorners}
use Rattle.mesh_base.specs.Sides.{has_corner, faces_at}
use Rattle.mesh_base.proofs.ListedPairs.{all_weaker, all_filtered}
use Rattle.edit_collapse.proofs.Joined.{each_there}
use Rattle.edit_collapse.specs.Tried.{if_apart, only_at}
use Rattle.edit_collapse.proofs.Lists.{filter_twice, fewer_filtered, rest_at}
use Rattle.mesh_base.proofs.MeshLaws.{few_live_faces}

abbrev pub picked : Mesh → ℕ → List ℕ → List (ℕ × Corners)
picked m other [] = []
picked m other (f ∷ fs) = option_map_or (λ c. cond (has_corner c other) (picked m other fs) ((f, c) ∷ picked m other fs)) (finite.get m.faces f) (picked m other fs)

picked_entries : (m : Mesh) (other : ℕ) (es : List (ℕ × Corners)) → AllByRecursion (λ (e : ℕ × Corners). HasCorners m e.0 e.1) es → picked m other (map (λ e. e.0) es) ≡ filter (λ e. not (has_corner e.1 other)) es
picked_entries m other [] h = refl
picked_entries m other (e ∷ es) h =
    let rest = picked_entries m other es h.1 in
    ap (λ o. option_map_or (λ c. cond (has_corner c other) (picked m other (map (λ x. x.0) es)) ((e.0, c) ∷ picked m other (map (λ x. x.0) es))) o (picked m other (map (λ x. x.0) es))) h.0
    ∙ (λ i. cond (has_corner e.1 other) (rest i) (e ∷ rest i)) ∙ turned (has_corner e.1 other)
  where
    turned : (b : Bool) → cond b (filter (λ x. not (has_corner x.1 other)) es) (e ∷ filter (λ x. not (has_corner x.1 other)) es) ≡ cond (not b) (e ∷ filter (λ x. not (has_corner x.1 other)) es) (filter (λ x. not (has_corner x.1 other)) es)
    turned true = refl
    turned false = refl

pub picked_all : (m : Mesh) (v other : ℕ) → picked m other (faces_at m v) ≡ only_at m v other
picked_all m v other =
    picked_entries m other (filter (λ e. has_corner e.1 v) (finite.entries m.faces))
    (all_filtered (λ (e : ℕ × Corners). HasCorners m e.0 e.1) (λ e. has_corner e.1 v) (finite.entries m.faces)
    (all_weaker (λ (e : ℕ × Corners). HasCorners m e.0 e.1) (λ (e : ℕ × Corners). has_corner e.1 v ≡ true → HasCorners m e.0 e.1) (finite.entries m.faces) (λ e there held. there) (each_there m)))
    ∙ filter_twice (λ e. not (has_corner e.1 other)) (λ e. has_corner e.1 v) (finite.entries m.faces)

pub few_at : (m : Mesh) (v other : ℕ) → IsSound m → length (only_at m v other) ≤ FACES_MAX
few_at m v other sound =
    let few = fewer_filtered (λ (e : ℕ × Corners). has_corner e.1 v && not (has_corner e.1 other)) (finite.entries m.faces) in
    let count = len-entries m.faces in
    let limit = few_live_faces m sound in
    omega (arith, few, count, limit)

-- one step of the walk
picked_first : (m : Mesh) (other f : ℕ) (fs : List ℕ) → if_apart m other f ++ picked m other fs ≡ picked m other (f ∷ fs)
picked_first m other f fs = by_found (finite.get m.faces f)
  where
    by_corner : (c : Corners) (t : Bool) → cond t [] ((f, c) ∷ []) ++ picked m other fs ≡ cond t (picked m other fs) ((f, c) ∷ picked m other fs)
    by_corner c true = refl
    by_corner c false = refl

    by_found : (o : Option Corners) → option_map_or (λ c. cond (has_corner c other) [] ((f, c) ∷ [])) o [] ++ picked m other fs
        ≡ option_map_or (λ c. cond (has_corner c other) (picked m other fs) ((f, c) ∷ picked m other fs)) o (picked m other fs)
    by_found None = refl
    by_found (Some c) = by_corner c (has_corner c other)

pub picked_on : (m : Mesh) (other : ℕ) (fs : List ℕ) (i f : ℕ) (got more : List (ℕ × Corners)) → i < length fs → f ≡ get_or fs i f → more ≡ got ++ if_apart m other f →
    more ++ picked m other (drop (i + 1) fs) ≡ got ++ picked m other (drop i fs)
picked_on m other fs i f got more below is put =
    let rest = picked m other (drop (i + 1) fs) in
    ap (λ xs. xs ++ rest) put
    ∙ append_assoc got (if_apart m other f) rest
    ∙ ap (λ xs. got ++ xs) (picked_first m other f (drop (i + 1) fs) ∙ ap (picked m other) (sym (rest_at fs i f below ∙ ap (λ k. k ∷ drop (i + 1) fs) (sym is))))
