-- Crowded edges and faces with an opposite, found along the sides of faces.
use Rattle.std.proofs.Common.{◌≡◌, ℕ, zero, suc, ◌+◌, Bool, true, false, cond, ◌&&◌, ◌||◌, ◌==◌, List, [], ◌∷◌, map, drop, Some, slice_get, nat_lt, refl, sym, ap, ◌∙◌, add-one, arith}
use Rattle.std.specs.Option.{option_map_or, unwrap_or}
use Rattle.std.specs.List.{filter, fold, list_any, count_by, AllByRecursion}
use Rattle.std.specs.Ordering.{nat_cmp}
use Rattle.std.specs.Map.{keys_of}
use Rattle.std.specs.FinMap as finite
use Rattle.std.specs.FinMap.{entries_sorted, get-entries}
use Rattle.std.specs.FinMap.Entries.{find}
use Rattle.mesh_base.specs.declared.ids.Corners.{Corners}
use Rattle.mesh_base.specs.Mesh.{Mesh, HasCorners, equal_up_to_rotation}
use Rattle.mesh_base.specs.Sides.{follows, runs, ids_where}
use Rattle.mesh_base.specs.Pairs.{edges, id_pairs, is_edge}
use Rattle.mesh_base.proofs.Listed.{each_found}
use Rattle.mesh_base.proofs.ListedPairs.{all_flat_mapped, all_mapped, all_filtered, all_weaker, all_always}
use Rattle.edit_base.specs.Edges.{corners_at}
use Rattle.track_run.specs.Surface.{crowded_edges, each_corners, backward, has_opposite, runs_up_twice, is_there_at, stands}

neither : (a b : Bool) → (a || b) ≡ false → (a ≡ false) × (b ≡ false)
neither true b h = cc
neither false b h = (refl, h)

-- ---- the corners of all faces
corners_there : (m : Mesh) (f : ℕ) (c : Corners) → HasCorners m f c → corners_at m f ≡ c
corners_there m f c h = ap (λ o. unwrap_or o (record { first = 0; second = 0; third = 0 })) h

pub each_there : (m : Mesh) → AllByRecursion (λ (e : ℕ × Corners). HasCorners m e.0 e.1) (finite.entries m.faces)
each_there m = all_weaker (λ e. find nat_cmp e.0 (finite.entries m.faces) ≡ Some e.1) (λ e. HasCorners m e.0 e.1) (finite.entries m.faces)
    (λ e h. get-entries m.faces e.0 ∙ h) (each_found (finite.entries m.faces) (entries_sorted m.faces))

all_corners : (m : Mesh) (es : List (ℕ × Corners)) → AllByRecursion (λ (e : ℕ × Corners). HasCorners m e.0 e.1) es → map (λ f. corners_at m f) (keys_of es) ≡ map (λ e. e.1) es
all_corners m [] h = refl
all_corners m (e ∷ es) h = λ i. corners_there m e.0 e.1 h.0 i ∷ all_corners m es h.1 i

pub corners_of_all : (m : Mesh) → map (λ f. corners_at m f) (finite.keys m.faces) ≡ each_corners m
corners_of_all m = all_corners m (finite.entries m.faces) (each_there m)

-- ---- where no side is run up twice, no edge is crowded
pub none_of : (test : Corners → Bool) (es : List (ℕ × Corners)) → list_any test (map (λ e. e.1) es) ≡ false → AllByRecursion (λ (e : ℕ × Corners). test e.1 ≡ false) es
none_of test [] h = tt
none_of test (e ∷ es) h = let two = neither (test e.1) (list_any test (map (λ x. x.1) es)) h in (two.0, none_of test es two.1)

none_from : {X : Type 0} (test : X → Bool) (n : ℕ) (xs : List X) → AllByRecursion (λ x. test x ≡ false) xs → fold (λ k x. k + cond {A = ℕ} (test x) 1 0) n xs ≡ n
none_from test n [] h = refl
none_from test n (x ∷ xs) h =
    let none : cond {A = ℕ} (test x) 1 0 ≡ 0 = ap (λ b. cond {A = ℕ} b 1 0) h.0 in
    let here : n + cond {A = ℕ} (test x) 1 0 ≡ n = omega (arith, none) in
    none_from test (n + cond {A = ℕ} (test x) 1 0) xs h.1 ∙ here

pub none_counted : {X : Type 0} (test : X → Bool) (xs : List X) → AllByRecursion (λ x. test x ≡ false) xs → count_by test xs ≡ 0
none_counted test xs h = none_from test 0 xs h

rising : (ids : List ℕ) → AllByRecursion (λ (e : ℕ × ℕ). nat_lt e.0 e.1 ≡ true) (id_pairs ids)
rising ids =
    let P : ℕ × ℕ → Type 0 = λ e. nat_lt e.0 e.1 ≡ true in
    all_flat_mapped P (λ u. map (λ v. (u, v)) (filter (λ v. nat_lt u v) ids)) ids
    (all_always (λ u. AllByRecursion P (map (λ v. (u, v)) (filter (λ v. nat_lt u v) ids))) ids
    (λ u. all_mapped P (λ (v : ℕ). (u, v)) (filter (λ v. nat_lt u v) ids)
    (all_filtered (λ v. nat_lt u v ≡ true) (λ v. nat_lt u v) ids (all_always (λ v. nat_lt u v ≡ true → nat_lt u v ≡ true) ids (λ v h. h)))))

second_false : (a b : Bool) → a ≡ true → (a && b) ≡ false → b ≡ false
second_false true b h both = both
second_false false b h both = cc

pub none_crowded : (m : Mesh) → ((u v : ℕ) → runs_up_twice m u v ≡ false) → crowded_edges m ≡ 0
none_crowded m none =
    let P : ℕ × ℕ → Type 0 = λ e. nat_lt 1 (runs m e.0 e.1) ≡ false in
    let ids = finite.keys m.points in
    none_counted (λ (e : ℕ × ℕ). nat_lt 1 (runs m e.0 e.1)) (edges m)
    (all_filtered P (λ e. is_edge m e.0 e.1) (id_pairs ids)
    (all_weaker (λ (e : ℕ × ℕ). nat_lt e.0 e.1 ≡ true) (λ e. is_edge m e.0 e.1 ≡ true → P e) (id_pairs ids)
    (λ e up there. second_false (nat_lt e.0 e.1) (nat_lt 1 (runs m e.0 e.1)) up (none e.0 e.1)) (rising ids)))

-- ---- a face that has the corners runs from the first to the second
weaker : (x y z p q r : Bool) → (x || y || z) ≡ false → ((x && p) || (y && q) || (z && r)) ≡ false
weaker true y z p q r h = cc
weaker false true z p q r h = cc
weaker false false true p q r h = cc
weaker false false false p q r h = refl

module _ (m : Mesh) (c : Corners) where
  off : (d : Corners) → follows d c.first c.second ≡ false → equal_up_to_rotation d c ≡ false
  off d is = weaker (d.first == c.first && d.second == c.second) (d.second == c.first && d.third == c.second) (d.third == c.first && d.first == c.second) (d.third == c.third) (d.first == c.third) (d.second == c.third) is

  among : (es : List (ℕ × Corners)) → AllByRecursion (λ (e : ℕ × Corners). HasCorners m e.0 e.1) es →
      list_any (λ f. is_there_at m c f) (ids_where (λ d. follows d c.first c.second) es) ≡ list_any (λ d. equal_up_to_rotation d c) (map (λ e. e.1) es)
  among [] h = refl
  among (e ∷ es) h = by_test (among es h.1) (follows e.1 c.first c.second) refl
    where
      by_test : list_any (λ f. is_there_at m c f) (ids_where (λ d. follows d c.first c.second) es) ≡ list_any (λ d. equal_up_to_rotation d c) (map (λ x. x.1) es) →
          (b : Bool) → follows e.1 c.first c.second ≡ b →
          list_any (λ f. is_there_at m c f) (map (λ x. x.0) (cond b (e ∷ filter (λ x. follows x.1 c.first c.second) es) (filter (λ x. follows x.1 c.first c.second) es)))
          ≡ (equal_up_to_rotation e.1 c || list_any (λ d. equal_up_to_rotation d c) (map (λ x. x.1) es))
      by_test rest true is = λ i. equal_up_to_rotation (corners_there m e.0 e.1 h.0 i) c || rest i
      by_test rest false is = rest ∙ sym (ap (λ t. t || list_any (λ d. equal_up_to_rotation d c) (map (λ x. x.1) es)) (off e.1 is))

pub opposite_stands : (m : Mesh) (c : Corners) → stands m (backward c) ≡ has_opposite m c
opposite_stands m c = among m (backward c) (finite.entries m.faces) (each_there m)

-- ---- one after another
module _ {X : Type 0} (test : X → Bool) where
  pub any_at : (xs : List X) (i : ℕ) → option_map_or test (slice_get xs i) false ≡ true → list_any test (drop i xs) ≡ true
  any_at [] zero h = h
  any_at [] (suc i) h = h
  any_at (x ∷ xs) zero h = ap (λ b. b || list_any test xs) h
  any_at (x ∷ xs) (suc i) h = any_at xs i h

  past : (xs : List X) (i : ℕ) → option_map_or test (slice_get xs i) false ≡ false → list_any test (drop (suc i) xs) ≡ list_any test (drop i xs)
  past [] zero h = refl
  past [] (suc i) h = refl
  past (x ∷ xs) zero h = sym (ap (λ b. b || list_any test xs) h)
  past (x ∷ xs) (suc i) h = past xs i h

  pub any_past : (xs : List X) (i : ℕ) → option_map_or test (slice_get xs i) false ≡ false → list_any test (drop (i + 1) xs) ≡ list_any test (drop i xs)
  any_past xs i h = rw add-one (past xs i h)
