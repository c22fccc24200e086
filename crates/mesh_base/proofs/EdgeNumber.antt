-- A mesh has at most six edges a face: each edge is a side of a face, one way or the other.
use Rattle.std.proofs.Common.{◌≡◌, ℕ, ◌*◌, ◌≤◌, ◌==◌, ◌&&◌, ◌||◌, Bool, true, false, List, [], ◌∷◌, Option, Some, None, length, refl, ◌∙◌, ⊎_elim, length-append, arith}
use Rattle.std.specs.List.{list_any, flat_map}
use Rattle.std.specs.Ordering.{eq_by_cmp}
use Rattle.std.specs.FinMap as finite
use Rattle.std.specs.FinMap.{len-entries}
use Rattle.std.proofs.lemmas.List.{length-map}
use Rattle.std.proofs.lemmas.List.Folds.{list_any-append}
use Rattle.std.proofs.lemmas.Map.Made.{length-le_from_is_member}
use Rattle.std.proofs.lemmas.Map.Keys.{IsDistinct-from_sorted}
use Rattle.std.proofs.lemmas.Bool.{false≢true}
use Rattle.std.proofs.lemmas.Bool.Decides.{nat_tests}
use Rattle.mesh_base.specs.declared.ids.Corners.{Corners}
use Rattle.mesh_base.specs.Mesh.{Mesh, IsSound}
use Rattle.mesh_base.specs.Pairs.{edges}
use Rattle.mesh_base.specs.SideList.{edge_cmp, has_side, neighbours_in}
use Rattle.mesh_base.proofs.Tests.{or_first, or_second, or_either}
use Rattle.mesh_base.proofs.InOrder.{edges_sorted}
use Rattle.mesh_base.proofs.ListedPairs.{edge_listed}
use Rattle.mesh_base.proofs.EdgesInOrder.{tied_edges, edge_equiv, edge_seen, contained}

-- the sides of a face, each both ways
abbrev sides_both : Option Corners → List (ℕ × ℕ)
sides_both None = []
sides_both (Some c) = (c.first, c.second) ∷ (c.second, c.first) ∷ (c.second, c.third) ∷ (c.third, c.second) ∷ (c.third, c.first) ∷ (c.first, c.third) ∷ []

six : (o : Option Corners) → length (sides_both o) ≤ 6
six None = omega arith
six (Some c) = omega arith

side_of : (x y z a b : ℕ) → (((x == a && y == b) || (y == a && z == b) || (z == a && x == b)) || ((x == b && y == a) || (y == b && z == a) || (z == b && x == a))) ≡ true
    → ((a == x && b == y) || ((a == y && b == x) || ((a == y && b == z) || ((a == z && b == y) || ((a == z && b == x) || ((a == x && b == z) || false)))))) ≡ true
side_of x y z a b h = grind (arith, nat_tests)

tests_are : (x y z a b : ℕ) → has_side ((x, y) ∷ (y, x) ∷ (y, z) ∷ (z, y) ∷ (z, x) ∷ (x, z) ∷ []) a b ≡ ((a == x && b == y) || ((a == y && b == x) || ((a == y && b == z) || ((a == z && b == y) || ((a == z && b == x) || ((a == x && b == z) || false))))))
tests_are x y z a b = rw (tied_edges a b x y, tied_edges a b y x, tied_edges a b y z, tied_edges a b z y, tied_edges a b z x, tied_edges a b x z) refl

-- neighbours in a face are the ends of a side of it
in_face : (o : Option Corners) (a b : ℕ) → neighbours_in o a b ≡ true → has_side (sides_both o) a b ≡ true
in_face None a b h = absurd (false≢true h)
in_face (Some c) a b h = tests_are c.first c.second c.third a b ∙ side_of c.first c.second c.third a b h

found_in : {X Y : Type 0} (g : X → List Y) (p : Y → Bool) (q : X → Bool) → ((x : X) → q x ≡ true → list_any p (g x) ≡ true) → (xs : List X) → list_any q xs ≡ true → list_any p (flat_map g xs) ≡ true
found_in g p q each [] h = absurd (false≢true h)
found_in g p q each (x ∷ xs) h =
    list_any-append p (g x) (flat_map g xs)
    ∙ ⊎_elim (λ here. or_first (list_any p (g x)) (list_any p (flat_map g xs)) (each x here)) (λ there. or_second (list_any p (g x)) (list_any p (flat_map g xs)) (found_in g p q each xs there)) (or_either (q x) (list_any q xs) h)

made_few : {X Y : Type 0} (g : X → List Y) (n : ℕ) → ((x : X) → length (g x) ≤ n) → (xs : List X) → length (flat_map g xs) ≤ n * length xs
made_few g n few [] = omega arith
made_few g n few (x ∷ xs) =
    let here = few x in
    let rest = made_few g n few xs in
    let both = length-append (g x) (flat_map g xs) in
    grind (arith, here, rest, both)

pub edges_by_faces : (m : Mesh) → IsSound m → length (edges m) ≤ 6 * finite.len m.faces
edges_by_faces m sound =
    let all = flat_map (λ f. sides_both (finite.get m.faces f)) (finite.keys m.faces) in
    let most = made_few (λ f. sides_both (finite.get m.faces f)) 6 (λ f. six (finite.get m.faces f)) (finite.keys m.faces) in
    let fewer : length (edges m) ≤ length all = length-le_from_is_member edge_equiv (edges m) all (IsDistinct-from_sorted edge_cmp (edges m) (edges_sorted m)) (λ q h. here q.0 q.1 h) in
    omega (arith, fewer, most, length-map (finite.entries m.faces) (λ e. e.0), len-entries m.faces)
  where
    here : (a b : ℕ) → has_side (edges m) a b ≡ true → has_side (flat_map (λ f. sides_both (finite.get m.faces f)) (finite.keys m.faces)) a b ≡ true
    here a b h =
        let edge = (edge_listed m sound a b).0 (contained (edges m) a b h) in
        found_in (λ f. sides_both (finite.get m.faces f)) (eq_by_cmp edge_cmp (a, b)) (λ f. neighbours_in (finite.get m.faces f) a b) (λ f. in_face (finite.get m.faces f) a b) (finite.keys m.faces) (edge_seen m a b edge.1)
