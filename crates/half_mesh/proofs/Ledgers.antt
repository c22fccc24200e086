-- What the tables of a mesh stand for, after one change: what is buried stays.
use Rattle.std.proofs.Common.{◌≡◌, ◌≢◌, ⊎_elim, ℕ, true, false, cond, List, [], ◌∷◌, ◌++◌, Option, Some, None, IsSome, is_some, refl, sym, ap, subst, ◌∙◌}
use Rattle.std.specs.Option.{option_map}
use Rattle.std.specs.Ordering.{nat_cmp}
use Rattle.std.specs.FinMap as finite
use Rattle.std.specs.FinMap.{FinMap, get-empty}
use Rattle.grid_base.specs.declared.Point.{Point}
use Rattle.mesh_base.specs.declared.ids.Corners.{Corners}
use Rattle.mesh_base.specs.Mesh.{Mesh, IdSet}
use Rattle.mesh_base.specs.Sides.{has_corner}
use Rattle.mesh_base.proofs.Finite.{got_after_remove}
use Rattle.half_mesh.specs.Fans.{Spoke, Side, Sides, Woven, side_at, spokes_at, IsOutside}
use Rattle.half_mesh.specs.States.{Buried, State}
use Rattle.half_mesh.specs.Tied.{Keys, FaceMap, AreRings, AreTied, IsRing, corners_at, faces_in, falling_spokes, spoke_in, next_corner}
use Rattle.half_mesh.proofs.Mapped.{map_values-alike, got_after, get-map_values}
use Rattle.half_mesh.proofs.Falling.{AllEntries, all_entries}
use Rattle.half_mesh.proofs.FaceChanges.{corners-stay, own_ring}

pub state_same : (m n : Mesh) (b d : Buried) → m ≡ n → b ≡ d → ◌≡◌ {A = State} (record { mesh = m; buried = b }) (record { mesh = n; buried = d })
state_same m n b d p q = λ i. record { mesh = p i; buried = q i }

pub buried_same : (p q : FinMap nat_cmp Point) (f g : FaceMap) (s t : IdSet) → p ≡ q → f ≡ g → s ≡ t → ◌≡◌ {A = Buried} (record { points = p; faces = f; solid = s }) (record { points = q; faces = g; solid = t })
buried_same p q f g s t x y z = λ i. record { points = x i; faces = y i; solid = z i }

-- the sides of the faces that have keys stay
abbrev pub SidesStay : Sides → Sides → Keys → Type 0
SidesStay s t keys = (k : ℕ) (side : Side) → side_at s k ≡ Some side → IsSome (finite.get keys side.face) → side_at t k ≡ Some side

of_face : (s t : Sides) (keys : Keys) (f key : ℕ) → SidesStay s t keys → finite.get keys f ≡ Some key → (k : ℕ) (side : Side) → side_at s k ≡ Some side → side.face ≡ f → side_at t k ≡ Some side
of_face s t keys f key stay there k side at of_f = stay k side at (ap (λ g. is_some (finite.get keys g)) of_f ∙ ap is_some there)

pub rings-stay : (s t : Sides) (keys : Keys) → SidesStay s t keys → AreRings s keys → AreRings t keys
rings-stay s t keys stay r f key there = own_ring s t f key (of_face s t keys f key stay there) (r f key there)

pub faces-stay : (s t : Sides) (keys : Keys) → SidesStay s t keys → AreRings s keys → faces_in t keys ≡ faces_in s keys
faces-stay s t keys stay r = map_values-alike (corners_at s) (corners_at t) keys (λ f key there. corners-stay s t f key (of_face s t keys f key stay there) (r f key there))

pub no-rings : (s : Sides) (keys : Keys) → keys ≡ finite.empty → AreRings s keys
no-rings s keys none f key there = let e : finite.get (finite.empty {X = ℕ} {R = nat_cmp}) f ≡ None = get-empty nat_cmp f in let n = ap (λ m. finite.get m f) none in cc

pub rings-more : (s : Sides) (keys : Keys) (f key : ℕ) → AreRings s keys → IsRing s f (corners_at s key) key → AreRings s (finite.insert keys f key)
rings-more s keys f key r ring g k there =
    ⊎_elim
    (λ e. subst (λ j. IsRing s g (corners_at s j) j) e.1 (subst (λ h. IsRing s h (corners_at s key) key) (sym e.0) ring))
    (λ old. r g k old.1)
    (got_after keys f key g k there)

pub rings-less : (s : Sides) (keys : Keys) (f : ℕ) → AreRings s keys → AreRings s (finite.remove keys f)
rings-less s keys f r g k there = r g k (got_after_remove keys f g k there).1

-- the same live faces, where their sides stay
pub tied-stays : (w x : Woven) (keys : Keys) → SidesStay w.sides x.sides keys → x.fans ≡ w.fans → AreTied w keys → AreTied x keys
tied-stays w x keys stay fans t = record {
  rings = rings-stay w.sides x.sides keys stay t.rings;
  spokes = λ v. ap (λ m. spokes_at m v) fans ∙ t.spokes v ∙ ap (λ m. falling_spokes v (finite.entries m)) (sym (faces-stay w.sides x.sides keys stay t.rings));
}

-- a face that is not live has no spoke
outside-append : (f : ℕ) (xs ys : List Spoke) → IsOutside f xs → IsOutside f ys → IsOutside f (xs ++ ys)
outside-append f [] ys a b = b
outside-append f (x ∷ xs) ys a b = (a.0, outside-append f xs ys a.1 b)

outside_in : (v f : ℕ) (es : List (ℕ × Corners)) → AllEntries (λ q x. q ≢ f) es → IsOutside f (falling_spokes v es)
outside_in v f [] apart = tt
outside_in v f (e ∷ es) apart =
    outside-append f (falling_spokes v es) (spoke_in v e) (outside_in v f es apart.1) (elim (has_corner e.1 v) as (λ h. IsOutside f (cond h (record { face = e.0; to = next_corner e.1 v } ∷ []) [])) [ true ↦ (apart.0, tt) | false ↦ tt ])

differs : (m : FaceMap) (f q : ℕ) (x : Corners) → finite.get m f ≡ None → finite.get m q ≡ Some x → q ≢ f
differs m f q x none at same = let here = ap (finite.get m) same in cc

pub outside-dead : (w : Woven) (keys : Keys) (f v : ℕ) → AreTied w keys → finite.get (faces_in w.sides keys) f ≡ None → IsOutside f (spokes_at w.fans v)
outside-dead w keys f v t none = subst (IsOutside f) (sym (t.spokes v)) (outside_in v f (finite.entries (faces_in w.sides keys)) (all_entries (λ q x. q ≢ f) (faces_in w.sides keys) (λ q x at. differs (faces_in w.sides keys) f q x none at)))

some_each : (g : ℕ → Corners) (o : Option ℕ) → is_some (option_map g o) ≡ is_some o
some_each g None = refl
some_each g (Some k) = refl

-- a face with a key is there
pub face_there : (sides : Sides) (keys : Keys) (f : ℕ) → IsSome (finite.get keys f) → IsSome (finite.get (faces_in sides keys) f)
face_there sides keys f h = ap is_some (get-map_values (corners_at sides) keys f) ∙ some_each (corners_at sides) (finite.get keys f) ∙ h

pub key_there : (sides : Sides) (keys : Keys) (f : ℕ) → IsSome (finite.get (faces_in sides keys) f) → IsSome (finite.get keys f)
key_there sides keys f h = sym (ap is_some (get-map_values (corners_at sides) keys f) ∙ some_each (corners_at sides) (finite.get keys f)) ∙ h

pub none_if : {X : Type 0} (o : Option X) → (is_some o ≡ true → ⊥) → o ≡ None
none_if None h = refl
none_if (Some x) h = absurd (h refl)

-- what one map has, the other has not
pub apart-key : (live buried : Keys) (sides : Sides) (f : ℕ) → (IsSome (finite.get (faces_in sides buried) f) → finite.get (faces_in sides live) f ≡ None) → IsSome (finite.get live f) → IsSome (finite.get buried f) → ⊥
apart-key live buried sides f apart here there =
    let a = face_there sides live f here in
    let b = apart (face_there sides buried f there) in
    cc
