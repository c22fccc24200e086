-- How fans and faces stay tied as a face is made or dropped.
use Rattle.std.proofs.Common.{◌≡◌, ◌≢◌, ⊎_elim, ℕ, ◌<◌, ◌≤◌, ◌^◌, true, false, cond, ◌++◌, Some, None, is_some, length, refl, sym, ap, subst, ◌∙◌, arith}
use Rattle.std.proofs.lemmas.Bool.{cases_eq}
use Rattle.std.specs.Ordering.{nat_cmp, eq_by_cmp}
use Rattle.std.specs.Cmp.{nat_cmp_total}
use Rattle.std.specs.FinMap as finite
use Rattle.std.specs.FinMap.{FinMap, get-insert, same_map, nat_cmp-IsAntisymmetric, len-entries}
use Rattle.grid_base.specs.declared.TheConstants.{FACES_MAX}
use Rattle.mesh_base.specs.declared.ids.Corners.{Corners}
use Rattle.mesh_base.specs.Mesh.{Mesh, IsLiveFace, AreDifferent, AreLive}
use Rattle.mesh_base.proofs.Finite.{got_after_remove}
use Rattle.half_mesh.specs.Fans.{Side, Sides, Woven, side_at, spokes_at, without, IsNewest}
use Rattle.half_mesh.specs.FanChanges.{KeepsSidesOutside}
use Rattle.half_mesh.specs.Vertices.{vertices_in}
use Rattle.half_mesh.specs.Tied.{Keys, IsRing, HasRing, HasLost, HaveFans, AreTied, to_at, corners_at, faces_in, woven_mesh, falling_spokes, spoke_in}
use Rattle.half_mesh.proofs.Mapped.{map_values-insert, map_values-remove, map_values-alike, got_after}
use Rattle.half_mesh.proofs.Falling.{entries-insert_last, falling_spokes-last, falling_spokes-remove, falling_spokes-without, falling_spokes-newest, falling_spokes-few}
use Rattle.half_mesh.proofs.TiedLaws.{live_fan}
use Rattle.half_mesh.proofs.Rings.{HasSpokes, no_corner}
use Rattle.mesh_base.specs.declared.limits.Limits.{Limits}

-- the corners that a ring has
pub corners-ring : (sides : Sides) (f : ℕ) (c : Corners) (key : ℕ) → IsRing sides f c key → corners_at sides key ≡ c
corners-ring sides f c key r =
    let first = ap (λ o. elim o [ None ↦ 0 | Some side ↦ side.origin ]) r.at_first in
    let second = ap (λ o. elim o [ None ↦ 0 | Some side ↦ side.to ]) r.at_first in
    let next = ap (λ o. elim o [ None ↦ 0 | Some side ↦ side.next ]) r.at_first in
    let third = ap (to_at sides) next ∙ ap (λ o. elim o [ None ↦ 0 | Some side ↦ side.to ]) r.at_second in
    λ i. record { first = first i; second = second i; third = third i }

-- the sides of a face stay
pub ring-stays : (s t : Sides) (f : ℕ) (c : Corners) (key : ℕ) → ((k : ℕ) (side : Side) → side_at s k ≡ Some side → side.face ≡ f → side_at t k ≡ Some side) → IsRing s f c key → IsRing t f c key
ring-stays s t f c key stays r = record {
  second = r.second;
  third = r.third;
  at_first = stays key _ r.at_first refl;
  at_second = stays r.second _ r.at_second refl;
  at_third = stays r.third _ r.at_third refl;
}

pub corners-stay : (s t : Sides) (f key : ℕ) → ((k : ℕ) (side : Side) → side_at s k ≡ Some side → side.face ≡ f → side_at t k ≡ Some side) → IsRing s f (corners_at s key) key → corners_at t key ≡ corners_at s key
corners-stay s t f key stays r = corners-ring t f (corners_at s key) key (ring-stays s t f (corners_at s key) key stays r)

pub own_ring : (s t : Sides) (f key : ℕ) → ((k : ℕ) (side : Side) → side_at s k ≡ Some side → side.face ≡ f → side_at t k ≡ Some side) → IsRing s f (corners_at s key) key → IsRing t f (corners_at t key) key
own_ring s t f key stays r = subst (λ c. IsRing t f c key) (sym (corners-stay s t f key stays r)) (ring-stays s t f (corners_at s key) key stays r)

-- room says nothing of a mesh
pub tied-room : (w x : Woven) (keys : Keys) → x ≡ record w { room = x.room } → AreTied w keys → AreTied x keys
tied-room w x keys same t = subst (λ y. AreTied y keys) (sym same) (record {
  rings = λ f key there. let r = t.rings f key there in record { second = r.second; third = r.third; at_first = r.at_first; at_second = r.at_second; at_third = r.at_third };
  spokes = t.spokes;
})

pub mesh-room : (w x : Woven) (keys : Keys) (l : Limits) (nv nf : ℕ) (m : Mesh) → x ≡ record w { room = x.room } → woven_mesh w keys l nv nf ≡ m → woven_mesh x keys l nv nf ≡ m
mesh-room w x keys l nv nf m same view = ap (λ y. woven_mesh y keys l nv nf) same ∙ view

-- a face more
pub faces-with_face : (w x : Woven) (keys : Keys) (f : ℕ) (c : Corners) (key : ℕ) → AreTied w keys → HasRing w x f c key → faces_in x.sides (finite.insert keys f key) ≡ finite.insert (faces_in w.sides keys) f c
faces-with_face w x keys f c key t r =
    map_values-insert (corners_at w.sides) (corners_at x.sides) keys f key c (corners-ring x.sides f c key r.ring)
    (λ q k apart there. corners-stay w.sides x.sides q k (λ l side at of_q. r.sides l side at) (t.rings q k there))

pub tied-with_face : (w x : Woven) (keys : Keys) (f : ℕ) (c : Corners) (key : ℕ) → AreTied w keys → HasRing w x f c key
    → ((q : ℕ) (y : Corners) → finite.get (faces_in w.sides keys) q ≡ Some y → q < f) → AreTied x (finite.insert keys f key)
tied-with_face w x keys f c key t r below = record {
  rings = λ g k there. ⊎_elim
      (λ e.
      let made : IsRing x.sides f (corners_at x.sides key) key = subst (λ d. IsRing x.sides f d key) (sym (corners-ring x.sides f c key r.ring)) r.ring in
      subst (λ j. IsRing x.sides g (corners_at x.sides j) j) e.1 (subst (λ h. IsRing x.sides h (corners_at x.sides key) key) (sym e.0) made))
      (λ old. own_ring w.sides x.sides g k (λ l side at of_g. r.sides l side at) (t.rings g k old.1))
      (got_after keys f key g k there);
  spokes = λ v.
      r.spokes v
      ∙ ap (λ ss. spoke_in v (f, c) ++ ss) (t.spokes v)
      ∙ sym (falling_spokes-last v (finite.entries (faces_in w.sides keys)) (f, c))
      ∙ sym (ap (falling_spokes v) (ap finite.entries (faces-with_face w x keys f c key t r) ∙ entries-insert_last (faces_in w.sides keys) f c below));
}

pub lost-made : (w0 w1 w2 w3 : Woven) (f : ℕ) (c : Corners) → AreDifferent c
    → HasSpokes w0.fans w1.fans c.first (without f (spokes_at w0.fans c.first))
    → HasSpokes w1.fans w2.fans c.second (without f (spokes_at w1.fans c.second))
    → HasSpokes w2.fans w3.fans c.third (without f (spokes_at w2.fans c.third))
    → ((k : ℕ) (side : Side) → side_at w0.sides k ≡ Some side → side.face ≢ f → side_at w1.sides k ≡ Some side)
    → ((k : ℕ) (side : Side) → side_at w1.sides k ≡ Some side → side.face ≢ f → side_at w2.sides k ≡ Some side)
    → ((k : ℕ) (side : Side) → side_at w2.sides k ≡ Some side → side.face ≢ f → side_at w3.sides k ≡ Some side)
    → HasLost w0 w3 f c
lost-made w0 w1 w2 w3 f c d a b e s1 s2 s3 = record {
  sides = λ k side there other. s3 k side (s2 k side (s1 k side there other) other) other;
  first = e.others c.first (λ same. d.third_first (sym same)) ∙ b.others c.first d.first_second ∙ a.here;
  second = e.others c.second d.second_third ∙ b.here ∙ ap (without f) (a.others c.second (λ same. d.first_second (sym same)));
  third = e.here ∙ ap (without f) (b.others c.third (λ same. d.second_third (sym same)) ∙ a.others c.third d.third_first);
  others = λ v p q r. e.others v r ∙ b.others v q ∙ a.others v p;
  vertices = e.vertices ∙ b.vertices ∙ a.vertices;
}

pub faces-without_face : (w x : Woven) (keys : Keys) (f : ℕ) (c : Corners) → AreTied w keys → HasLost w x f c → faces_in x.sides (finite.remove keys f) ≡ finite.remove (faces_in w.sides keys) f
faces-without_face w x keys f c t lost =
    map_values-alike (corners_at w.sides) (corners_at x.sides) (finite.remove keys f) (λ q k there.
    let old = got_after_remove keys f q k there in
    corners-stay w.sides x.sides q k (λ l side at of_q. lost.sides l side at (λ of_f. old.0 (sym of_q ∙ of_f))) (t.rings q k old.1))
    ∙ map_values-remove (corners_at w.sides) keys f

pub tied-without_face : (w x : Woven) (keys : Keys) (f : ℕ) (c : Corners) → AreTied w keys → HasLost w x f c → finite.get (faces_in w.sides keys) f ≡ Some c → AreTied x (finite.remove keys f)
tied-without_face w x keys f c t lost there = record {
  rings = λ g k at.
      let old = got_after_remove keys f g k at in
      own_ring w.sides x.sides g k (λ l side here of_g. lost.sides l side here (λ of_f. old.0 (sym of_g ∙ of_f))) (t.rings g k old.1);
  spokes = λ v.
      all v
      ∙ ap (without f) (t.spokes v)
      ∙ sym (ap (λ m. falling_spokes v (finite.entries m)) (faces-without_face w x keys f c t lost) ∙ falling_spokes-remove v f (faces_in w.sides keys));
}
  where
    all : (v : ℕ) → spokes_at x.fans v ≡ without f (spokes_at w.fans v)
    all v = ⊎_elim
        (λ is. ap (spokes_at x.fans) is ∙ lost.first ∙ ap (λ q. without f (spokes_at w.fans q)) (sym is))
        (λ p. ⊎_elim
        (λ is. ap (spokes_at x.fans) is ∙ lost.second ∙ ap (λ q. without f (spokes_at w.fans q)) (sym is))
        (λ q. ⊎_elim
        (λ is. ap (spokes_at x.fans) is ∙ lost.third ∙ ap (λ q. without f (spokes_at w.fans q)) (sym is))
        (λ r. lost.others v p q r ∙ t.spokes v ∙ sym (falling_spokes-without v f c (faces_in w.sides keys) there (no_corner v c p q r)) ∙ ap (without f) (sym (t.spokes v)))
        (cases_eq v c.third))
        (cases_eq v c.second))
        (cases_eq v c.first)

-- what is asked where a ring is made
pub faces_below : (w : Woven) (keys : Keys) (l : Limits) (nv nf : ℕ) (m : Mesh) → woven_mesh w keys l nv nf ≡ m → ((f : ℕ) → IsLiveFace m f → f < m.next_face) → (q : ℕ) (y : Corners) → finite.get (faces_in w.sides keys) q ≡ Some y → q < nf
faces_below w keys l nv nf m view below q y there =
    let at : finite.get m.faces q ≡ Some y = sym (ap (λ x. finite.get x.faces q) view) ∙ there in
    let next = ap (λ x. x.next_face) view in
    let ids = below q (ap is_some at) in
    omega arith

pub have_fans : (w : Woven) (keys : Keys) (l : Limits) (nv nf : ℕ) (m : Mesh) (c : Corners) → woven_mesh w keys l nv nf ≡ m → AreLive m c → HaveFans w.fans c
have_fans w keys l nv nf m c view live = (
  ap is_some (live_fan w keys l nv nf m c.first view live.0).1,
  ap is_some (live_fan w keys l nv nf m c.second view live.1).1,
  ap is_some (live_fan w keys l nv nf m c.third view live.2).1,
)

pub newest-tied : (w : Woven) (keys : Keys) (l : Limits) (nv nf : ℕ) (m : Mesh) → woven_mesh w keys l nv nf ≡ m → ((f : ℕ) → IsLiveFace m f → f < m.next_face) → AreTied w keys → (v : ℕ) → IsNewest nf (spokes_at w.fans v)
newest-tied w keys l nv nf m view below t v = subst (IsNewest nf) (sym (t.spokes v)) (falling_spokes-newest v nf (faces_in w.sides keys) (faces_below w keys l nv nf m view below))

pub few-tied : (w : Woven) (keys : Keys) (l : Limits) (nv nf : ℕ) (m : Mesh) → woven_mesh w keys l nv nf ≡ m → finite.len m.faces ≤ FACES_MAX → AreTied w keys → (v : ℕ) → length (spokes_at w.fans v) < 2 ^ 31
few-tied w keys l nv nf m view limit t v =
    let few = falling_spokes-few v (finite.entries (faces_in w.sides keys)) in
    let long = ap length (t.spokes v) in
    let all = len-entries (faces_in w.sides keys) in
    let faces = ap (λ x. finite.len x.faces) view in
    omega arith

-- two values put at one key, one after the other
pub insert_twice : {X : Type 0} (m : FinMap nat_cmp X) (k : ℕ) (x y : X) → finite.insert (finite.insert m k x) k y ≡ finite.insert m k y
insert_twice m k x y = same_map nat_cmp_total nat_cmp-IsAntisymmetric _ _ (λ q.
    get-insert nat_cmp_total (finite.insert m k x) k y q
    ∙ ap (cond (eq_by_cmp nat_cmp q k) (Some y)) (get-insert nat_cmp_total m k x q)
    ∙ elim (eq_by_cmp nat_cmp q k) as (λ b. cond b (Some y) (cond b (Some x) (finite.get m q)) ≡ cond b (Some y) (finite.get m q)) [ true ↦ refl | false ↦ refl ]
    ∙ sym (get-insert nat_cmp_total m k y q))

-- what has lost a face has lost it too once no half-edge of the face is left at its key
pub lost-freed : (w x y : Woven) (f : ℕ) (c : Corners) → HasLost w x f c → y.fans ≡ x.fans → KeepsSidesOutside f x.sides y.sides → HasLost w y f c
lost-freed w x y f c lost fans sides = record {
  sides = λ k side there other. sides k side (lost.sides k side there other) other;
  first = ap (λ m. spokes_at m c.first) fans ∙ lost.first;
  second = ap (λ m. spokes_at m c.second) fans ∙ lost.second;
  third = ap (λ m. spokes_at m c.third) fans ∙ lost.third;
  others = λ v p q r. ap (λ m. spokes_at m v) fans ∙ lost.others v p q r;
  vertices = ap vertices_in fans ∙ lost.vertices;
}
