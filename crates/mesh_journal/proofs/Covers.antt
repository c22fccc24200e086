-- The boxes of a journal's meshes after a change.
use Rattle.std.proofs.Common.{suc, zero, ◌≡◌, ◌≢◌, ◌⊎◌, inl, inr, ⊎_elim, ℕ, ◌+◌, ◌≤◌, ◌<◌, ◌==◌, ◌||◌, true, false, cond, List, [], ◌∷◌, ◌++◌, length, take, slice_get, All, Option, Some, is_some, refl, sym, ap, subst, ◌∙◌, arith}
use Rattle.std.specs.FinMap as map
use Rattle.std.specs.Ordering.{nat_cmp, eq_by_cmp}
use Rattle.std.specs.Cmp.{nat_cmp_total}
use Rattle.std.specs.FinMap.{get-insert}
use Rattle.std.specs.List.{filter}
use Rattle.std.proofs.lemmas.Bool.Decides.{nat_tests}
use Rattle.std.proofs.lemmas.List.{length-append}
use Rattle.std.proofs.lemmas.List.Elements.{All-head, All-tail, recursion_from_All}
use Rattle.std.proofs.lemmas.Option.{slice_get_within}
use Rattle.grid_base.specs.declared.Extent.{Extent}
use Rattle.grid_base.specs.declared.Point.{Point}
use Rattle.grid_base.specs.Triples.{Triple, times}
use Rattle.grid_base.specs.Points.{position_of}
use Rattle.grid_base.specs.Extents.{IsIn}
use Rattle.mesh_base.specs.declared.ids.Corners.{Corners}
use Rattle.mesh_base.specs.Mesh.{Mesh, IsSound, HasCorners, IsLiveVertex}
use Rattle.mesh_base.specs.Placements.{position_or_origin, rest_positions_doubled}
use Rattle.mesh_base.specs.Sides.{faces_at, has_corner}
use Rattle.mesh_base.specs.Changes.{with_vertex, with_face, without_face, without_vertex, with_point, with_solid}
use Rattle.mesh_base.proofs.Finite.{got_after_insert, got_after_remove}
use Rattle.mesh_base.proofs.Listed.{all_map, all_filter, at_key}
use Rattle.mesh_base.proofs.MarksHold.{slice_get-take}
use Rattle.half_mesh.specs.States.{State}
use Rattle.half_mesh.proofs.Mapped.{tied, untied}
use Rattle.half_mesh.proofs.Rings.{got_some}
use Rattle.mesh_journal.specs.declared.entries.Entry.{Entry}
use Rattle.mesh_journal.specs.declared.entries.Entry.TheVariants.{FaceMade, VertexMade, FaceDropped, VertexDropped, VertexPlaced, VertexMadeSolid, Unchanged}
use Rattle.mesh_journal.specs.Entries.{undo, back, trail, CanUndo, CanUndoAll}
use Rattle.mesh_journal.specs.Boxed.{Boxes, Holds, IsAround, HoldsCorners, AreBoxed, AreBoxedFrom}
use Rattle.mesh_journal.proofs.Boxed.{same_some, corners-kept, corners-around}
use Rattle.mesh_journal.proofs.Maps.{get_here}
use Rattle.mesh_journal.proofs.Trails.{Stands, length-trail, last-trail}

-- the boxes of a journal, and when they were made
pub record IsIndexed (since : ℕ) (o : Option Boxes) (es : List Entry) (s : State) : Type 0 where
  pub boxed : AreBoxedFrom since o (trail es s)
  pub since_there : since ≤ length es

-- those of the present mesh
pub present : (since : ℕ) (o : Option Boxes) (es : List Entry) (s : State) → IsIndexed since o es s → AreBoxed o s.mesh
present since o es s is = is.boxed (length es) s.mesh is.since_there (last-trail es s)

-- ---- a mesh more
last_or_kept : (kept : List Mesh) (last m : Mesh) (k : ℕ) → slice_get (kept ++ last ∷ []) k ≡ Some m → (slice_get kept k ≡ Some m) ⊎ (m ≡ last)
last_or_kept [] last m zero h = inr (sym (same_some last m h))
last_or_kept [] last m (suc k) h = cc
last_or_kept (x ∷ kept) last m zero h = inl h
last_or_kept (x ∷ kept) last m (suc k) h = last_or_kept kept last m k h

pub grown : (since : ℕ) (o p : Option Boxes) (es items : List Entry) (old new : State) (last : Mesh)
    → IsIndexed since o es old → trail items new ≡ trail es old ++ last ∷ []
    → ((k : ℕ) (m : Mesh) → slice_get (trail es old) k ≡ Some m → AreBoxed o m → AreBoxed p m)
    → AreBoxed p last → IsIndexed since p items new
grown since o p es items old new last is grows keeps here = record {
  boxed = λ k m low got. ⊎_elim
      (λ was. keeps k m was (is.boxed k m low was))
      (λ same. subst (AreBoxed p) (sym same) here)
      (last_or_kept (trail es old) last m k (ap (λ ms. slice_get ms k) (sym grows) ∙ got));
  since_there =
      let a = length-trail items new in
      let b = length-trail es old in
      let c = ap length grows in
      let d = length-append (trail es old) (last ∷ []) in
      let l = is.since_there in
      omega (arith, a, b, c, d, l);
}

-- ---- a mesh whose live faces were so before, with their corners where they stood
same_place : (m n : Mesh) (v : ℕ) → IsLiveVertex m v → IsLiveVertex n v
    → ((p q : Point) → map.get m.points v ≡ Some p → map.get n.points v ≡ Some q → p ≡ q)
    → rest_positions_doubled m v ≡ rest_positions_doubled n v
same_place m n v a b same =
    let (p, has) = got_some (map.get m.points v) a in
    let (q, got) = got_some (map.get n.points v) b in
    ap (λ o. times 2 (position_or_origin o)) (has ∙ ap Some (same p q has got) ∙ sym got)

pub still : (o : Option Boxes) (m n : Mesh) → IsSound m → IsSound n
    → ((f : ℕ) (c : Corners) → HasCorners n f c → HasCorners m f c)
    → ((v : ℕ) (p q : Point) → IsLiveVertex m v → map.get m.points v ≡ Some p → map.get n.points v ≡ Some q → p ≡ q)
    → AreBoxed o m → AreBoxed o n
still o m n sm sn faces points boxed f c h =
    let was = faces f c h in
    let old = boxed f c was in
    let a = sm.is_mesh.live_corners f c was in
    let b = sn.is_mesh.live_corners f c h in record {
      first = subst (Holds o f) (same_place m n c.first a.0 b.0 (λ p q. points c.first p q a.0)) old.first;
      second = subst (Holds o f) (same_place m n c.second a.1 b.1 (λ p q. points c.second p q a.1)) old.second;
      third = subst (Holds o f) (same_place m n c.third a.2 b.2 (λ p q. points c.third p q a.2)) old.third;
    }

same_point : (o : Option Point) (p q : Point) → o ≡ Some p → o ≡ Some q → p ≡ q
same_point o p q h i = same_some p q (sym h ∙ i)

pub still-with_vertex : (o : Option Boxes) (m : Mesh) (p : Point) → IsSound m → IsSound (with_vertex m p) → AreBoxed o m → AreBoxed o (with_vertex m p)
still-with_vertex o m x sm sn = still o m (with_vertex m x) sm sn (λ f c h. h)
    (λ v p q live h i. ⊎_elim
    (λ here. let low = sm.is_mesh.vertex_ids v live in absurd (omega (arith, low.1, here.0)))
    (λ old. same_point (map.get m.points v) p q h old)
    (got_after_insert m.points m.next_vertex x v q i))

pub still-without_vertex : (o : Option Boxes) (m : Mesh) (v : ℕ) → IsSound m → IsSound (without_vertex m v) → AreBoxed o m → AreBoxed o (without_vertex m v)
still-without_vertex o m x sm sn = still o m (without_vertex m x) sm sn (λ f c h. h)
    (λ v p q live h i. same_point (map.get m.points v) p q h (got_after_remove m.points x v q i).1)

pub still-without_face : (o : Option Boxes) (m : Mesh) (f : ℕ) → AreBoxed o m → AreBoxed o (without_face m f)
still-without_face o m x boxed f c h =
    let old = boxed f c (got_after_remove m.faces x f c h).1 in
    record { first = old.first; second = old.second; third = old.third }

pub still-with_solid : (o : Option Boxes) (m : Mesh) (v : ℕ) → AreBoxed o m → AreBoxed o (with_solid m v)
still-with_solid o m x boxed f c h =
    let old = boxed f c h in
    record { first = old.first; second = old.second; third = old.third }

-- ---- the ids of faces only rise along the trail
ids_fall : (e : Entry) (s : State) → CanUndo e s → (undo e s).mesh.next_face ≤ s.mesh.next_face
ids_fall (FaceMade f) s can = let l = can.last in omega (arith, l)
ids_fall (VertexMade v) s can = omega arith
ids_fall (FaceDropped f) s can = omega arith
ids_fall (VertexDropped v) s can = omega arith
ids_fall (VertexPlaced v p) s can = omega arith
ids_fall (VertexMadeSolid v) s can = omega arith
ids_fall Unchanged s can = omega arith

back_falls : (es : List Entry) (s : State) → CanUndoAll es s → (back es s).mesh.next_face ≤ s.mesh.next_face
back_falls [] s can = omega arith
back_falls (e ∷ es) s can =
    let one = ids_fall e (back es s) can.0 in
    let rest = back_falls es s can.1 in
    omega (arith, one, rest)

trail_below : (es : List Entry) (s : State) → CanUndoAll es s → (k : ℕ) (m : Mesh) → slice_get (trail es s) k ≡ Some m → m.next_face ≤ s.mesh.next_face
trail_below [] s can zero m h = let e = ap (λ (x : Mesh). x.next_face) (same_some s.mesh m h) in omega (arith, e)
trail_below [] s can (suc k) m h = cc
trail_below (x ∷ es) s can zero m h =
    let e = ap (λ (y : Mesh). y.next_face) (same_some (undo x (back es s)).mesh m h) in
    let l = back_falls (x ∷ es) s can in
    omega (arith, e, l)
trail_below (x ∷ es) s can (suc k) m h = trail_below es s can.1 k m h

sound_at : (kept : List Mesh) (k : ℕ) (m : Mesh) → All IsSound kept → slice_get kept k ≡ Some m → IsSound m
sound_at [] k m all h = cc
sound_at (x ∷ kept) zero m all h = subst IsSound (same_some x m h) (All-head IsSound x kept all)
sound_at (x ∷ kept) (suc k) m all h = sound_at kept k m (All-tail IsSound x kept all) h

-- ---- a face more
-- no mesh of the trail has a face with the id that comes next
face_is_new : (es : List Entry) (s : State) → Stands es s → (k : ℕ) (m : Mesh) → slice_get (trail es s) k ≡ Some m
    → (f : ℕ) (c : Corners) → HasCorners m f c → f ≢ s.mesh.next_face
face_is_new es s stood k m at f c has same =
    let low = trail_below es s stood.undoable k m at in
    let ids = (sound_at (trail es s) k m stood.trail_sound at).is_mesh.face_ids f (ap is_some has) in
    absurd (omega (arith, low, ids.1, same))

pub with_new_face : (o p : Option Boxes) (es : List Entry) (s : State) (n : ℕ) → n ≡ s.mesh.next_face → Stands es s
    → ((q : ℕ) (t : Triple) → q ≢ n → Holds o q t → Holds p q t)
    → (k : ℕ) (m : Mesh) → slice_get (trail es s) k ≡ Some m → AreBoxed o m → AreBoxed p m
with_new_face o p es s n is stood others k m at boxed f c has =
    corners-kept o p m f c (λ t. others f t (λ same. face_is_new es s stood k m at f c has (same ∙ is))) (boxed f c has)

pub boxed-with_face : (o p : Option Boxes) (m : Mesh) (n : ℕ) (c : Corners) (e : Extent) → n ≡ m.next_face → IsSound m
    → ((t : Triple) → IsIn e t → Holds p n t) → ((q : ℕ) (t : Triple) → q ≢ n → Holds o q t → Holds p q t)
    → IsAround e m c → AreBoxed o m → AreBoxed p (with_face m c)
boxed-with_face o p m n c e is sound at others around boxed f d h =
    ⊎_elim
    (λ here.
    let made : HoldsCorners p (with_face m c) n c = corners-around p (with_face m c) n c e at (record { first = around.first; second = around.second; third = around.third }) in
    subst (λ k. HoldsCorners p (with_face m c) k d) (is ∙ sym here.0) (subst (λ x. HoldsCorners p (with_face m c) n x) here.1 made))
    (λ old.
    let low = sound.is_mesh.face_ids f (ap is_some old) in
    let was = corners-kept o p m f d (λ t. others f t (λ same. absurd (omega (arith, low.1, same, is)))) (boxed f d old) in
    record { first = was.first; second = was.second; third = was.third })
    (got_after_insert m.faces m.next_face c f d h)

-- ---- a vertex at another point
at_each : (P : ℕ → Type 0) (m : Mesh) (v f : ℕ) (c : Corners) → All P (faces_at m v) → HasCorners m f c → has_corner c v ≡ true → P f
at_each P m v f c all has corner =
    at_key (λ e. has_corner e.1 v ≡ true → P e.0) m.faces f c
    (all_filter (λ e. P e.0) (λ e. has_corner e.1 v) (map.entries m.faces) (all_map P (λ e. e.0) (filter (λ e. has_corner e.1 v) (map.entries m.faces)) (recursion_from_All P (faces_at m v) all)))
    has corner

is_first : (a b c v : ℕ) → a ≡ v → ((a == v) || (b == v) || (c == v)) ≡ true
is_first a b c v e = grind (arith, nat_tests)

is_second : (a b c v : ℕ) → b ≡ v → ((a == v) || (b == v) || (c == v)) ≡ true
is_second a b c v e = grind (arith, nat_tests)

is_third : (a b c v : ℕ) → c ≡ v → ((a == v) || (b == v) || (c == v)) ≡ true
is_third a b c v e = grind (arith, nat_tests)

get_elsewhere : (ps : map.FinMap nat_cmp Point) (v : ℕ) (x : Point) (u : ℕ) → u ≢ v → map.get (map.insert ps v x) u ≡ map.get ps u
get_elsewhere ps v x u apart =
    get-insert nat_cmp_total ps v x u
    ∙ elim (eq_by_cmp nat_cmp u v) as (λ b. eq_by_cmp nat_cmp u v ≡ b → cond b (Some x) (map.get ps u) ≡ map.get ps u) [
      | true ↦ λ e. absurd (apart (tied u v e))
      | false ↦ λ e. refl
    ] refl

-- a corner is the vertex at its new point, or stands where it stood
moved_corner : (o p : Option Boxes) (m : Mesh) (v : ℕ) (x : Point) (f u : ℕ)
    → (u ≡ v → Holds p f (times 2 (position_of x))) → ((t : Triple) → Holds o f t → Holds p f t)
    → Holds o f (rest_positions_doubled m u) → Holds p f (rest_positions_doubled (with_point m v x) u)
moved_corner o p m v x f u at keeps was =
    elim (eq_by_cmp nat_cmp u v) as (λ b. eq_by_cmp nat_cmp u v ≡ b → Holds p f (rest_positions_doubled (with_point m v x) u)) [
      | true ↦ λ e.
          let here : u ≡ v = tied u v e in
          subst (Holds p f) (sym (ap (λ w. rest_positions_doubled (with_point m v x) w) here ∙ ap (λ w. times 2 (position_or_origin w)) (get_here m.points v x))) (at here)
      | false ↦ λ e. subst (Holds p f) (sym (ap (λ w. times 2 (position_or_origin w)) (get_elsewhere m.points v x u (untied u v e)))) (keeps _ was)
    ] refl

pub boxed-with_point : (o p : Option Boxes) (m : Mesh) (v : ℕ) (x : Point)
    → All (λ f. Holds p f (times 2 (position_of x))) (faces_at m v) → ((q : ℕ) (t : Triple) → Holds o q t → Holds p q t)
    → AreBoxed o m → AreBoxed p (with_point m v x)
boxed-with_point o p m v x all keeps boxed f c has =
    let old = boxed f c has in
    let at : has_corner c v ≡ true → Holds p f (times 2 (position_of x)) = at_each (λ g. Holds p g (times 2 (position_of x))) m v f c all has in record {
      first = moved_corner o p m v x f c.first (λ e. at (is_first c.first c.second c.third v e)) (keeps f) old.first;
      second = moved_corner o p m v x f c.second (λ e. at (is_second c.first c.second c.third v e)) (keeps f) old.second;
      third = moved_corner o p m v x f c.third (λ e. at (is_third c.first c.second c.third v e)) (keeps f) old.third;
    }

pub kept-wider : (o p : Option Boxes) → ((q : ℕ) (t : Triple) → Holds o q t → Holds p q t) → (m : Mesh) → AreBoxed o m → AreBoxed p m
kept-wider o p keeps m boxed f c has = corners-kept o p m f c (keeps f) (boxed f c has)

-- ---- made anew
pub made_anew : (o : Option Boxes) (es : List Entry) (s : State) (m : Mesh) → m ≡ s.mesh → AreBoxed o m → IsIndexed (length es) o es s
made_anew o es s m same boxed = record {
  boxed = λ k n low got.
      let len = length-trail es s in
      let inside = slice_get_within (trail es s) k n got in
      let at : k ≡ length es = omega (arith, low, inside, len) in
      subst (AreBoxed o) (same ∙ same_some s.mesh n (sym (last-trail es s) ∙ ap (slice_get (trail es s)) (sym at) ∙ got)) boxed;
  since_there = omega arith;
}

-- ---- a mesh less
pub shorter : (since new_since : ℕ) (o p : Option Boxes) (es rest : List Entry) (s t : State)
    → IsIndexed since o es s → new_since ≤ length rest → trail rest t ≡ take (length es) (trail es s) → length rest + 1 ≡ length es
    → ((b : Boxes) → p ≡ Some b → (o ≡ Some b) × (since ≤ new_since)) → IsIndexed new_since p rest t
shorter since new_since o p es rest s t is there front len keeps = record {
  boxed = λ k m low got f c has.
      let at : (b : Boxes) → p ≡ Some b → HoldsCorners o m f c = λ b some.
      let more = (keeps b some).1 in
      let below = slice_get_within (trail rest t) k m got in
      let long = length-trail rest t in
      let inside : k < length es = omega (arith, below, long, len) in
      is.boxed k m (omega (arith, low, more)) (sym (slice_get-take (length es) k (trail es s) inside) ∙ ap (λ ms. slice_get ms k) (sym front) ∙ got) f c has in
      record {
        first = λ b some. (at b some).first b (keeps b some).0;
        second = λ b some. (at b some).second b (keeps b some).0;
        third = λ b some. (at b some).third b (keeps b some).0;
      };
  since_there = there;
}

-- ---- the mesh alone
pub settled : (o : Option Boxes) (es : List Entry) (s : State) (m : Mesh) → es ≡ [] → m ≡ s.mesh → AreBoxed o m → IsIndexed 0 o es s
settled o es s m none same boxed = subst (λ n. IsIndexed n o es s) (ap length none) (made_anew o es s m same boxed)

-- ---- as the calls of a journal need them
pub grown-same : (since : ℕ) (o : Option Boxes) (es items : List Entry) (old new : State) (last after : Mesh)
    → IsIndexed since o es old → trail items new ≡ trail es old ++ last ∷ [] → last ≡ after → AreBoxed o after → IsIndexed since o items new
grown-same since o es items old new last after is grows same here =
    grown since o o es items old new last is grows (λ k m at h. h) (subst (AreBoxed o) (sym same) here)

pub renumbered : (a b : ℕ) (o : Option Boxes) (es : List Entry) (s : State) → b ≡ a → IsIndexed a o es s → IsIndexed b o es s
renumbered a b o es s same is = subst (λ n. IsIndexed n o es s) (sym same) is
