-- What is buried stays apart from what lives, and the mesh stays sound, at each change.
use Rattle.std.proofs.Common.{◌≡◌, ◌≢◌, ◌⊎◌, ℕ, ◌<◌, ◌≤◌, ◌||◌, ◌==◌, Bool, true, false, cond, Option, Some, None, IsSome, is_some, refl, sym, ap, subst, ◌∙◌, ⊎_elim, arith}
use Rattle.std.proofs.lemmas.Bool.Decides.{nat_tests}
use Rattle.std.specs.Ordering.{nat_cmp, eq_by_cmp}
use Rattle.std.specs.Cmp.{nat_cmp_total, eq_by_cmp_equiv}
use Rattle.std.specs.FinMap as finite
use Rattle.std.specs.FinMap.{FinMap, get-insert, get-remove, len-empty, empty_of_len}
use Rattle.grid_base.specs.declared.Point.{Point}
use Rattle.mesh_base.specs.declared.ids.Corners.{Corners}
use Rattle.mesh_base.specs.Mesh.{Mesh, IdSet, IsSound, IsLiveVertex, IsLiveFace, HasCorners, AreLive, AreDifferent, equal_up_to_rotation}
use Rattle.mesh_base.specs.Changes.{with_vertex, with_face, without_face, without_vertex, with_point}
use Rattle.mesh_base.proofs.Finite.{got_after_insert, live_after_insert, live_stays, got_after_remove, live_after_remove, live_inserted, none_in_empty}
use Rattle.mesh_base.proofs.MeshLaws.{len-insert_le, equal_symmetric, sound-without_face, sound-without_vertex}
use Rattle.half_mesh.specs.States.{State, Buried, none_buried, with_mesh, with_some, carry, bury_face, bury_vertex, raise_face, raise_vertex, unmake_face, unmake_vertex, without_solid, CanRaiseFace, CanRaiseVertex, CanUnmakeFace, CanUnmakeVertex, AreApart, HasNone}
use Rattle.half_mesh.proofs.Mapped.{tied}
use Rattle.half_mesh.proofs.Rings.{got_some}

none_but : {X : Type 0} (m : FinMap nat_cmp X) (k q : ℕ) (x : X) → q ≢ k → finite.get m q ≡ None → finite.get (finite.insert m k x) q ≡ None
none_but m k q x apart none = get-insert nat_cmp_total m k x q ∙ by_key (eq_by_cmp nat_cmp q k) refl
  where
    by_key : (b : Bool) → eq_by_cmp nat_cmp q k ≡ b → cond b (Some x) (finite.get m q) ≡ None
    by_key true e = absurd (apart (tied q k e))
    by_key false e = none

still_none : {X : Type 0} (m : FinMap nat_cmp X) (k q : ℕ) → finite.get m q ≡ None → finite.get (finite.remove m k) q ≡ None
still_none m k q none = get-remove nat_cmp_total m k q ∙ elim (eq_by_cmp nat_cmp q k) as (λ b. cond b None (finite.get m q) ≡ None) [ true ↦ refl | false ↦ none ]

gone : {X : Type 0} (m : FinMap nat_cmp X) (k : ℕ) → finite.get (finite.remove m k) k ≡ None
gone m k = get-remove nat_cmp_total m k k ∙ ap (λ b. cond b None (finite.get m k)) ((eq_by_cmp_equiv nat_cmp_total).refl k)

not_live : {X : Type 0} (o : Option X) → o ≡ None → is_some o ≡ true → ⊥
not_live None e h = cc
not_live (Some x) e h = cc

-- what is carried
pub carry-some : {X : Type 0} (from to : FinMap nat_cmp X) (k : ℕ) (x : X) → finite.get from k ≡ Some x → carry from to k ≡ finite.insert to k x
carry-some from to k x there = ap (with_some to k) there

-- nothing is buried
pub apart-none : (m : Mesh) → AreApart (record { mesh = m; buried = none_buried })
apart-none m = record {
  vertices = λ v h. let none = none_in_empty Point v in cc;
  vertex_ids = λ v h. let none = none_in_empty Point v in cc;
  faces = λ f h. let none = none_in_empty Corners f in cc;
  face_ids = λ f h. let none = none_in_empty Corners f in cc;
  corners = λ f c h. let none = none_in_empty Corners f in let some = ap is_some h in cc;
  different = λ f c h. let none = none_in_empty Corners f in let some = ap is_some h in cc;
}

pub apart-with_vertex : (s : State) (p : Point) → AreApart s → AreApart (with_mesh s (with_vertex s.mesh p))
apart-with_vertex s p a = record {
  vertices = λ v h. let b = a.vertex_ids v h in none_but s.mesh.points s.mesh.next_vertex v p (λ e. omega (arith, b, e)) (a.vertices v h);
  vertex_ids = λ v h. let b = a.vertex_ids v h in omega (arith, b);
  faces = a.faces;
  face_ids = a.face_ids;
  corners = λ f c h. let b = a.corners f c h in omega (arith, b);
  different = a.different;
}

pub apart-with_face : (s : State) (c : Corners) → AreApart s → AreApart (with_mesh s (with_face s.mesh c))
apart-with_face s c a = record {
  vertices = a.vertices;
  vertex_ids = a.vertex_ids;
  faces = λ f h. let b = a.face_ids f h in none_but s.mesh.faces s.mesh.next_face f c (λ e. omega (arith, b, e)) (a.faces f h);
  face_ids = λ f h. let b = a.face_ids f h in omega (arith, b);
  corners = a.corners;
  different = a.different;
}

pub apart-without_face : (s : State) (f : ℕ) → AreApart s → AreApart (with_mesh s (without_face s.mesh f))
apart-without_face s f a = record {
  vertices = a.vertices;
  vertex_ids = a.vertex_ids;
  faces = λ g h. still_none s.mesh.faces f g (a.faces g h);
  face_ids = a.face_ids;
  corners = a.corners;
  different = a.different;
}

pub apart-without_vertex : (s : State) (v : ℕ) → AreApart s → AreApart (with_mesh s (without_vertex s.mesh v))
apart-without_vertex s v a = record {
  vertices = λ q h. still_none s.mesh.points v q (a.vertices q h);
  vertex_ids = a.vertex_ids;
  faces = a.faces;
  face_ids = a.face_ids;
  corners = a.corners;
  different = a.different;
}

pub apart-with_point : (s : State) (v : ℕ) (p : Point) → AreApart s → IsLiveVertex s.mesh v → AreApart (with_mesh s (with_point s.mesh v p))
apart-with_point s v p a live = record {
  vertices = λ q h. none_but s.mesh.points v q p (λ e. not_live (finite.get s.mesh.points v) (ap (finite.get s.mesh.points) (sym e) ∙ a.vertices q h) live) (a.vertices q h);
  vertex_ids = a.vertex_ids;
  faces = a.faces;
  face_ids = a.face_ids;
  corners = a.corners;
  different = a.different;
}

-- with other marks
pub apart-marked : (s : State) (solid : IdSet) → AreApart s → AreApart (with_mesh s (record s.mesh { solid = solid }))
apart-marked s solid a = record { vertices = a.vertices; vertex_ids = a.vertex_ids; faces = a.faces; face_ids = a.face_ids; corners = a.corners; different = a.different }

pub apart-bury_face : (s : State) (f : ℕ) → AreApart s → IsSound s.mesh → IsLiveFace s.mesh f → AreApart (bury_face s f)
apart-bury_face s f a sound live =
    let at = got_some (finite.get s.mesh.faces f) live in
    let c = at.0 in
    let now = carry-some s.mesh.faces s.buried.faces f c at.1 in
    let got : (q : ℕ) (d : Corners) → finite.get (carry s.mesh.faces s.buried.faces f) q ≡ Some d → ((q ≡ f) × (c ≡ d)) ⊎ (finite.get s.buried.faces q ≡ Some d) = λ q d h. got_after_insert s.buried.faces f c q d (ap (λ m. finite.get m q) (sym now) ∙ h) in
    let some : (q : ℕ) → IsSome (finite.get (carry s.mesh.faces s.buried.faces f) q) → (q ≡ f) ⊎ IsSome (finite.get s.buried.faces q) = λ q h. live_after_insert s.buried.faces f c q (ap (λ m. is_some (finite.get m q)) (sym now) ∙ h) in
    let below : (v : ℕ) → IsLiveVertex s.mesh v → v < s.mesh.next_vertex = λ v h. (sound.is_mesh.vertex_ids v h).1 in
    let corners = sound.is_mesh.live_corners f c at.1 in
    record {
      vertices = a.vertices;
      vertex_ids = a.vertex_ids;
      faces = λ q h. ⊎_elim (λ e. ap (finite.get (finite.remove s.mesh.faces f)) e ∙ gone s.mesh.faces f) (λ old. still_none s.mesh.faces f q (a.faces q old)) (some q h);
      face_ids = λ q h. ⊎_elim (λ e. subst (λ j. (1 ≤ j) × (j < s.mesh.next_face)) (sym e) (sound.is_mesh.face_ids f live)) (λ old. a.face_ids q old) (some q h);
      corners = λ q d h. ⊎_elim
          (λ e. subst (λ (x : Corners). (x.first < s.mesh.next_vertex) × (x.second < s.mesh.next_vertex) × (x.third < s.mesh.next_vertex)) e.1 (below c.first corners.0, below c.second corners.1, below c.third corners.2))
          (λ old. a.corners q d old)
          (got q d h);
      different = λ q d h. ⊎_elim (λ e. subst AreDifferent e.1 (sound.is_mesh.different_corners f c at.1)) (λ old. a.different q d old) (got q d h);
    }

pub apart-bury_vertex : (s : State) (v : ℕ) → AreApart s → IsSound s.mesh → IsLiveVertex s.mesh v → AreApart (bury_vertex s v)
apart-bury_vertex s v a sound live =
    let at = got_some (finite.get s.mesh.points v) live in
    let now = carry-some s.mesh.points s.buried.points v at.0 at.1 in
    let some : (q : ℕ) → IsSome (finite.get (carry s.mesh.points s.buried.points v) q) → (q ≡ v) ⊎ IsSome (finite.get s.buried.points q) = λ q h. live_after_insert s.buried.points v at.0 q (ap (λ m. is_some (finite.get m q)) (sym now) ∙ h) in
    record {
      vertices = λ q h. ⊎_elim (λ e. ap (finite.get (finite.remove s.mesh.points v)) e ∙ gone s.mesh.points v) (λ old. still_none s.mesh.points v q (a.vertices q old)) (some q h);
      vertex_ids = λ q h. ⊎_elim (λ e. subst (λ j. (1 ≤ j) × (j < s.mesh.next_vertex)) (sym e) (sound.is_mesh.vertex_ids v live)) (λ old. a.vertex_ids q old) (some q h);
      faces = a.faces;
      face_ids = a.face_ids;
      corners = a.corners;
      different = a.different;
    }

pub apart-raise_face : (s : State) (f : ℕ) → AreApart s → IsSome (finite.get s.buried.faces f) → AreApart (raise_face s f)
apart-raise_face s f a there =
    let at = got_some (finite.get s.buried.faces f) there in
    let now = carry-some s.buried.faces s.mesh.faces f at.0 at.1 in
    record {
      vertices = a.vertices;
      vertex_ids = a.vertex_ids;
      faces = λ q h. let old = live_after_remove s.buried.faces f q h in ap (λ m. finite.get m q) now ∙ none_but s.mesh.faces f q at.0 old.0 (a.faces q old.1);
      face_ids = λ q h. a.face_ids q (live_after_remove s.buried.faces f q h).1;
      corners = λ q d h. a.corners q d (got_after_remove s.buried.faces f q d h).1;
      different = λ q d h. a.different q d (got_after_remove s.buried.faces f q d h).1;
    }

pub apart-raise_vertex : (s : State) (v : ℕ) → AreApart s → IsSome (finite.get s.buried.points v) → AreApart (raise_vertex s v)
apart-raise_vertex s v a there =
    let at = got_some (finite.get s.buried.points v) there in
    let now = carry-some s.buried.points s.mesh.points v at.0 at.1 in
    record {
      vertices = λ q h. let old = live_after_remove s.buried.points v q h in ap (λ m. finite.get m q) now ∙ none_but s.mesh.points v q at.0 old.0 (a.vertices q old.1);
      vertex_ids = λ q h. a.vertex_ids q (live_after_remove s.buried.points v q h).1;
      faces = a.faces;
      face_ids = a.face_ids;
      corners = a.corners;
      different = a.different;
    }

pub apart-unmake_face : (s : State) (f : ℕ) → AreApart s → CanUnmakeFace s f → AreApart (unmake_face s f)
apart-unmake_face s f a can = record {
  vertices = a.vertices;
  vertex_ids = a.vertex_ids;
  faces = λ g h. still_none s.mesh.faces f g (a.faces g h);
  face_ids = λ g h.
      let b = a.face_ids g h in
      let last = can.last in
      let apart : g ≢ f = λ e. not_live (finite.get s.mesh.faces f) (ap (finite.get s.mesh.faces) (sym e) ∙ a.faces g h) can.live in
      omega (arith, b, last);
  corners = a.corners;
  different = a.different;
}

not_corner : (a b c v : ℕ) → ((a == v) || (b == v) || (c == v)) ≡ false → (a ≢ v) × (b ≢ v) × (c ≢ v)
not_corner a b c v h = (λ e. grind (arith, nat_tests), λ e. grind (arith, nat_tests), λ e. grind (arith, nat_tests))

pub apart-unmake_vertex : (s : State) (v : ℕ) → AreApart s → CanUnmakeVertex s v → AreApart (unmake_vertex s v)
apart-unmake_vertex s v a can = record {
  vertices = λ q h. still_none s.mesh.points v q (a.vertices q h);
  vertex_ids = λ q h.
      let b = a.vertex_ids q h in
      let last = can.last in
      let apart : q ≢ v = λ e. not_live (finite.get s.mesh.points v) (ap (finite.get s.mesh.points) (sym e) ∙ a.vertices q h) can.live in
      omega (arith, b, last);
  faces = a.faces;
  face_ids = a.face_ids;
  corners = λ f c h.
      let b = a.corners f c h in
      let n = not_corner c.first c.second c.third v (can.unheld f c h) in
      let last = can.last in
      let first : c.first ≢ v = n.0 in
      let second : c.second ≢ v = n.1 in
      let third : c.third ≢ v = n.2 in
      (omega (arith, b, last), omega (arith, b, last), omega (arith, b, last));
  different = a.different;
}

-- ---- the mesh stays sound
not_both : {b : Bool} → b ≡ true → b ≡ false → ⊥
not_both h h' = cc

pub sound-raise_face : (s : State) (f : ℕ) → IsSound s.mesh → AreApart s → CanRaiseFace s f → IsSound (raise_face s f).mesh
sound-raise_face s f sound a can =
    let m = s.mesh in
    let at = got_some (finite.get s.buried.faces f) can.buried in
    let c = at.0 in
    let now = carry-some s.buried.faces m.faces f c at.1 in
    let got : (q : ℕ) (d : Corners) → finite.get (carry s.buried.faces m.faces f) q ≡ Some d → ((q ≡ f) × (c ≡ d)) ⊎ (finite.get m.faces q ≡ Some d) = λ q d h. got_after_insert m.faces f c q d (ap (λ x. finite.get x q) (sym now) ∙ h) in
    let new : (g : ℕ) (d : Corners) → HasCorners m g d → equal_up_to_rotation d c ≡ false = λ g d h. can.new g c d at.1 h in
    record {
      is_mesh = record {
        vertex_ids = sound.is_mesh.vertex_ids;
        face_ids = λ g h. ⊎_elim (λ e. subst (λ j. (1 ≤ j) × (j < m.next_face)) (sym e) (a.face_ids f can.buried)) (λ old. sound.is_mesh.face_ids g old) (live_after_insert m.faces f c g (ap (λ x. is_some (finite.get x g)) (sym now) ∙ h));
        solid_ids = sound.is_mesh.solid_ids;
        live_corners = λ g d h. ⊎_elim (λ e. subst (AreLive m) e.1 (can.live c at.1)) (λ old. sound.is_mesh.live_corners g d old) (got g d h);
        different_corners = λ g d h. ⊎_elim (λ e. subst AreDifferent e.1 (a.different f c at.1)) (λ old. sound.is_mesh.different_corners g d old) (got g d h);
        different_faces = λ g g' d d' h h' same. ⊎_elim
            (λ e. ⊎_elim (λ e'. e.0 ∙ sym e'.0) (λ old'. absurd (not_both (equal_symmetric c d' (subst (λ x. equal_up_to_rotation x d' ≡ true) (sym e.1) same)) (new g' d' old'))) (got g' d' h'))
            (λ old. ⊎_elim (λ e'. absurd (not_both (subst (λ x. equal_up_to_rotation d x ≡ true) (sym e'.1) same) (new g d old))) (λ old'. sound.is_mesh.different_faces g g' d d' old old' same) (got g' d' h'))
            (got g d h);
      };
      limits = record {
        greatest = sound.limits.greatest;
        vertices = sound.limits.vertices;
        faces = let e = len-insert_le m.faces f c in let room = can.room in let same = ap finite.len now in omega arith;
        vertex_ids = sound.limits.vertex_ids;
        face_ids = sound.limits.face_ids;
      };
    }

-- marks after one more, or none
marked : (solid : IdSet) (points : FinMap nat_cmp Point) (v : ℕ) → ((q : ℕ) → is_some (finite.get solid q) ≡ true → IsSome (finite.get points q)) → IsSome (finite.get points v)
    → (o : Option (Unit {0})) (q : ℕ) → is_some (finite.get (with_some solid v o) q) ≡ true → IsSome (finite.get points q)
marked solid points v old here None q h = old q h
marked solid points v old here (Some u) q h = ⊎_elim (λ e. subst (λ j. IsSome (finite.get points j)) (sym e) here) (λ is. old q is) (live_after_insert solid v u q h)

pub sound-raise_vertex : (s : State) (v : ℕ) → IsSound s.mesh → AreApart s → CanRaiseVertex s v → IsSound (raise_vertex s v).mesh
sound-raise_vertex s v sound a can =
    let m = s.mesh in
    let at = got_some (finite.get s.buried.points v) can.buried in
    let p = at.0 in
    let now = carry-some s.buried.points m.points v p at.1 in
    let stays : (q : ℕ) → IsLiveVertex m q → IsSome (finite.get (carry s.buried.points m.points v) q) = λ q h. ap (λ x. is_some (finite.get x q)) now ∙ live_stays m.points v p q h in
    let here : IsSome (finite.get (carry s.buried.points m.points v) v) = ap (λ x. is_some (finite.get x v)) now ∙ live_inserted m.points v p in
    record {
      is_mesh = record {
        vertex_ids = λ q h. ⊎_elim (λ e. subst (λ j. (1 ≤ j) × (j < m.next_vertex)) (sym e) (a.vertex_ids v can.buried)) (λ old. sound.is_mesh.vertex_ids q old) (live_after_insert m.points v p q (ap (λ x. is_some (finite.get x q)) (sym now) ∙ h));
        face_ids = sound.is_mesh.face_ids;
        solid_ids = λ q h. marked m.solid (carry s.buried.points m.points v) v (λ r is. stays r (sound.is_mesh.solid_ids r is)) here (finite.get s.buried.solid v) q h;
        live_corners = λ f c h. let old = sound.is_mesh.live_corners f c h in (stays c.first old.0, stays c.second old.1, stays c.third old.2);
        different_corners = sound.is_mesh.different_corners;
        different_faces = sound.is_mesh.different_faces;
      };
      limits = record {
        greatest = sound.limits.greatest;
        vertices = let e = len-insert_le m.points v p in let room = can.room in let same = ap finite.len now in omega arith;
        faces = sound.limits.faces;
        vertex_ids = sound.limits.vertex_ids;
        face_ids = sound.limits.face_ids;
      };
    }

pub sound-unmake_face : (s : State) (f : ℕ) → IsSound s.mesh → CanUnmakeFace s f → IsSound (unmake_face s f).mesh
sound-unmake_face s f sound can =
    let less = sound-without_face s.mesh f sound in
    let last = can.last in
    let id = sound.is_mesh.face_ids f can.live in
    record {
      is_mesh = record {
        vertex_ids = sound.is_mesh.vertex_ids;
        face_ids = λ g h. let old = live_after_remove s.mesh.faces f g h in let b = sound.is_mesh.face_ids g old.1 in let apart = old.0 in omega (arith, b, last);
        solid_ids = sound.is_mesh.solid_ids;
        live_corners = less.is_mesh.live_corners;
        different_corners = less.is_mesh.different_corners;
        different_faces = less.is_mesh.different_faces;
      };
      limits = record {
        greatest = sound.limits.greatest;
        vertices = sound.limits.vertices;
        faces = less.limits.faces;
        vertex_ids = sound.limits.vertex_ids;
        face_ids = let limit = sound.limits.face_ids in omega (arith, id, last, limit);
      };
    }

pub sound-unmake_vertex : (s : State) (v : ℕ) → IsSound s.mesh → CanUnmakeVertex s v → IsSound (unmake_vertex s v).mesh
sound-unmake_vertex s v sound can =
    let less = sound-without_vertex s.mesh v sound can.bare in
    let last = can.last in
    let id = sound.is_mesh.vertex_ids v can.live in
    record {
      is_mesh = record {
        vertex_ids = λ q h. let old = live_after_remove s.mesh.points v q h in let b = sound.is_mesh.vertex_ids q old.1 in let apart = old.0 in omega (arith, b, last);
        face_ids = sound.is_mesh.face_ids;
        solid_ids = less.is_mesh.solid_ids;
        live_corners = less.is_mesh.live_corners;
        different_corners = less.is_mesh.different_corners;
        different_faces = less.is_mesh.different_faces;
      };
      limits = record {
        greatest = less.limits.greatest;
        vertices = less.limits.vertices;
        faces = sound.limits.faces;
        vertex_ids = let limit = sound.limits.vertex_ids in omega (arith, id, last, limit);
        face_ids = sound.limits.face_ids;
      };
    }

pub sound-without_solid : (m : Mesh) (v : ℕ) → IsSound m → IsSound (without_solid m v)
sound-without_solid m v s = record {
  is_mesh = record {
    vertex_ids = s.is_mesh.vertex_ids;
    face_ids = s.is_mesh.face_ids;
    solid_ids = λ q h. s.is_mesh.solid_ids q (live_after_remove m.solid v q h).1;
    live_corners = s.is_mesh.live_corners;
    different_corners = s.is_mesh.different_corners;
    different_faces = s.is_mesh.different_faces;
  };
  limits = record {
    greatest = s.limits.greatest;
    vertices = s.limits.vertices;
    faces = s.limits.faces;
    vertex_ids = s.limits.vertex_ids;
    face_ids = s.limits.face_ids;
  };
}

-- ---- nothing buried
pub none_none : HasNone none_buried
none_none = record { points = len-empty nat_cmp Point; faces = len-empty nat_cmp Corners; solid = len-empty nat_cmp (Unit {0}) }

pub none_is : (b : Buried) → HasNone b → b ≡ none_buried
none_is b n =
    let points = empty_of_len b.points n.points in
    let faces = empty_of_len b.faces n.faces in
    let solid = empty_of_len b.solid n.solid in
    λ i. record { points = points i; faces = faces i; solid = solid i }
