-- Each change is undone by its entry, and can be.
use Rattle.std.proofs.Common.{◌≡◌, ◌≢◌, ℕ, Bool, true, false, List, [], ◌∷◌, Option, Some, None, IsSome, is_some, refl, sym, ap, subst, ◌∙◌, ⊎_elim, ◌==◌, ◌||◌, cond, arith}
use Rattle.std.specs.Ordering.{nat_cmp}
use Rattle.std.specs.List.{filter, AllByRecursion}
use Rattle.std.specs.Map.{keys_of}
use Rattle.std.proofs.lemmas.Bool.Decides.{nat_tests}
use Rattle.std.specs.FinMap as map
use Rattle.std.specs.FinMap.{get-entries, entries_sorted}
use Rattle.std.specs.FinMap.Entries.{find}
use Rattle.grid_base.specs.declared.Point.{Point}
use Rattle.mesh_base.specs.declared.ids.Corners.{Corners}
use Rattle.mesh_base.specs.Mesh.{Mesh, IsMesh, IsSound, AreLive, HasCorners, IsLiveVertex, IsLiveFace, is_solid, equal_up_to_rotation}
use Rattle.mesh_base.specs.Sides.{faces_at, ids_where, has_corner}
use Rattle.mesh_base.specs.Changes.{without_face, with_point, with_solid}
use Rattle.mesh_base.proofs.Finite.{live_inserted, live_stays, got_after_remove, live_after_remove, live_but_removed, none_in_empty}
use Rattle.mesh_base.proofs.MeshLaws.{next_is_new}
use Rattle.mesh_base.proofs.Listed.{each_found}
use Rattle.mesh_base.proofs.ListedPairs.{all_weaker}
use Rattle.half_mesh.specs.States.{State, none_buried, with_mesh, carry, bury_face, bury_vertex, AreApart}
use Rattle.half_mesh.proofs.Rings.{got_some}
use Rattle.half_mesh.proofs.StateLaws.{carry-some}
use Rattle.mesh_journal.specs.declared.entries.Entry.{Entry}
use Rattle.mesh_journal.specs.declared.entries.Entry.TheVariants.{FaceMade, VertexMade, FaceDropped, VertexDropped, VertexPlaced, VertexMadeSolid, Unchanged}
use Rattle.mesh_journal.specs.Undoable.{make_vertex, make_face}
use Rattle.mesh_journal.specs.Entries.{undo, CanUndo, MarksAreBuried, solid_entry}
use Rattle.mesh_journal.proofs.Maps.{get_here, inserted_back, replaced_back, removed_none, inserted_again, get_carried, carried_back, carried_away, carried_any-back, carried_any-away, some_carried, len_below}

-- a change that its entry undoes
pub record Undoes (e : Entry) (new old : State) : Type 0 where
  pub leads : undo e new ≡ old
  pub can : CanUndo e new
  pub marks : MarksAreBuried new

-- what holds of a state at any time
pub record IsLawful (s : State) : Type 0 where
  pub sound : IsSound s.mesh
  pub apart : AreApart s
  pub marks : MarksAreBuried s

not_none : {X : Type 0} (o : Option X) → o ≡ None → IsSome o → ⊥
not_none (Some x) h live = cc
not_none None h live = cc

not_some : {X : Type 0} (o : Option X) → (IsSome o → ⊥) → o ≡ None
not_some (Some x) h = absurd (h refl)
not_some None h = refl

none_of : {X : Type 0} (o : Option X) → is_some o ≡ false → o ≡ None
none_of (Some x) h = cc
none_of None h = refl

next_vertex_free : (m : Mesh) → IsMesh m → map.get m.points m.next_vertex ≡ None
next_vertex_free m s = not_some (map.get m.points m.next_vertex) (λ live. let b = s.vertex_ids m.next_vertex live in omega arith)

next_vertex_unmarked : (m : Mesh) → IsMesh m → map.get m.solid m.next_vertex ≡ None
next_vertex_unmarked m s = not_some (map.get m.solid m.next_vertex) (λ marked. let b = s.vertex_ids m.next_vertex (s.solid_ids m.next_vertex marked) in omega arith)

next_face_free : (m : Mesh) → IsMesh m → map.get m.faces m.next_face ≡ None
next_face_free m s = not_some (map.get m.faces m.next_face) (λ live. let b = s.face_ids m.next_face live in omega arith)

no_corner : (a b c v : ℕ) → a ≢ v → b ≢ v → c ≢ v → ((a == v) || (b == v) || (c == v)) ≡ false
no_corner a b c v p q r = grind (arith, nat_tests)

-- ---- made
none_passes : (test : Corners → Bool) (es : List (ℕ × Corners)) → AllByRecursion (λ e. test e.1 ≡ false) es → ids_where test es ≡ []
none_passes test [] h = refl
none_passes test (e ∷ es) h = ap (λ b. keys_of (cond b (e ∷ filter (λ y. test y.1) es) (filter (λ y. test y.1) es))) h.0 ∙ none_passes test es h.1

-- no face is at the vertex that comes next
next_bare : (m : Mesh) → IsMesh m → faces_at m m.next_vertex ≡ []
next_bare m s =
    none_passes (λ c. has_corner c m.next_vertex) (map.entries m.faces)
    (all_weaker (λ e. find nat_cmp e.0 (map.entries m.faces) ≡ Some e.1) (λ e. has_corner e.1 m.next_vertex ≡ false) (map.entries m.faces)
    (λ e h. let away = next_is_new m s e.0 e.1 (get-entries m.faces e.0 ∙ h) in no_corner (e.1).first (e.1).second (e.1).third m.next_vertex away.0 away.1 away.2)
    (each_found (map.entries m.faces) (entries_sorted m.faces)))

pub made_vertex : (s : State) (p : Point) → IsLawful s → Undoes (VertexMade s.mesh.next_vertex) (make_vertex s p) s
made_vertex s p is =
    let m = s.mesh in
    let points = inserted_back m.points m.next_vertex p (next_vertex_free m is.sound.is_mesh) in
    let solid = removed_none m.solid m.next_vertex (next_vertex_unmarked m is.sound.is_mesh) in record {
      leads = λ i. with_mesh s (record m { points = points i; solid = solid i });
      can = record {
        live = live_inserted m.points m.next_vertex p;
        last = refl;
        bare = next_bare m is.sound.is_mesh;
        unheld = λ f c h. let low = is.apart.corners f c h in no_corner c.first c.second c.third m.next_vertex (λ e. omega (arith, low.0, e)) (λ e. omega (arith, low.1, e)) (λ e. omega (arith, low.2, e));
      };
      marks = is.marks;
    }

pub made_face : (s : State) (c : Corners) → IsLawful s → Undoes (FaceMade s.mesh.next_face) (make_face s c) s
made_face s c is = record {
  leads = ap (λ fs. with_mesh s (record s.mesh { faces = fs })) (inserted_back s.mesh.faces s.mesh.next_face c (next_face_free s.mesh is.sound.is_mesh));
  can = record { live = live_inserted s.mesh.faces s.mesh.next_face c; last = refl };
  marks = is.marks;
}

-- ---- dropped
apart_faces : (s : State) (f : ℕ) → AreApart s → IsLiveFace s.mesh f → map.get s.buried.faces f ≡ None
apart_faces s f apart live = not_some (map.get s.buried.faces f) (λ h. not_none _ (apart.faces f h) live)

apart_points : (s : State) (v : ℕ) → AreApart s → IsLiveVertex s.mesh v → map.get s.buried.points v ≡ None
apart_points s v apart live = not_some (map.get s.buried.points v) (λ h. not_none _ (apart.vertices v h) live)

apart_marks : (s : State) (v : ℕ) → IsLawful s → IsLiveVertex s.mesh v → map.get s.buried.solid v ≡ None
apart_marks s v is live = not_some (map.get s.buried.solid v) (λ h. not_none _ (apart_points s v is.apart live) (is.marks v h))

not_true : (b : Bool) → (b ≡ true → ⊥) → b ≡ false
not_true true h = absurd (h refl)
not_true false h = refl

none_alike : (m : Mesh) (f : ℕ) (c : Corners) → IsSound m → HasCorners m f c → (g : ℕ) (d : Corners) → HasCorners (without_face m f) g d → equal_up_to_rotation d c ≡ false
none_alike m f c s has g d h =
    let old = got_after_remove m.faces f g d h in
    not_true (equal_up_to_rotation d c) (λ same. old.0 (s.is_mesh.different_faces g f d c old.1 has same))

pub buried_face : (s : State) (f : ℕ) → IsLawful s → IsLiveFace s.mesh f → Undoes (FaceDropped f) (bury_face s f) s
buried_face s f is live =
    let m = s.mesh in
    let b = s.buried in
    let (c, has) = got_some (map.get m.faces f) live in
    let there = get_carried m.faces b.faces f c has in
    let faces = carried_back m.faces b.faces f c has in
    let rest = carried_away m.faces b.faces f c has (apart_faces s f is.apart live) in record {
      leads = λ i. record { mesh = record m { faces = faces i }; buried = record b { faces = rest i } };
      can = record {
        buried = ap is_some there;
        room = let l = len_below m.faces f live in let few = is.sound.limits.faces in omega (arith, l, few);
        live = λ d h. let same : Some c ≡ Some d = sym there ∙ h in subst (AreLive m) (let e : c ≡ d = cc in e) (is.sound.is_mesh.live_corners f c has);
        new = λ g d x h other. let same : Some c ≡ Some d = sym there ∙ h in subst (λ y. equal_up_to_rotation x y ≡ false) (let e : c ≡ d = cc in e) (none_alike m f c is.sound has g x other);
      };
      marks = is.marks;
    }

pub buried_vertex : (s : State) (v : ℕ) → IsLawful s → IsLiveVertex s.mesh v → Undoes (VertexDropped v) (bury_vertex s v) s
buried_vertex s v is live =
    let m = s.mesh in
    let b = s.buried in
    let (p, has) = got_some (map.get m.points v) live in
    let there = get_carried m.points b.points v p has in
    let points = carried_back m.points b.points v p has in
    let rest = carried_away m.points b.points v p has (apart_points s v is.apart live) in
    let solid = carried_any-back m.solid b.solid v (map.get m.solid v) refl (apart_marks s v is live) in
    let others = carried_any-away m.solid b.solid v (map.get m.solid v) refl (apart_marks s v is live) in record {
      leads = λ i. record { mesh = record m { points = points i; solid = solid i }; buried = record b { points = rest i; solid = others i } };
      can = record {
        buried = ap is_some there;
        room = let l = len_below m.points v live in let few = is.sound.limits.vertices in omega (arith, l, few);
      };
      marks = λ q h. ⊎_elim
          (λ e. ap is_some (ap (map.get (carry m.points b.points v)) e ∙ there))
          (λ old. ap (λ ps. is_some (map.get ps q)) (carry-some m.points b.points v p has) ∙ live_stays b.points v p q (is.marks q old))
          (some_carried m.solid b.solid v q (map.get m.solid v) refl h);
    }

-- ---- placed, and made solid
pub placed : (s : State) (v : ℕ) (p before : Point) → IsLawful s → map.get s.mesh.points v ≡ Some before → Undoes (VertexPlaced v before) (with_mesh s (with_point s.mesh v p)) s
placed s v p before is has = record {
  leads = ap (λ ps. with_mesh s (record s.mesh { points = ps })) (replaced_back s.mesh.points v before p has);
  can = live_inserted s.mesh.points v p;
  marks = is.marks;
}

pub made_solid : (s : State) (v : ℕ) → IsLawful s → IsLiveVertex s.mesh v → (before : Bool) → is_solid s.mesh v ≡ before → Undoes (solid_entry v before) (with_mesh s (with_solid s.mesh v)) s
made_solid s v is live true has =
    let (x, there) = got_some (map.get s.mesh.solid v) has in record {
      leads = ap (λ ms. with_mesh s (record s.mesh { solid = ms })) (inserted_again s.mesh.solid v x there);
      can = tt;
      marks = is.marks;
    }
made_solid s v is live false none = record {
  leads = ap (λ ms. with_mesh s (record s.mesh { solid = ms })) (inserted_back s.mesh.solid v tt (none_of (map.get s.mesh.solid v) none));
  can = record { live = live; solid = ap is_some (get_here s.mesh.solid v tt) };
  marks = is.marks;
}

-- ---- marks of what is buried
pub marks-undone : (e : Entry) (s : State) → MarksAreBuried s → MarksAreBuried (undo e s)
marks-undone (FaceMade f) s marks = marks
marks-undone (VertexMade v) s marks = marks
marks-undone (FaceDropped f) s marks = marks
marks-undone (VertexDropped v) s marks = λ q h.
    let old = live_after_remove s.buried.solid v q h in
    live_but_removed s.buried.points v q old.0 (marks q old.1)
marks-undone (VertexPlaced v p) s marks = marks
marks-undone (VertexMadeSolid v) s marks = marks
marks-undone Unchanged s marks = marks

pub marks-none : (m : Mesh) → MarksAreBuried (record { mesh = m; buried = none_buried })
marks-none m v h = let none = none_in_empty (Unit {0}) v in cc
