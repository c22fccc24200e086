-- How often one vertex follows another, as faces are made and dropped.
use Rattle.std.proofs.Common.{◌≡◌, ◌≢◌, ℕ, ◌+◌, ◌<◌, Bool, true, false, cond, ◌==◌, List, [], ◌∷◌, Option, Some, None, IsSome, is_some, refl, sym, ap, subst, ◌∙◌, arith}
use Rattle.std.proofs.lemmas.Bool.{false≢true, eqb-true, false_from_ne_true}
use Rattle.std.specs.Ordering.{nat_cmp, eq_by_cmp}
use Rattle.std.specs.Cmp.{nat_cmp_total, unsigned_tied}
use Rattle.std.specs.FinMap as finite
use Rattle.std.specs.FinMap.{get-insert, get-remove}
use Rattle.mesh_base.specs.declared.ids.Corners.{Corners}
use Rattle.mesh_base.specs.Mesh.{Mesh, IsSound, IsLiveFace, HasCorners}
use Rattle.mesh_base.specs.Sides.{follows, runs}
use Rattle.mesh_base.specs.Changes.{with_face, without_face}
use Rattle.edit_base.specs.Edges.{corners_from, with_faces}
use Rattle.mesh_base.proofs.Counts.{runs-with_face}
use Rattle.edit_base.proofs.Arcs.{three_arcs, round}

-- each live face is below the next id
abbrev pub AreBelow : Mesh → Type 0
AreBelow m = (f : ℕ) → IsLiveFace m f → f < m.next_face

pub not_live : (m : Mesh) → AreBelow m → finite.get m.faces m.next_face ≡ None
not_live m below = by_answer (finite.get m.faces m.next_face) refl
  where
    by_answer : (o : Option Corners) → finite.get m.faces m.next_face ≡ o → o ≡ None
    by_answer (Some c) e = let h : m.next_face < m.next_face = below m.next_face (ap is_some e) in absurd (omega arith)
    by_answer None e = refl

pub below-without : (m : Mesh) (g : ℕ) → AreBelow m → AreBelow (without_face m g)
below-without m g below f live = below f (was (eq_by_cmp nat_cmp f g) (subst IsSome (get-remove nat_cmp_total m.faces g f) live))
  where
    was : (b : Bool) → IsSome (cond b None (finite.get m.faces f)) → IsSome (finite.get m.faces f)
    was true h = absurd (false≢true h)
    was false h = h

pub below-with : (m : Mesh) (c : Corners) → AreBelow m → AreBelow (with_face m c)
below-with m c below f live = by_test (eq_by_cmp nat_cmp f m.next_face) refl (subst IsSome (get-insert nat_cmp_total m.faces m.next_face c f) live)
  where
    by_test : (b : Bool) → eq_by_cmp nat_cmp f m.next_face ≡ b → IsSome (cond b (Some c) (finite.get m.faces f)) → f < m.next_face + 1
    by_test true e h = let same : f ≡ m.next_face = eqb-true f m.next_face (sym (unsigned_tied f m.next_face) ∙ e) in omega arith
    by_test false e h = let old : f < m.next_face = below f h in omega arith

-- how often v follows u in the corners
abbrev pub flow : List Corners → ℕ → ℕ → ℕ
flow [] u v = 0
flow (c ∷ cs) u v = cond (follows c u v) 1 0 + flow cs u v

pub runs-with_faces : (m : Mesh) (cs : List Corners) (u v : ℕ) → AreBelow m → runs (with_faces m cs) u v ≡ runs m u v + flow cs u v
runs-with_faces m [] u v below = omega arith
runs-with_faces m (c ∷ cs) u v below =
    let rest = runs-with_faces (with_face m c) cs u v (below-with m c below) in
    let one = runs-with_face m c u v (not_live m below) in
    omega (arith, rest, one)

pub still_there : (m : Mesh) (f g : ℕ) (c : Corners) → f ≢ g → HasCorners m g c → HasCorners (without_face m f) g c
still_there m f g c apart h = get-remove nat_cmp_total m.faces f g ∙ ap (λ b. cond b None (finite.get m.faces g)) (unsigned_tied g f ∙ false_from_ne_true (g == f) (λ e. apart (sym (eqb-true g f e)))) ∙ h

pub below_next : (m : Mesh) → IsSound m → AreBelow m
below_next m sound f live = (sound.is_mesh.face_ids f live).1

-- ---- a face that is made
pub less_apart : (x y : ℕ) → x < y → x ≢ y
less_apart x y h e = omega arith

pub more_apart : (x y : ℕ) → x < y → y ≢ x
more_apart x y h e = omega arith

pub new_round : (a b c u v : ℕ) → a ≢ b → b ≢ c → c ≢ a → cond (follows (corners_from a b c) u v) 1 0 ≡ round a b c u v
new_round a b c u v ab bc ca = three_arcs (corners_from a b c) u v (record { first_second = ab; second_third = bc; third_first = ca })
