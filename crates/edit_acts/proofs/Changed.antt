-- A mesh of which faces are dropped and others made, where no two are equal in the end.
use Rattle.std.proofs.Common.{◌≡◌, ℕ, ◌+◌, ◌<◌, ◌≤◌, true, false, List, [], ◌∷◌, is_some, refl, subst, sym, ⊎_elim, arith}
use Rattle.std.specs.List.{AllByRecursion}
use Rattle.std.specs.FinMap as finite
use Rattle.mesh_base.specs.declared.ids.Corners.{Corners}
use Rattle.mesh_base.specs.Mesh.{Mesh, IsMesh, IsLiveFace, HasCorners}
use Rattle.mesh_base.specs.Changes.{with_face, without_face}
use Rattle.mesh_base.proofs.Finite.{got_after_insert, live_after_insert}
use Rattle.edit_base.specs.Edges.{with_faces, without_faces, doubles_a_face}
use Rattle.edit_acts.proofs.Sound.{mesh-without_face}
use Rattle.edit_acts.proofs.Undoubled.{undoubled}
use Rattle.edit_acts.specs.Making.{MayBeMade}

-- the laws of a mesh are kept where faces are dropped
pub mesh-without_faces : (m : Mesh) (fs : List ℕ) → IsMesh m → IsMesh (without_faces m fs)
mesh-without_faces m [] s = s
mesh-without_faces m (f ∷ fs) s = mesh-without_faces (without_face m f) fs (mesh-without_face m f s)

pub points-without_faces : (m : Mesh) (fs : List ℕ) → (without_faces m fs).points ≡ m.points
points-without_faces m [] = refl
points-without_faces m (f ∷ fs) = points-without_faces (without_face m f) fs

pub next_face-without_faces : (m : Mesh) (fs : List ℕ) → (without_faces m fs).next_face ≡ m.next_face
next_face-without_faces m [] = refl
next_face-without_faces m (f ∷ fs) = next_face-without_faces (without_face m f) fs

pub points-with_faces : (m : Mesh) (cs : List Corners) → (with_faces m cs).points ≡ m.points
points-with_faces m [] = refl
points-with_faces m (c ∷ cs) = points-with_faces (with_face m c) cs

pub solid-without_faces : (m : Mesh) (fs : List ℕ) → (without_faces m fs).solid ≡ m.solid
solid-without_faces m [] = refl
solid-without_faces m (f ∷ fs) = solid-without_faces (without_face m f) fs

pub solid-with_faces : (m : Mesh) (cs : List Corners) → (with_faces m cs).solid ≡ m.solid
solid-with_faces m [] = refl
solid-with_faces m (c ∷ cs) = solid-with_faces (with_face m c) cs

pub next_vertex-with_faces : (m : Mesh) (cs : List Corners) → (with_faces m cs).next_vertex ≡ m.next_vertex
next_vertex-with_faces m [] = refl
next_vertex-with_faces m (c ∷ cs) = next_vertex-with_faces (with_face m c) cs

-- what holds of each face, and of each that is made, holds of each face after
pub each_face : (P : Corners → Type 0) (m : Mesh) (cs : List Corners) → ((f : ℕ) (c : Corners) → HasCorners m f c → P c) → AllByRecursion P cs → (f : ℕ) (c : Corners) → HasCorners (with_faces m cs) f c → P c
each_face P m [] old new f c h = old f c h
each_face P m (k ∷ ks) old new f c h =
    each_face P (with_face m k) ks (λ g d there. ⊎_elim (λ e. subst P e.1 new.0) (λ was. old g d was) (got_after_insert m.faces m.next_face k g d there)) new.1 f c h

-- the ids of faces
ids_kept : (m : Mesh) (cs : List Corners) → 1 ≤ m.next_face → ((f : ℕ) → IsLiveFace m f → (1 ≤ f) × (f < m.next_face)) → (f : ℕ) → IsLiveFace (with_faces m cs) f → (1 ≤ f) × (f < (with_faces m cs).next_face)
ids_kept m [] first old f live = old f live
ids_kept m (c ∷ cs) first old f live = ids_kept (with_face m c) cs (let h : 1 ≤ m.next_face + 1 = omega arith in h)
    (λ g there. ⊎_elim (λ e. let h : (1 ≤ g) × (g < m.next_face + 1) = (omega arith, omega arith) in h) (λ was. let b = old g was in let h : (1 ≤ g) × (g < m.next_face + 1) = (omega arith, omega arith) in h) (live_after_insert m.faces m.next_face c g there)) f live

pub mesh-with_many : (m : Mesh) (cs : List Corners) → IsMesh m → 1 ≤ m.next_face → AllByRecursion (MayBeMade m) cs → doubles_a_face (with_faces m cs) ≡ false → IsMesh (with_faces m cs)
mesh-with_many m cs s first may none = record {
  vertex_ids = λ v live. subst (λ n. (1 ≤ v) × (v < n)) (sym (next_vertex-with_faces m cs)) (s.vertex_ids v (subst (λ ps. is_some (finite.get ps v) ≡ true) (points-with_faces m cs) live));
  face_ids = ids_kept m cs first s.face_ids;
  solid_ids = λ v solid. subst (λ ps. is_some (finite.get ps v) ≡ true) (sym (points-with_faces m cs)) (s.solid_ids v (subst (λ marks. is_some (finite.get marks v) ≡ true) (solid-with_faces m cs) solid));
  live_corners = λ f c h. subst (λ ps. is_some (finite.get ps c.first) ≡ true × is_some (finite.get ps c.second) ≡ true × is_some (finite.get ps c.third) ≡ true) (sym (points-with_faces m cs)) (all f c h).0;
  different_corners = λ f c h. (all f c h).1;
  different_faces = λ f g c d h k same. undoubled (with_faces m cs) none f g c d h k same;
}
  where
    all : (f : ℕ) (c : Corners) → HasCorners (with_faces m cs) f c → MayBeMade m c
    all = each_face (MayBeMade m) m cs (λ f c h. (s.live_corners f c h, s.different_corners f c h)) may
