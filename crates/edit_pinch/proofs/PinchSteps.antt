-- A pinch, one change after another: each face may be dropped and made again when its turn comes.
use Rattle.std.proofs.Common.{◌≡◌, ℕ, ◌+◌, ◌≤◌, ◌==◌, false, List, [], ◌∷◌, drop, ⊎_elim, sym, ap, subst, arith}
use Rattle.std.proofs.lemmas.Bool.{false≢true}
use Rattle.std.specs.List.{AllByRecursion}
use Rattle.grid_base.specs.declared.Point.{Point}
use Rattle.mesh_base.specs.Mesh.{Mesh, IsMesh, IsSound, IsLiveVertex, HasCorners}
use Rattle.mesh_base.specs.Sides.{IsClosed}
use Rattle.mesh_base.specs.Changes.{without_face, with_face, with_vertex, with_point, IsFresh}
use Rattle.mesh_base.proofs.Finite.{live_inserted}
use Rattle.mesh_base.proofs.MeshLaws.{sound-with_point}
use Rattle.mesh_base.proofs.Tests.{or_first, or_second, or_either}
use Rattle.edit_base.specs.Edges.{corners_at, renamed, with_renamed}
use Rattle.edit_pinch.specs.Pinch.{fans}
use Rattle.edit_acts.proofs.Sound.{mesh-with_vertex}
use Rattle.edit_base.proofs.Chains.{Has}
use Rattle.edit_pinch.proofs.FansApart.{Differ, AreApart}
use Rattle.edit_pinch.proofs.FanBalance.{IsFan, corners_there}
use Rattle.edit_pinch.proofs.CopyClosed.{IsWithout, AreThere, others_there, fans_stay, fan_without, later_fans, later_apart, later_there}
use Rattle.edit_pinch.proofs.CopySound.{StayApart, apart_at_first, one_apart, one_mesh, made_fresh, IsWell}

-- before a fan's copy is made: the mesh so far, and the fans to come
pub record IsBeforeFan (m : Mesh) (v : ℕ) (n : Mesh) (others : List (List ℕ)) : Type 0 where
  pub well : IsWell n
  pub grown : m.next_vertex ≤ n.next_vertex
  pub are_fans : AllByRecursion (IsFan m v) others
  pub apart : AreApart others
  pub there : AllByRecursion (AreThere (corners_at m) n) others

-- after its copy w is made, with these of its faces to come
pub record IsInFan (m : Mesh) (v w : ℕ) (n : Mesh) (faces : List ℕ) (others : List (List ℕ)) : Type 0 where
  pub well : IsWell n
  pub grown : m.next_vertex ≤ n.next_vertex
  pub stay_apart : StayApart v w n
  pub copy_live : IsLiveVertex n w
  pub differ : Differ faces
  pub faces_there : AreThere (corners_at m) n faces
  pub without : AllByRecursion (λ f. IsWithout w (corners_at m f)) faces
  pub are_fans : AllByRecursion (IsFan m v) others
  pub apart : AreApart others
  pub there : AllByRecursion (AreThere (corners_at m) n) others
  pub not_theirs : AllByRecursion (λ d. (f : ℕ) → Has faces f → Has d f → ⊥) others

-- at first
pub first_fan : (m : Mesh) (v : ℕ) (at : Point) → IsSound m → IsClosed m → IsLiveVertex m v → IsBeforeFan m v (with_point m v at) (drop 1 (fans m v))
first_fan m v at sound closed live =
    let moved = sound-with_point m v at sound live in
    record {
      well = record { is_mesh = moved.is_mesh; some_vertex = moved.limits.vertex_ids.0; some_face = moved.limits.face_ids.0 };
      grown = omega arith;
      are_fans = later_fans m v closed;
      apart = later_apart m v;
      there = later_there m v closed;
    }

-- the copy is made
pub copy_made : (m : Mesh) (v : ℕ) (n : Mesh) (fan : List ℕ) (others : List (List ℕ)) (p : Point) → IsMesh m → IsBeforeFan m v n (fan ∷ others) → IsInFan m v n.next_vertex (with_vertex n p) fan others
copy_made m v n fan others p mesh h = record {
  well = record {
    is_mesh = mesh-with_vertex n p h.well.is_mesh h.well.some_vertex;
    some_vertex = let k : 1 ≤ n.next_vertex + 1 = omega arith in k;
    some_face = h.well.some_face;
  };
  grown = let g = h.grown in let k : m.next_vertex ≤ n.next_vertex + 1 = omega (arith, g) in k;
  stay_apart = apart_at_first v n.next_vertex n h.well.is_mesh (omega arith);
  copy_live = live_inserted n.points n.next_vertex p;
  differ = (h.are_fans.0).differ;
  faces_there = h.there.0;
  without = fan_without m v n.next_vertex fan mesh h.grown h.are_fans.0;
  are_fans = h.are_fans.1;
  apart = h.apart.1;
  there = h.there.1;
  not_theirs = h.apart.0;
}

module _ (m : Mesh) (v w : ℕ) (n : Mesh) (f : ℕ) (faces : List ℕ) (others : List (List ℕ)) (h : IsInFan m v w n (f ∷ faces) others) where
  there_now : HasCorners n f (corners_at m f)
  there_now = h.faces_there.0

  -- its corners are those of the old mesh
  pub same_now : corners_at n f ≡ corners_at m f
  same_now = corners_there n f (corners_at m f) there_now

  -- the next face, once it is dropped, may be made again
  pub next_fresh : IsFresh (without_face n f) (renamed v w (corners_at n f))
  next_fresh = subst (λ c. IsFresh (without_face n f) (renamed v w c)) (sym same_now)
      (made_fresh v w n f (corners_at m f) h.well.is_mesh h.stay_apart there_now h.without.0 h.copy_live)

  same_mesh : with_face (without_face n f) (renamed v w (corners_at m f)) ≡ with_renamed v w n f
  same_mesh = ap (λ c. with_face (without_face n f) (renamed v w c)) (sym same_now)

  -- and then the next one's turn has come
  pub next_made : IsInFan m v w (with_renamed v w n f) faces others
  next_made = record {
    well = record {
      is_mesh = subst IsMesh same_mesh (one_mesh v w n f (corners_at m f) h.well.is_mesh h.stay_apart there_now h.without.0 h.copy_live h.well.some_face);
      some_vertex = h.well.some_vertex;
      some_face = let k : 1 ≤ n.next_face + 1 = omega arith in k;
    };
    grown = h.grown;
    stay_apart = subst (StayApart v w) same_mesh (one_apart v w n f (corners_at m f) h.well.is_mesh h.stay_apart there_now h.without.0);
    copy_live = h.copy_live;
    differ = h.differ.1;
    faces_there = others_there (corners_at m) v w n f faces (λ g live. (h.well.is_mesh.face_ids g live).1) h.differ.0 h.faces_there.1;
    without = h.without.1;
    are_fans = h.are_fans;
    apart = h.apart;
    there = fans_stay (corners_at m) v w n (f ∷ []) others (λ g live. (h.well.is_mesh.face_ids g live).1) (one_of others h.not_theirs) h.there;
    not_theirs = rest_of others h.not_theirs;
  }
    where
      one_of : (ds : List (List ℕ)) → AllByRecursion (λ d. (g : ℕ) → Has (f ∷ faces) g → Has d g → ⊥) ds → AllByRecursion (λ d. (g : ℕ) → Has (f ∷ []) g → Has d g → ⊥) ds
      one_of [] k = tt
      one_of (d ∷ ds) k = ((λ g one. k.0 g (⊎_elim (λ e. or_first (f == g) _ e) (λ e. absurd (false≢true e)) (or_either (f == g) false one))), one_of ds k.1)

      rest_of : (ds : List (List ℕ)) → AllByRecursion (λ d. (g : ℕ) → Has (f ∷ faces) g → Has d g → ⊥) ds → AllByRecursion (λ d. (g : ℕ) → Has faces g → Has d g → ⊥) ds
      rest_of [] k = tt
      rest_of (d ∷ ds) k = ((λ g rest. k.0 g (or_second (f == g) _ rest)), rest_of ds k.1)

-- a fan is done
pub fan_done : (m : Mesh) (v w : ℕ) (n : Mesh) (others : List (List ℕ)) → IsInFan m v w n [] others → IsBeforeFan m v n others
fan_done m v w n others h = record { well = h.well; grown = h.grown; are_fans = h.are_fans; apart = h.apart; there = h.there }
