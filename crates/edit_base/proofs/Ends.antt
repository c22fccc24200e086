-- A mesh that is clear up to the end of a motion is clear where its vertices then stand.
use Rattle.std.proofs.Common.{◌≡◌, ℕ, ◌<◌, ◌≤◌, ℤ, pos, ◌+ℤ◌, ◌*ℤ◌, [], ◌∷◌, refl, sym, subst, arith}
use Rattle.grid_base.specs.Triples.{Triple}
use Rattle.grid_base.specs.Meeting.{MeetAt}
use Rattle.grid_base.specs.Motion.{position_at}
use Rattle.grid_base.proofs.Polynomials.{var, num, add, mul, same_polynomial}
use Rattle.grid_base.proofs.MeetingLaws.{same_triple, Meets-multiple}
use Rattle.mesh_base.specs.Mesh.{Mesh}
use Rattle.mesh_base.specs.Pairs.{Pair}
use Rattle.mesh_base.specs.Placements.{Motion, positions, at_fraction, IsClear, IsClearMesh, IsClearAlong, IsClearAfter, rest_positions, rest_positions_doubled}

all_of_it : (x y : ℤ) → pos 0 *ℤ x +ℤ pos 1 *ℤ y ≡ y
all_of_it x y = same_polynomial (x ∷ y ∷ []) (add (mul (num (pos 0)) (var 0)) (mul (num (pos 1)) (var 1))) (var 1) refl

-- the whole way leads to the end
at_end : (s t : Triple) → position_at 1 1 s t ≡ t
at_end s t = same_triple _ _ (all_of_it s.x t.x) (all_of_it s.y t.y) (all_of_it s.z t.z)

places_at_end : (w : Motion) (p : Pair) → positions (at_fraction 1 1 w) p ≡ positions w.end p
places_at_end w p = λ i. record {
  a = at_end (w.start p.name.a) (w.end p.name.a) i;
  b = at_end (w.start p.name.b) (w.end p.name.b) i;
  c = at_end (w.start p.corners.first) (w.end p.corners.first) i;
  d = at_end (w.start p.corners.second) (w.end p.corners.second) i;
  e = at_end (w.start p.corners.third) (w.end p.corners.third) i;
}

pub clear_at_end : (m : Mesh) (w : Motion) → IsClearAfter m w → IsClear m w.end
clear_at_end m w clear p is_pair meet = clear 1 1 (omega arith) (omega arith) p is_pair (subst MeetAt (sym (places_at_end w p)) meet)

pub clear_after_along : (m : Mesh) (w : Motion) → IsClearAlong m w → IsClearAfter m w
clear_after_along m w clear p q some within = clear p q (below some within) within
  where
    below : {p q : ℕ} → 0 < p → p ≤ q → 0 < q
    below h k = omega arith

-- half units or whole ones: the mesh is clear alike
pub clear_undoubled : (m : Mesh) → IsClear m (rest_positions_doubled m) → IsClearMesh m
clear_undoubled m clear p is_pair meet = clear p is_pair (Meets-multiple 2 (positions (rest_positions m) p) meet)

-- where the ends of a motion are the mesh's own points, it is clear
pub clear_where_it_ends : (m : Mesh) (w : Motion) → ((v : ℕ) → w.end v ≡ rest_positions_doubled m v) → IsClearAfter m w → IsClearMesh m
clear_where_it_ends m w same clear = clear_undoubled m (λ p is_pair meet. clear_at_end m w clear p is_pair (subst MeetAt (sym (alike p)) meet))
  where
    alike : (p : Pair) → positions w.end p ≡ positions (rest_positions_doubled m) p
    alike p = λ i. record { a = same p.name.a i; b = same p.name.b i; c = same p.corners.first i; d = same p.corners.second i; e = same p.corners.third i }
