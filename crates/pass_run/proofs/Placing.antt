-- Lists of the places of vertices.
use Rattle.std.proofs.Common.{◌≡◌, ◌≢◌, ⊎_elim, inl, inr, ◌⊎◌, ℕ, zero, suc, ◌+◌, ◌*◌, ◌<◌, ◌≤◌, ℤ, pos, ◌+ℤ◌, ◌-ℤ◌, unsigned_abs, to_z, of_z, SFits, Bool, true, false, ◌&&◌, nat_lt, List, [], ◌∷◌, ◌++◌, length, Option, Some, None, is_some, refl, ap, sym, subst, ◌∙◌, arith}
use Rattle.std.specs.Prelude.{slice_get, slice_set}
use Rattle.std.proofs.lemmas.Bool.Decides.{nat_tests}
use Rattle.std.specs.Int.{w32}
use Rattle.std.proofs.lemmas.Int.{ints, to_z-of_z}
use Rattle.std.specs.FinMap as finite
use Rattle.grid_base.specs.declared.TheConstants.{BOX}
use Rattle.grid_base.specs.declared.Point.{Point}
use Rattle.grid_base.specs.Points.{position_of, point_at}
use Rattle.grid_base.specs.Triples.{Triple, minus}
use Rattle.grid_base.proofs.PointLaws.{point_at-position_of}
use Rattle.mesh_base.specs.Mesh.{Mesh, IsSound, IsLiveVertex}
use Rattle.mesh_base.specs.Pairs.{is_edge}
use Rattle.mesh_base.specs.Sides.{runs}
use Rattle.mesh_base.specs.Placements.{point_of, rest_positions, position_or_origin}
use Rattle.mesh_base.proofs.Listed.{edge_live}
use Rattle.edit_zip.specs.Zip.{square}
use Rattle.pass_run.specs.Candidates.{length_squared}
use Rattle.pass_run.specs.Places.{Stands, IsPlaced}
use Rattle.pass_run.proofs.Squares.{square_is}

-- ---- lists
the_same : {X : Type 0} (x y : X) → Some x ≡ Some y → x ≡ y
the_same x y e = cc

-- what a list has after a push
got_pushed : {X : Type 0} (xs : List X) (x : X) (i : ℕ) (q : X) → slice_get (xs ++ x ∷ []) i ≡ Some q → (slice_get xs i ≡ Some q) ⊎ ((i ≡ length xs) × (q ≡ x))
got_pushed [] x zero q e = inr (refl, sym (the_same x q e))
got_pushed [] x (suc i) q e = absurd cc
got_pushed (y ∷ ys) x zero q e = inl e
got_pushed (y ∷ ys) x (suc i) q e = ⊎_elim (λ h. inl h) (λ h. inr (ap suc h.0, h.1)) (got_pushed ys x i q e)

-- and after a write
got_set : {X : Type 0} (xs : List X) (k : ℕ) (x : X) (i : ℕ) (q : X) → slice_get (slice_set xs k x) i ≡ Some q → ((i ≢ k) × (slice_get xs i ≡ Some q)) ⊎ ((i ≡ k) × (q ≡ x))
got_set [] k x i q e = absurd cc
got_set (y ∷ ys) zero x zero q e = inr (refl, sym (the_same x q e))
got_set (y ∷ ys) zero x (suc i) q e = inl ((λ h. omega (arith, h)), e)
got_set (y ∷ ys) (suc k) x zero q e = inl ((λ h. omega (arith, h)), e)
got_set (y ∷ ys) (suc k) x (suc i) q e = ⊎_elim (λ h. inl ((λ same. h.0 (one_less i k same)), h.1)) (λ h. inr (ap suc h.0, h.1)) (got_set ys k x i q e)
  where
    one_less : (i k : ℕ) → suc i ≡ suc k → i ≡ k
    one_less i k same = omega (arith, same)

-- what is there stands before the end
pub got_inside : {X : Type 0} (xs : List X) (i : ℕ) (q : X) → slice_get xs i ≡ Some q → i < length xs
got_inside [] i q e = absurd cc
got_inside (y ∷ ys) zero q e = omega arith
got_inside (y ∷ ys) (suc i) q e = let h = got_inside ys i q e in omega (arith, h)

-- ---- places
module _ (m : Mesh) where
  -- a vertex stands at its point
  pub stands_at_point : (v : ℕ) → Stands m v (point_of m v)
  stands_at_point v p e = ap (λ o. point_at (position_or_origin o)) e ∙ point_at-position_of p

  -- a vertex more
  pub placed_pushed : (places : List Point) (p : Point) (last : ℕ) → length places ≡ last → p ≡ point_of m last → ((v : ℕ) → IsPlaced m places v) → (v : ℕ) → IsPlaced m (places ++ p ∷ []) v
  placed_pushed places p last long at placed v q e = ⊎_elim (placed v q)
      (λ h. subst (Stands m v) (sym (h.1 ∙ at ∙ ap (point_of m) (sym (h.0 ∙ long)))) (stands_at_point v))
      (got_pushed places p v q e)

  -- a vertex again
  pub placed_set : (places : List Point) (k : ℕ) (p : Point) → p ≡ point_of m k → (u : ℕ) → (u ≢ k → IsPlaced m places u) → IsPlaced m (slice_set places k p) u
  placed_set places k p at u placed q e = ⊎_elim (λ h. placed h.0 q h.1)
      (λ h. subst (Stands m u) (sym (h.1 ∙ at ∙ ap (point_of m) (sym h.0))) (stands_at_point u))
      (got_set places k p u q e)

  -- the list has no such vertex
  pub placed_beyond : (places : List Point) (k : ℕ) → length places ≤ k → (u : ℕ) → (u ≢ k → IsPlaced m places u) → IsPlaced m places u
  placed_beyond places k beyond u placed q e = placed (λ same. let inside = got_inside places u q e in omega (arith, inside, beyond, same)) q e

  -- where a live vertex stands
  position : (v : ℕ) (q : Point) → IsLiveVertex m v → Stands m v q → position_of q ≡ rest_positions m v
  position v q live stands = by_answer (finite.get m.points v) refl live
    where
      by_answer : (o : Option Point) → finite.get m.points v ≡ o → is_some o ≡ true → position_of q ≡ position_or_origin o
      by_answer (Some p) e h = ap position_of (stands p e)
      by_answer None e h = absurd cc

  -- the length of an edge
  pub edge_length : (u v : ℕ) (p q : Point) → IsSound m → Stands m u p → Stands m v q → is_edge m u v ≡ true → square (minus (position_of p) (position_of q)) ≡ length_squared m u v
  edge_length u v p q sound first second edge =
      let live = edge_live m u v sound (above_zero (runs m u v + runs m v u) edge) in
      ap (λ t. square (minus t (position_of q))) (position u p live.0 first) ∙ ap (λ t. square (minus (rest_positions m u) t)) (position v q live.1 second)
    where
      above_zero : (n : ℕ) → nat_lt 0 n ≡ true → 0 < n
      above_zero n e = grind (arith, nat_tests)

-- ---- squares
read_exactly : (a : ℤ) → unsigned_abs a ≤ BOX → to_z w32 (of_z w32 a) ≡ a
read_exactly a h = to_z-of_z w32 a (fits a h)
  where
    fits : (a : ℤ) → unsigned_abs a ≤ BOX → SFits w32 a
    fits a h = omega (arith, ints)

-- that of the distance of two coordinates, which are read
abbrev pub square_apart : ℤ → ℤ → ℕ
square_apart a b = unsigned_abs (a -ℤ b) * unsigned_abs (a -ℤ b)

pub square_read : (a b : ℤ) (n : ℕ) → unsigned_abs a ≤ BOX → unsigned_abs b ≤ BOX → n ≡ square_apart (to_z w32 (of_z w32 a)) (to_z w32 (of_z w32 b)) → n ≡ square_apart a b
square_read a b n first second e = e ∙ (λ i. square_apart (read_exactly a first i) (read_exactly b second i))

-- that of the distance of two points
pub square_by_axes : (p q : Point) (x y z : ℕ) → x ≡ square_apart p.x q.x → y ≡ square_apart p.y q.y → z ≡ square_apart p.z q.z → pos (x + y + z) ≡ square (minus (position_of p) (position_of q))
square_by_axes p q x y z a b c =
    let t : Triple = minus (position_of p) (position_of q) in
    (λ i. pos (a i + b i + c i))
    ∙ sym (λ i. square_is t.x i +ℤ square_is t.y i +ℤ square_is t.z i)

-- ---- what is not due
pub not_both : (a b : Bool) (t : Bool) → (a ≡ true → b ≡ t) → t ≡ false → (a && b) ≡ false
not_both true b t h e = h refl ∙ e
not_both false b t h e = refl
