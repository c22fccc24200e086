-- The ways on what an edit is tested are within the sizes.
use Rattle.std.proofs.Common.{ℕ, ◌≤◌, ℤ, pos, ◌+ℤ◌, ◌*ℤ◌, unsigned_abs, List, [], ◌∷◌, Option, Some, None, sym, subst, arith}
use Rattle.std.specs.Prelude.{IfSome}
use Rattle.std.specs.FinMap as finite
use Rattle.std.proofs.lemmas.Int.{ints, unsigned_abs-mul}
use Rattle.std.proofs.lemmas.List.Elements.{All-from_recursion, All-weaker}
use Rattle.grid_base.specs.declared.Point.{Point}
use Rattle.grid_base.specs.declared.TheConstants.{BOX, HALF_MAX}
use Rattle.grid_base.specs.Points.{position_of}
use Rattle.grid_base.specs.Triples.{IsWithin, times}
use Rattle.mesh_base.specs.Mesh.{Mesh}
use Rattle.mesh_base.specs.Placements.{position_or_origin, rest_positions, rest_positions_doubled}
use Rattle.edit_base.specs.declared.Change.{Change}
use Rattle.edit_base.specs.declared.Change.TheVariants.{Split, Flip, Collapse, Zip, Pinch}
use Rattle.edit_base.specs.declared.Move.{Move}
use Rattle.edit_base.specs.Edges.{edge_of, exact_mid}
use Rattle.edit_base.specs.Scaffold.{Scaffold, move_from_rest}
use Rattle.edit_check.specs.Untouched.{MoveFits}
use Rattle.edit_split.specs.Split.{split_point, split_scaffold}
use Rattle.edit_flip.specs.Flip.{flip_scaffold}
use Rattle.edit_pinch.specs.Pinch.{first_point, later_copies, pinch_scaffold}
use Rattle.edit_pinch.proofs.Scaffolded.{moves_fit}
use Rattle.edit_any.specs.Dispatch.{scaffold_of}
use Rattle.motion_proof.specs.declared.Claim.{Claim}
use Rattle.motion_proof.specs.Acceptance.{IsWay, AreWays}
use Rattle.edit_scaffold.specs.Made.{IsTestedOn}

-- ---- places
twice : (a : ℤ) → unsigned_abs a ≤ BOX → unsigned_abs (pos 2 *ℤ a) ≤ HALF_MAX
twice a h = let e = unsigned_abs-mul (pos 2) a in omega (arith, e, h)

sum : (a b : ℤ) → unsigned_abs a ≤ BOX → unsigned_abs b ≤ BOX → unsigned_abs (a +ℤ b) ≤ HALF_MAX
sum a b h i = omega (arith, ints)

point_fits : (p : Point) → IsWithin HALF_MAX (times 2 (position_of p))
point_fits p = record { x_fits = twice p.x p.in_box.x_fits; y_fits = twice p.y p.in_box.y_fits; z_fits = twice p.z p.in_box.z_fits }

rest_small : (m : Mesh) (v : ℕ) → IsWithin BOX (rest_positions m v)
rest_small m v = by_point (finite.get m.points v)
  where
    by_point : (o : Option Point) → IsWithin BOX (position_or_origin o)
    by_point (Some p) = record { x_fits = p.in_box.x_fits; y_fits = p.in_box.y_fits; z_fits = p.in_box.z_fits }
    by_point None = record { x_fits = omega arith; y_fits = omega arith; z_fits = omega arith }

rest_fits : (m : Mesh) (v : ℕ) → IsWithin HALF_MAX (rest_positions_doubled m v)
rest_fits m v =
    let at = rest_positions m v in
    let few = rest_small m v in
    record { x_fits = twice at.x few.x_fits; y_fits = twice at.y few.y_fits; z_fits = twice at.z few.z_fits }

mid_fits : (m : Mesh) (u v : ℕ) → IsWithin HALF_MAX (exact_mid m u v)
mid_fits m u v =
    let one = rest_positions m u in
    let other = rest_positions m v in
    let h = rest_small m u in
    let i = rest_small m v in
    record { x_fits = sum one.x other.x h.x_fits i.x_fits; y_fits = sum one.y other.y h.y_fits i.y_fits; z_fits = sum one.z other.z h.z_fits i.z_fits }

-- ---- ways
pub ways_fit : (m : Mesh) (change : Change) → IfSome (scaffold_of m change) (λ s. AreWays s.moves)
ways_fit m (Split a b w at) = let e = edge_of m a b in All-from_recursion IsWay (split_scaffold m e).moves (record { start = mid_fits m e.a e.b; end = point_fits (split_point m e) }, tt)
ways_fit m (Flip a b) = let e = edge_of m a b in All-from_recursion IsWay (flip_scaffold m e).moves (record { start = mid_fits m e.a e.b; end = mid_fits m e.c e.d }, tt)
ways_fit m (Collapse a b at) =
    let end = times 2 (position_of at) in
    All-from_recursion IsWay (move_from_rest m a end ∷ move_from_rest m b end ∷ [])
    (record { start = rest_fits m a; end = point_fits at }, (record { start = rest_fits m b; end = point_fits at }, tt))
ways_fit m (Zip a b e f turn) = tt
ways_fit m (Pinch v at copies) =
    All-weaker MoveFits IsWay (λ move h. record { start = h.start; end = h.end }) (pinch_scaffold m v).moves
    (moves_fit (rest_positions_doubled m v) v (first_point m v) (later_copies m v) (rest_fits m v))

-- and so are the ways that are laid
pub laid_ways_fit : (m n : Mesh) (change : Change) (moves : List Move) (when : Claim) → IsTestedOn (scaffold_of m change) n moves when → AreWays moves
laid_ways_fit m n change moves when is = by_scaffold (scaffold_of m change) (ways_fit m change) is
  where
    by_scaffold : (o : Option Scaffold) → IfSome o (λ s. AreWays s.moves) → IsTestedOn o n moves when → AreWays moves
    by_scaffold None h is = absurd is
    by_scaffold (Some s) h is = subst AreWays (sym is.ways) h
