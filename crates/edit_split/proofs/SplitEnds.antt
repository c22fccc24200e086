-- Where the vertices of a split stand, at the end of its motion and after it.
use Rattle.std.proofs.Common.{◌≡◌, ℕ, Bool, true, false, cond, ◌==◌, Some, None, refl, sym, ap, subst, ◌∙◌, arith}
use Rattle.std.proofs.lemmas.Bool.Decides.{nat_tests}
use Rattle.std.specs.Option.{option_map, unwrap_or}
use Rattle.std.specs.Ordering.{nat_cmp, eq_by_cmp}
use Rattle.std.specs.Cmp.{nat_cmp_total, unsigned_tied}
use Rattle.std.specs.FinMap as finite
use Rattle.std.specs.FinMap.{get-insert}
use Rattle.grid_base.specs.declared.Point.{Point}
use Rattle.grid_base.specs.Triples.{plus, times}
use Rattle.grid_base.specs.Points.{position_of}
use Rattle.edit_base.specs.declared.scaffold.Move.{Move}
use Rattle.mesh_base.specs.Mesh.{Mesh}
use Rattle.mesh_base.specs.Placements.{IsClearMesh, IsClearAlong, rest_positions, rest_positions_doubled, position_or_origin}
use Rattle.edit_base.specs.Scaffold.{motion_of}
use Rattle.edit_base.specs.Edges.{Edge}
use Rattle.edit_split.specs.Split.{split_mesh, split_point, split_scaffold}
use Rattle.edit_base.proofs.Ends.{clear_after_along, clear_where_it_ends}

pub new_point : (m : Mesh) (s : Edge) (at : Point) (v : ℕ) → rest_positions (split_mesh m s at) v ≡ cond (m.next_vertex == v) (position_of at) (rest_positions m v)
new_point m s at v = ap position_or_origin (get-insert nat_cmp_total m.points m.next_vertex at v) ∙ by_test (eq_by_cmp nat_cmp v m.next_vertex) (m.next_vertex == v) (unsigned_tied v m.next_vertex ∙ turned v m.next_vertex)
  where
    turned : (x y : ℕ) → (x == y) ≡ (y == x)
    turned x y = grind (arith, nat_tests)

    by_test : (a b : Bool) → a ≡ b → position_or_origin (cond a (Some at) (finite.get m.points v)) ≡ cond b (position_of at) (position_or_origin (finite.get m.points v))
    by_test a b e = subst (λ c. position_or_origin (cond a (Some at) (finite.get m.points v)) ≡ cond c (position_of at) (position_or_origin (finite.get m.points v))) e (same a)
      where
        same : (a : Bool) → position_or_origin (cond a (Some at) (finite.get m.points v)) ≡ cond a (position_of at) (position_or_origin (finite.get m.points v))
        same true = refl
        same false = refl

abbrev split_move : Mesh → Edge → Move
split_move m s = record { v = m.next_vertex; start = plus (rest_positions m s.a) (rest_positions m s.b); end = times 2 (position_of (split_point m s)) }

split_ends : (m : Mesh) (s : Edge) (v : ℕ) → (motion_of (split_scaffold m s)).end v ≡ rest_positions_doubled (split_mesh m s (split_point m s)) v
split_ends m s v = by_test (m.next_vertex == v) refl
  where
    by_test : (b : Bool) → (m.next_vertex == v) ≡ b → unwrap_or (option_map (λ (mv : Move). mv.end) (cond (m.next_vertex == v) (Some (split_move m s)) None)) (rest_positions_doubled (split_mesh m s (split_point m s)) v) ≡ rest_positions_doubled (split_mesh m s (split_point m s)) v
    by_test true e =
        ap (λ c. unwrap_or (option_map (λ (mv : Move). mv.end) (cond c (Some (split_move m s)) None)) (rest_positions_doubled (split_mesh m s (split_point m s)) v)) e
        ∙ sym (ap (λ t. times 2 t) (new_point m s (split_point m s) v ∙ ap (λ c. cond c (position_of (split_point m s)) (rest_positions m v)) e))
    by_test false e = ap (λ c. unwrap_or (option_map (λ (mv : Move). mv.end) (cond c (Some (split_move m s)) None)) (rest_positions_doubled (split_mesh m s (split_point m s)) v)) e

-- a split whose motion is clear leaves a clear mesh
pub split_is_clear : (m : Mesh) (s : Edge) → IsClearAlong (split_scaffold m s).mesh (motion_of (split_scaffold m s)) → IsClearMesh (split_mesh m s (split_point m s))
split_is_clear m s clear =
    let w = motion_of (split_scaffold m s) in
    let done = split_mesh m s (split_point m s) in
    clear_where_it_ends done w (split_ends m s) (clear_after_along done w clear)
