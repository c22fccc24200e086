-- The motion by the moves of the vertices that a step asks to move is the motion of the step, in half units.
use Rattle.std.proofs.Common.{◌≡◌, ℕ, ◌==◌, Bool, true, false, cond, not, ◌||◌, [], ◌∷◌, map, ℤ, pos, Some, refl, sym, ap, ◌∙◌, arith}
use Rattle.std.proofs.lemmas.Int.{ints}
use Rattle.std.proofs.lemmas.Bool.{eqb-true}
use Rattle.std.specs.Option.{option_map, unwrap_or}
use Rattle.std.specs.Ordering.{int_eq}
use Rattle.std.specs.List.{find, filter}
use Rattle.grid_base.specs.Triples.{Triple, plus, times}
use Rattle.grid_base.specs.Points.{displacement_of}
use Rattle.grid_base.specs.Separation.{double}
use Rattle.grid_base.proofs.MeetingLaws.{same_triple}
use Rattle.grid_base.proofs.SeparationLaws.{same_five}
use Rattle.mesh_base.specs.declared.ShiftOf.{ShiftOf}
use Rattle.mesh_base.specs.Mesh.{Mesh}
use Rattle.mesh_base.specs.Pairs.{Pair}
use Rattle.mesh_base.specs.Placements.{Motion, origin, rest_positions, rest_positions_doubled, positions}
use Rattle.mesh_base.specs.Shifts.{Shifts, NameLive, moved_by}
use Rattle.mesh_base.proofs.Moves.{plus-origin}
use Rattle.mesh_base.proofs.MovesNamed.{name_once, shift_filtered}
use Rattle.edit_base.specs.declared.Move.{Move}
use Rattle.edit_base.specs.Scaffold.{move_of, motion_by}
use Rattle.step_near.specs.Few.{is_shifted}
use Rattle.step_near.specs.Moving.{move_by, moves_by}

-- ---- one vertex, by the moves of any shifts
module _ (m : Mesh) (v : ℕ) where
  -- where the vertex starts and ends, by what is found
  abbrev start_by : Shifts → Triple
  start_by shifts = unwrap_or (option_map (λ (move : Move). move.start) (move_of (map (move_by m) shifts) v)) (rest_positions_doubled m v)

  abbrev end_by : Shifts → Triple
  end_by shifts = unwrap_or (option_map (λ (move : Move). move.end) (move_of (map (move_by m) shifts) v)) (rest_positions_doubled m v)

  abbrev shifted_by : Shifts → Triple
  shifted_by shifts = plus (rest_positions m v) (unwrap_or (option_map (λ (s : ShiftOf). displacement_of s.by) (find (λ s. s.v == v) shifts)) origin)

  starts_at : (shifts : Shifts) → start_by shifts ≡ rest_positions_doubled m v
  starts_at [] = refl
  starts_at (s ∷ rest) = by_test (starts_at rest) (s.v == v) refl
    where
      by_test : start_by rest ≡ rest_positions_doubled m v → (b : Bool) → (s.v == v) ≡ b
          → unwrap_or (option_map (λ (move : Move). move.start) (cond b (Some (move_by m s)) (move_of (map (move_by m) rest) v))) (rest_positions_doubled m v) ≡ rest_positions_doubled m v
      by_test others true e = ap (rest_positions_doubled m) (eqb-true s.v v e)
      by_test others false e = others

  ends_at : (shifts : Shifts) → end_by shifts ≡ times 2 (shifted_by shifts)
  ends_at [] = ap (times 2) (sym (plus-origin (rest_positions m v)))
  ends_at (s ∷ rest) = by_test (ends_at rest) (s.v == v) refl
    where
      by_test : end_by rest ≡ times 2 (shifted_by rest) → (b : Bool) → (s.v == v) ≡ b
          → unwrap_or (option_map (λ (move : Move). move.end) (cond b (Some (move_by m s)) (move_of (map (move_by m) rest) v))) (rest_positions_doubled m v)
          ≡ times 2 (plus (rest_positions m v) (unwrap_or (option_map (λ (t : ShiftOf). displacement_of t.by) (cond b (Some s) (find (λ t. t.v == v) rest))) origin))
      by_test others true e = ap (λ u. times 2 (plus (rest_positions m u) (displacement_of s.by))) (eqb-true s.v v e)
      by_test others false e = others

-- ---- a shift that is zero
unshifted_is_none : (s : ShiftOf) → is_shifted s ≡ false → displacement_of s.by ≡ origin
unshifted_is_none s e = same_triple (displacement_of s.by) origin (each s.by.x s.by.y s.by.z e).0 (each s.by.x s.by.y s.by.z e).1 (each s.by.x s.by.y s.by.z e).2
  where
    each : (x y z : ℤ) → (not (int_eq x (pos 0)) || not (int_eq y (pos 0)) || not (int_eq z (pos 0))) ≡ false → (x ≡ pos 0) × (y ≡ pos 0) × (z ≡ pos 0)
    each x y z e = grind (arith, ints)

-- ---- all vertices
module _ (m : Mesh) (asked : Shifts) (named : NameLive m asked) where
  abbrev by_moves : Motion
  by_moves = motion_by m (moves_by m asked)

  start_doubled : (v : ℕ) → by_moves.start v ≡ times 2 ((moved_by m asked).start v)
  start_doubled v = starts_at m v (filter is_shifted asked)

  end_doubled : (v : ℕ) → by_moves.end v ≡ times 2 ((moved_by m asked).end v)
  end_doubled v =
      ends_at m v (filter is_shifted asked)
      ∙ ap (λ by. times 2 (plus (rest_positions m v) by)) (shift_filtered is_shifted asked v unshifted_is_none (name_once m asked named).once)

  pub starts_doubled : (p : Pair) → positions by_moves.start p ≡ double (positions (moved_by m asked).start p)
  starts_doubled p = same_five _ _ (start_doubled p.name.a) (start_doubled p.name.b) (start_doubled p.corners.first) (start_doubled p.corners.second) (start_doubled p.corners.third)

  pub ends_doubled : (p : Pair) → positions by_moves.end p ≡ double (positions (moved_by m asked).end p)
  ends_doubled p = same_five _ _ (end_doubled p.name.a) (end_doubled p.name.b) (end_doubled p.corners.first) (end_doubled p.corners.second) (end_doubled p.corners.third)
