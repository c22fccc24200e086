-- The motion by the ways of a step is the motion by its moves, in half units.
use Rattle.std.proofs.Common.{◌≡◌, ℕ, ◌-◌, ◌==◌, Bool, true, false, cond, [], ◌∷◌, map, ℤ, pos, ◌+ℤ◌, ◌*ℤ◌, Some, refl, sym, ap, subst, ◌∙◌}
use Rattle.std.specs.Option.{option_map, unwrap_or}
use Rattle.std.specs.List.{find}
use Rattle.std.proofs.lemmas.Bool.{eqb-true}
use Rattle.grid_base.specs.Triples.{Triple, plus, times}
use Rattle.grid_base.specs.Points.{displacement_of}
use Rattle.grid_base.specs.Meeting.{MeetAt}
use Rattle.grid_base.specs.Motion.{position_at}
use Rattle.grid_base.specs.Separation.{double}
use Rattle.grid_base.proofs.Polynomials.{var, num, add, mul, same_polynomial}
use Rattle.grid_base.proofs.MeetingLaws.{same_triple, Meets-multiple}
use Rattle.grid_base.proofs.SeparationLaws.{same_five}
use Rattle.mesh_base.specs.declared.ShiftOf.{ShiftOf}
use Rattle.mesh_base.specs.Mesh.{Mesh}
use Rattle.mesh_base.specs.Pairs.{Pair}
use Rattle.mesh_base.specs.Placements.{Motion, origin, rest_positions, rest_positions_doubled, positions, at_fraction, IsClearAlong}
use Rattle.mesh_base.specs.Shifts.{Shifts, moved_by}
use Rattle.mesh_base.proofs.Moves.{plus-origin}
use Rattle.edit_base.specs.declared.Move.{Move}
use Rattle.edit_base.specs.Scaffold.{move_of, motion_by}
use Rattle.log_replay.specs.Moves.{AreMoves}
use Rattle.log_run.specs.Steps.{shifts_of}
use Rattle.log_run.specs.Motions.{way_of, step_ways}
use Rattle.log_run.proofs.ShiftsTold.{shifts_tell}

-- ---- one vertex
module _ (m : Mesh) (v : ℕ) where
  -- where the vertex starts and ends, by what is found
  abbrev start_by : Shifts → Triple
  start_by shifts = unwrap_or (option_map (λ (move : Move). move.start) (move_of (map (way_of m) shifts) v)) (rest_positions_doubled m v)

  abbrev end_by : Shifts → Triple
  end_by shifts = unwrap_or (option_map (λ (move : Move). move.end) (move_of (map (way_of m) shifts) v)) (rest_positions_doubled m v)

  abbrev shifted_by : Shifts → Triple
  shifted_by shifts = plus (rest_positions m v) (unwrap_or (option_map (λ (s : ShiftOf). displacement_of s.by) (find (λ s. s.v == v) shifts)) origin)

  starts_at : (shifts : Shifts) → start_by shifts ≡ rest_positions_doubled m v
  starts_at [] = refl
  starts_at (s ∷ rest) = by_test (starts_at rest) (s.v == v) refl
    where
      by_test : start_by rest ≡ rest_positions_doubled m v → (b : Bool) → (s.v == v) ≡ b
          → unwrap_or (option_map (λ (move : Move). move.start) (cond b (Some (way_of m s)) (move_of (map (way_of m) rest) v))) (rest_positions_doubled m v) ≡ rest_positions_doubled m v
      by_test others true e = ap (rest_positions_doubled m) (eqb-true s.v v e)
      by_test others false e = others

  ends_at : (shifts : Shifts) → end_by shifts ≡ times 2 (shifted_by shifts)
  ends_at [] = ap (times 2) (sym (plus-origin (rest_positions m v)))
  ends_at (s ∷ rest) = by_test (ends_at rest) (s.v == v) refl
    where
      by_test : end_by rest ≡ times 2 (shifted_by rest) → (b : Bool) → (s.v == v) ≡ b
          → unwrap_or (option_map (λ (move : Move). move.end) (cond b (Some (way_of m s)) (move_of (map (way_of m) rest) v))) (rest_positions_doubled m v)
          ≡ times 2 (plus (rest_positions m v) (unwrap_or (option_map (λ (t : ShiftOf). displacement_of t.by) (cond b (Some s) (find (λ t. t.v == v) rest))) origin))
      by_test others true e = ap (λ u. times 2 (plus (rest_positions m u) (displacement_of s.by))) (eqb-true s.v v e)
      by_test others false e = others

-- ---- all vertices
module _ (m : Mesh) (moves : Shifts) (are : AreMoves m moves) where
  abbrev by_ways : Motion
  by_ways = motion_by m (step_ways m moves)

  start_doubled : (v : ℕ) → by_ways.start v ≡ times 2 ((moved_by m moves).start v)
  start_doubled v = starts_at m v (shifts_of m moves)

  end_doubled : (v : ℕ) → by_ways.end v ≡ times 2 ((moved_by m moves).end v)
  end_doubled v = ends_at m v (shifts_of m moves) ∙ ap (λ (w : Motion). times 2 (w.end v)) (shifts_tell m moves are).motion

  pub starts_doubled : (p : Pair) → positions by_ways.start p ≡ double (positions (moved_by m moves).start p)
  starts_doubled p = same_five _ _ (start_doubled p.name.a) (start_doubled p.name.b) (start_doubled p.corners.first) (start_doubled p.corners.second) (start_doubled p.corners.third)

  pub ends_doubled : (p : Pair) → positions by_ways.end p ≡ double (positions (moved_by m moves).end p)
  ends_doubled p = same_five _ _ (end_doubled p.name.a) (end_doubled p.name.b) (end_doubled p.corners.first) (end_doubled p.corners.second) (end_doubled p.corners.third)

  -- ---- on the way
  way_doubled : (p q : ℕ) (s t : Triple) → times 2 (position_at p q s t) ≡ position_at p q (times 2 s) (times 2 t)
  way_doubled p q s t = same_triple _ _ (one s.x t.x) (one s.y t.y) (one s.z t.z)
    where
      one : (x y : ℤ) → pos 2 *ℤ (pos (q - p) *ℤ x +ℤ pos p *ℤ y) ≡ pos (q - p) *ℤ (pos 2 *ℤ x) +ℤ pos p *ℤ (pos 2 *ℤ y)
      one x y =
          let two = num (pos 2) in
          same_polynomial (pos (q - p) ∷ pos p ∷ x ∷ y ∷ []) (mul two (add (mul (var 0) (var 2)) (mul (var 1) (var 3)))) (add (mul (var 0) (mul two (var 2))) (mul (var 1) (mul two (var 3)))) refl

  fraction_doubled : (p q v : ℕ) → times 2 (at_fraction p q (moved_by m moves) v) ≡ at_fraction p q by_ways v
  fraction_doubled p q v =
      way_doubled p q ((moved_by m moves).start v) ((moved_by m moves).end v)
      ∙ (λ i. position_at p q (sym (start_doubled v) i) (sym (end_doubled v) i))

  at_doubled : (p q : ℕ) (pair : Pair) → double (positions (at_fraction p q (moved_by m moves)) pair) ≡ positions (at_fraction p q by_ways) pair
  at_doubled p q pair =
      same_five _ _ (fraction_doubled p q pair.name.a) (fraction_doubled p q pair.name.b) (fraction_doubled p q pair.corners.first) (fraction_doubled p q pair.corners.second) (fraction_doubled p q pair.corners.third)

  -- a motion that is clear in half units is clear
  pub clear_in_halves : IsClearAlong m by_ways → IsClearAlong m (moved_by m moves)
  clear_in_halves clear p q some within pair is meet =
      clear p q some within pair is (subst MeetAt (at_doubled p q pair) (Meets-multiple 2 (positions (at_fraction p q (moved_by m moves)) pair) meet))
