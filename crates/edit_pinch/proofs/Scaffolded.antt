-- What is put and checked is the scaffold of the pinch.
use Rattle.std.proofs.Common.{◌≡◌, ℕ, ◌+◌, List, [], ◌∷◌, length, map, drop, pos, sym, ap, subst, refl, ◌∙◌, arith}
use Rattle.std.proofs.lemmas.Int.{unsigned_abs-mul}
use Rattle.std.proofs.lemmas.List.Elements.{All-from_recursion}
use Rattle.std.specs.List.{fold, zip, All, AllByRecursion}
use Rattle.grid_base.specs.declared.TheConstants.{HALF_MAX}
use Rattle.grid_base.specs.declared.Point.{Point}
use Rattle.grid_base.specs.Points.{position_of}
use Rattle.grid_base.specs.Triples.{Triple, IsWithin, times}
use Rattle.mesh_base.specs.Mesh.{Mesh, IsSound}
use Rattle.mesh_base.specs.Changes.{with_point}
use Rattle.mesh_base.specs.Placements.{rest_positions_doubled, IsClearMesh, point_of}
use Rattle.edit_base.specs.declared.answers.CopyAt.{CopyAt}
use Rattle.edit_base.specs.declared.scaffold.Move.{Move}
use Rattle.edit_base.specs.declared.scaffold.Touch.TheVariants.{Start}
use Rattle.edit_pinch.specs.Pinch.{fans, with_copy, copy_points, first_point, later_copies, pinch_scaffold, move_to, moves_from, vertex_and_copies}
use Rattle.edit_base.specs.Scaffold.{Scaffold}
use Rattle.mesh_base.proofs.PointOf.{position_of-point_of}
use Rattle.edit_check.specs.Untouched.{IsClearWhereUntouched, MoveFits}
use Rattle.edit_pinch.proofs.PinchPremise.{pinch_may_be_checked}
use Rattle.edit_pinch.proofs.CopiesMade.{listed_from}

-- ---- the ways fit
doubled_fits : (p : Point) → IsWithin HALF_MAX (times 2 (position_of p))
doubled_fits p =
    let x = unsigned_abs-mul (pos 2) p.x in
    let y = unsigned_abs-mul (pos 2) p.y in
    let z = unsigned_abs-mul (pos 2) p.z in
    let few_x = p.in_box.x_fits in
    let few_y = p.in_box.y_fits in
    let few_z = p.in_box.z_fits in
    record { x_fits = omega (arith, x, few_x); y_fits = omega (arith, y, few_y); z_fits = omega (arith, z, few_z) }

copies_fit : (here : Triple) (copies : List CopyAt) → IsWithin HALF_MAX here → AllByRecursion MoveFits (map (λ copy. move_to here copy.w copy.at) copies)
copies_fit here [] h = tt
copies_fit here (c ∷ cs) h = (record { start = h; end = doubled_fits c.at }, copies_fit here cs h)

pub moves_fit : (here : Triple) (v : ℕ) (at : Point) (copies : List CopyAt) → IsWithin HALF_MAX here → All MoveFits (moves_from here v at copies)
moves_fit here v at copies h = All-from_recursion MoveFits (moves_from here v at copies) (record { start = h; end = doubled_fits at }, copies_fit here copies h)

-- ---- as many copies as later fans
listed_length : (m : Mesh) (v k : ℕ) (others : List (List ℕ)) → length (listed_from m v k others) ≡ length others
listed_length m v k [] = refl
listed_length m v k (d ∷ ds) = let rest = listed_length m v (k + 1) ds in omega (arith, rest)

-- where a vertex stands, in half units
pub stands_doubled : (m : Mesh) (v : ℕ) (here : Triple) (p : Point) → here ≡ times 2 (position_of p) → p ≡ point_of m v → here ≡ rest_positions_doubled m v
stands_doubled m v here p e f = e ∙ ap (times 2) (ap position_of f ∙ position_of-point_of m v)

module _ (m : Mesh) (v : ℕ) (others : List (List ℕ)) (at : Point) (copies : List CopyAt) (others_are : others ≡ drop 1 (fans m v)) (point_is : at ≡ first_point m v) (copies_are : copies ≡ later_copies m v) where
  pub as_many : length others ≡ length copies
  as_many = ap length others_are ∙ sym (listed_length m v m.next_vertex (drop 1 (fans m v))) ∙ sym (ap length copies_are)

  pub mesh_is : fold (with_copy v) (with_point m v at) (zip others (copy_points copies)) ≡ (pinch_scaffold m v).mesh
  mesh_is = λ i. fold (with_copy v) (with_point m v (point_is i)) (zip (others_are i) (copy_points (copies_are i)))

  module _ (here : Triple) (here_is : here ≡ rest_positions_doubled m v) (new : Mesh) (moves : List Move) (together : List ℕ)
      (new_is : new ≡ fold (with_copy v) (with_point m v at) (zip others (copy_points copies))) (moves_are : moves ≡ moves_from here v at copies) (together_is : together ≡ vertex_and_copies v copies) where
    all_moves : moves ≡ (pinch_scaffold m v).moves
    all_moves = moves_are ∙ (λ i. moves_from (here_is i) v (point_is i) (copies_are i))

    all_together : together ≡ (pinch_scaffold m v).together
    all_together = together_is ∙ ap (vertex_and_copies v) copies_are

    whole : new ≡ (pinch_scaffold m v).mesh
    whole = new_is ∙ mesh_is

    pub is_scaffold : ◌≡◌ {A = Scaffold} (record { mesh = new; moves = moves; touch = Start; together = together }) (pinch_scaffold m v)
    is_scaffold = λ i. record { mesh = whole i; moves = all_moves i; touch = Start; together = all_together i }

    pub may_be_checked : IsSound m → IsClearMesh m → (fresh_from : ℕ) → fresh_from ≡ m.next_face → IsClearWhereUntouched new moves fresh_from
    may_be_checked sound clear fresh_from e =
        subst (λ n. IsClearWhereUntouched n moves fresh_from) (sym whole)
        (subst (λ l. IsClearWhereUntouched (pinch_scaffold m v).mesh l fresh_from) (sym all_moves)
        (subst (IsClearWhereUntouched (pinch_scaffold m v).mesh (pinch_scaffold m v).moves) (sym e) (pinch_may_be_checked m v sound clear)))
