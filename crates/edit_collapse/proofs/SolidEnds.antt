-- A done collapse goes to the end that is solid, and what is left is marked as it should be.
use Rattle.std.proofs.Common.{◌≡◌, ℕ, Bool, true, false, if◌then◌else◌, not, ◌&&◌, ◌||◌, ◌==◌, min, max, List, [], ◌∷◌, is_some, refl, sym, ap, subst, ◌∙◌}
use Rattle.std.proofs.lemmas.Bool.{false≢true}
use Rattle.std.specs.List.{filter}
use Rattle.std.specs.FinMap as finite
use Rattle.grid_base.specs.declared.Point.{Point}
use Rattle.grid_base.specs.declared.Positions.{Positions}
use Rattle.mesh_base.specs.Mesh.{Mesh, IdSet, is_solid, IsLiveVertex}
use Rattle.mesh_base.specs.Sides.{has_corner, faces_where, faces_at}
use Rattle.mesh_base.specs.Pairs.{is_edge}
use Rattle.mesh_base.specs.Placements.{point_of}
use Rattle.edit_base.specs.declared.answers.Why.TheVariants.{NoEdge, Solid, Full, Doubled}
use Rattle.edit_base.specs.Edges.{floor_mid, doubles_a_face, with_renamed, with_all_renamed}
use Rattle.edit_base.specs.Reasons.{reason_if, is_full, hit_in}
use Rattle.edit_base.proofs.ReasonLaws.{done_is, none_first, does_not_hold, first_false, second_false}
use Rattle.edit_collapse.specs.Collapse.{without_shared, joined_faces, has_face, without_bare, are_both_solid, has_solid_end, placed, placed_if_left, collapse_mesh, collapse_point, collapse_scaffold}
use Rattle.edit_collapse.specs.Answer.{collapse_answer}
use Rattle.edit_collapse.specs.SolidEnds.{GoesToSolidEnd, KeepsSolidEnd, SolidEndStays, SolidEndsStay}
use Rattle.edit_acts.proofs.Changed.{points-without_faces, solid-without_faces}
use Rattle.edit_collapse.proofs.CollapseMesh.{dropped_points, dropped_marks, was_live, placed_here, placed_elsewhere, placed_mark, placed_marks}
use Rattle.edit_collapse.proofs.Three.{three_cut}

-- ---- faces come and go, and the vertices stay as they are
points-renamed : (b a : ℕ) (n : Mesh) (fs : List ℕ) → (with_all_renamed b a n fs).points ≡ n.points
points-renamed b a n [] = refl
points-renamed b a n (f ∷ fs) = points-renamed b a (with_renamed b a n f) fs

solid-renamed : (b a : ℕ) (n : Mesh) (fs : List ℕ) → (with_all_renamed b a n fs).solid ≡ n.solid
solid-renamed b a n [] = refl
solid-renamed b a n (f ∷ fs) = solid-renamed b a (with_renamed b a n f) fs

module _ (m : Mesh) (a b : ℕ) where
  abbrev one : Mesh
  one = without_shared m a b

  abbrev three : Mesh
  three = joined_faces m a b

  abbrev four : Mesh
  four = without_bare m b three

  abbrev shared : List ℕ
  shared = faces_where (λ c. has_corner c a && has_corner c b) m

  abbrev bare_vertices : List ℕ
  bare_vertices = filter (λ v. (v == b) || (has_face m v && not (has_face three v))) (finite.keys three.points)

  three_points : three.points ≡ m.points
  three_points = (three_cut m a b).points ∙ points-renamed b a one (faces_at one b) ∙ points-without_faces m shared

  three_solid : three.solid ≡ m.solid
  three_solid = (three_cut m a b).solid ∙ solid-renamed b a one (faces_at one b) ∙ solid-without_faces m shared

  -- a vertex that is left stands where it stood, and is solid as it was
  four_point : (v : ℕ) → IsLiveVertex four v → finite.get four.points v ≡ finite.get m.points v
  four_point v live = dropped_points bare_vertices three v live ∙ ap (λ ps. finite.get ps v) three_points

  four_mark : (v : ℕ) → IsLiveVertex four v → is_solid four v ≡ is_solid m v
  four_mark v live = dropped_marks bare_vertices three v live ∙ ap (λ (marks : IdSet). is_some (finite.get marks v)) three_solid

  -- ---- the result
  module _ (at : Point) where
    abbrev solid : Bool
    solid = has_solid_end m a b

    abbrev result : Mesh
    result = collapse_mesh m a b at

    left : (v : ℕ) → IsLiveVertex result v → IsLiveVertex four v
    left v live = was_live solid four a at v live

    pub were_live : (v : ℕ) → IsLiveVertex result v → IsLiveVertex m v
    were_live v live = sym (ap is_some (four_point v (left v live))) ∙ left v live

    unmarked : (t : Bool) → is_solid (if t then placed false four a at else four) a ≡ is_solid four a
    unmarked true = refl
    unmarked false = refl

    end_mark : IsLiveVertex four a → (s : Bool) → solid ≡ s → is_solid (placed_if_left s four a at) a ≡ s
    end_mark live true e = placed_mark four a at live
    end_mark live false e = unmarked (finite.contains_key four.points a) ∙ four_mark a live ∙ first_false (is_solid m a) (is_solid m b) e

    pub keeps_solid_end : KeepsSolidEnd m a b at
    keeps_solid_end = record {
      stands = λ live. placed_here solid four a at a refl (left a live);
      mark = λ live. end_mark (left a live) solid refl;
      others_stand = λ v apart live. placed_elsewhere solid four a at v apart ∙ four_point v (left v live);
      other_marks = λ v apart live. placed_marks solid four a at v apart ∙ four_mark v (left v live);
    }

  -- ---- the point
  abbrev point_by : Bool → Bool → Point
  point_by s t = if s then point_of m a else (if t then point_of m b else floor_mid (point_of m a) (point_of m b))

  other_end : (s t : Bool) → (s && t) ≡ false → t ≡ true → s ≡ false
  other_end true t e h = absurd (false≢true (sym e ∙ h))
  other_end false t e h = refl

  pub goes_to_solid_end : are_both_solid m a b ≡ false → GoesToSolidEnd m a b (collapse_point m a b)
  goes_to_solid_end one_at_most = record {
    one_at_most = one_at_most;
    first = λ h. ap (λ s. point_by s (is_solid m b)) h;
    second = λ h. λ i. point_by (other_end (is_solid m a) (is_solid m b) one_at_most h i) (h i);
    neither = λ h. λ i. point_by (first_false (is_solid m a) (is_solid m b) h i) (second_false (is_solid m a) (is_solid m b) h i);
  }

-- ---- a done collapse
pub solid_ends_stay : (meets : Positions → Bool) (u v depth : ℕ) → SolidEndsStay (λ m. collapse_answer meets m u v depth)
solid_ends_stay meets u v depth m change done =
    let a = min u v in
    let b = max u v in
    let at = collapse_point m a b in
    let scaffold = collapse_scaffold m a b at in
    let fulls = reason_if (is_full scaffold.mesh (collapse_mesh m a b at)) Full ∷ hit_in meets scaffold depth ∷ [] in
    let doubles = reason_if (doubles_a_face (joined_faces m a b)) Doubled ∷ fulls in
    let solids = reason_if (are_both_solid m a b) Solid ∷ doubles in
    let all = done_is _ _ _ done in
    let edge = none_first (reason_if (not (is_edge m a b)) NoEdge) solids all.0 in
    let free = none_first (reason_if (are_both_solid m a b) Solid) doubles edge.1 in
    subst (SolidEndStays m) all.1 (goes_to_solid_end m a b (does_not_hold (are_both_solid m a b) Solid free.0), keeps_solid_end m a b at)
