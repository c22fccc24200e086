-- What a done edit leaves of the shape of a mesh.
use Rattle.std.proofs.Common.{◌≡◌, ◌≢◌, ◌⊎◌, ℕ, ◌<◌, ◌≤◌, ◌==◌, ◌||◌, Bool, true, false, not, min, max, [], ◌∷◌, inl, inr, ⊎_elim, refl, sym, ap, subst, ◌∙◌, arith}
use Rattle.std.proofs.lemmas.Bool.{false≢true, not-false, eqb-false, not-true}
use Rattle.grid_base.specs.declared.Positions.{Positions}
use Rattle.mesh_base.specs.Mesh.{Mesh, IsSound}
use Rattle.mesh_base.specs.Sides.{IsClosed}
use Rattle.mesh_base.specs.Pairs.{is_edge, is_crowded}
use Rattle.mesh_base.specs.Limits.{is_over_limits}
use Rattle.mesh_base.proofs.Listed.{and_second}
use Rattle.edit_base.specs.declared.answers.Why.TheVariants.{NoEdge, Crowded, Full, Edge as IsAnEdge}
use Rattle.edit_base.specs.declared.answers.Change.{Change}
use Rattle.edit_base.specs.declared.answers.Change.TheVariants.{Split, Flip, Collapse, Zip, Pinch}
use Rattle.edit_base.specs.declared.answers.Edit.TheVariants.{Done}
use Rattle.edit_base.specs.declared.asked.Asked.{Asked}
use Rattle.edit_base.specs.Reasons.{reason_if, hit_in, is_full}
use Rattle.edit_base.specs.Edges.{edge_of, runs_both_ways}
use Rattle.edit_base.specs.Beside.{IsBeside}
use Rattle.edit_base.proofs.Beside.{beside_of}
use Rattle.edit_base.proofs.ReasonLaws.{done_is, none_first, does_not_hold, first_false, second_false, edge_again}
use Rattle.edit_split.specs.Split.{split_mesh, split_point, split_scaffold}
use Rattle.edit_split.specs.Done.{split_result}
use Rattle.edit_split.specs.Answer.{split_answer}
use Rattle.edit_split.proofs.SplitSound.{split_is_sound}
use Rattle.edit_flip.specs.Flip.{flip_mesh, flip_scaffold}
use Rattle.edit_flip.specs.Done.{flip_result}
use Rattle.edit_flip.specs.Answer.{flip_answer, OfFlips}
use Rattle.edit_flip.proofs.FlipSound.{flip_is_sound}
use Rattle.edit_any.specs.Dispatch.{answer_to, edited, OfEdits}
use Rattle.edit_any.specs.Answered.{asked_of}
use Rattle.edit_any.proofs.Answered.{changes_tell_the_edit}
use Rattle.shape_laws.specs.Link.{has_two_opposites}
use Rattle.shape_laws.specs.Kept.{HaveSameShape, keeps_shape, ShapeStays, ShapeAlwaysStays}
use Rattle.shape_laws.proofs.Traded.{ArePair}
use Rattle.shape_laws.proofs.SplitShape.{split_pieces, split_euler}
use Rattle.shape_laws.proofs.FlipShape.{flip_pieces, flip_euler}

in_order : (u v : ℕ) → min u v ≢ max u v → min u v < max u v
in_order u v apart = less (min u v) (max u v) (let h : min u v ≤ max u v = omega arith in h) apart
  where
    less : (a b : ℕ) → a ≤ b → a ≢ b → a < b
    less a b h apart = omega (arith, h, apart)

-- ---- splits
module _ (meets : Positions → Bool) (u v depth : ℕ) (m : Mesh) (change : Change) (sound : IsSound m) (closed : IsClosed m) (done : split_answer meets m u v depth ≡ Done change) (c_d : (edge_of m u v).c ≢ (edge_of m u v).d) where
  -- no reason holds, and the change is the split's
  split_facts : (is_edge m (min u v) (max u v) ≡ true) × (is_crowded m (min u v) (max u v) ≡ false) × (is_over_limits (split_scaffold m (edge_of m u v)).mesh ≡ false) × (split_result m change ≡ split_mesh m (edge_of m u v) (split_point m (edge_of m u v)))
  split_facts =
      let e = edge_of m u v in
      let scaffold = split_scaffold m e in
      let hits = hit_in meets scaffold depth ∷ [] in
      let fulls = reason_if (is_over_limits scaffold.mesh) Full ∷ hits in
      let crowds = reason_if (is_crowded m e.a e.b) Crowded ∷ fulls in
      let four = done_is _ _ _ done in
      let three = none_first (reason_if (not (is_edge m e.a e.b)) NoEdge) crowds four.0 in
      let two = none_first (reason_if (is_crowded m e.a e.b) Crowded) fulls three.1 in
      let one = none_first (reason_if (is_over_limits scaffold.mesh) Full) hits two.1 in (
        not-false _ (does_not_hold _ _ three.0),
        does_not_hold _ _ two.0,
        does_not_hold _ _ one.0,
        ap (split_result m) (sym four.1) ∙ ap (λ e. split_mesh m e (split_point m (edge_of m u v))) (edge_again m u v),
      )

  split_beside : IsBeside m (edge_of m u v)
  split_beside = beside_of m u v sound closed split_facts.0

  split_after : IsSound (split_mesh m (edge_of m u v) (split_point m (edge_of m u v)))
  split_after = split_is_sound m (edge_of m u v) (split_point m (edge_of m u v)) sound split_beside split_facts.2

  pub split_keeps : HaveSameShape m (split_result m change)
  split_keeps = subst (HaveSameShape m) (sym split_facts.3) (
      record {
        components = split_pieces m (edge_of m u v) (split_point m (edge_of m u v)) sound split_beside (in_order u v split_beside.a_b) c_d split_facts.1 split_after;
        euler = split_euler m (edge_of m u v) (split_point m (edge_of m u v)) sound split_beside (in_order u v split_beside.a_b) c_d split_facts.1 split_after;
      }
      )

-- ---- flips
module _ (meets : Positions → Bool) (u v depth : ℕ) (m : Mesh) (change : Change) (sound : IsSound m) (closed : IsClosed m) (done : flip_answer meets m u v depth ≡ Done change) where
  record FlipFacts : Type 0 where
    pub edge : is_edge m (min u v) (max u v) ≡ true
    pub uncrowded : is_crowded m (min u v) (max u v) ≡ false
    pub c_d : (edge_of m u v).c ≢ (edge_of m u v).d
    pub no_edge : is_edge m (edge_of m u v).c (edge_of m u v).d ≡ false
    pub fits : is_over_limits (flip_mesh m (edge_of m u v)) ≡ false
    pub result : flip_result m change ≡ flip_mesh m (edge_of m u v)

  flip_facts : FlipFacts
  flip_facts =
      let e = edge_of m u v in
      let scaffold = flip_scaffold m e in
      let hits = hit_in meets scaffold depth ∷ [] in
      let fulls = reason_if (is_full scaffold.mesh (flip_mesh m e)) Full ∷ hits in
      let edges = reason_if ((e.c == e.d) || is_edge m e.c e.d) IsAnEdge ∷ fulls in
      let crowds = reason_if (is_crowded m e.a e.b) Crowded ∷ edges in
      let five = done_is _ _ _ done in
      let four = none_first (reason_if (not (is_edge m e.a e.b)) NoEdge) crowds five.0 in
      let three = none_first (reason_if (is_crowded m e.a e.b) Crowded) edges four.1 in
      let two = none_first (reason_if ((e.c == e.d) || is_edge m e.c e.d) IsAnEdge) fulls three.1 in
      let one = none_first (reason_if (is_full scaffold.mesh (flip_mesh m e)) Full) hits two.1 in
      let no_edge = does_not_hold _ _ two.0 in
      record {
        edge = not-false _ (does_not_hold _ _ four.0);
        uncrowded = does_not_hold _ _ three.0;
        c_d = eqb-false e.c e.d (first_false (e.c == e.d) _ no_edge);
        no_edge = second_false (e.c == e.d) _ no_edge;
        fits = second_false (is_over_limits scaffold.mesh) _ (does_not_hold _ _ one.0);
        result = ap (flip_result m) (sym five.1) ∙ ap (flip_mesh m) (edge_again m u v);
      }

  flip_beside : IsBeside m (edge_of m u v)
  flip_beside = beside_of m u v sound closed flip_facts.edge

  flip_after : IsSound (flip_mesh m (edge_of m u v))
  flip_after = flip_is_sound m (edge_of m u v) sound flip_beside flip_facts.c_d flip_facts.no_edge flip_facts.fits

  -- with the opposite vertices in order
  keeps_in_order : (x y : ℕ) → x < y → ArePair x y (edge_of m u v).c (edge_of m u v).d → HaveSameShape m (flip_mesh m (edge_of m u v))
  keeps_in_order x y less c_d = record {
    components = flip_pieces m (edge_of m u v) sound flip_beside (in_order u v flip_beside.a_b) flip_facts.no_edge flip_facts.uncrowded flip_after x y less c_d;
    euler = flip_euler m (edge_of m u v) sound flip_beside (in_order u v flip_beside.a_b) flip_facts.no_edge flip_facts.uncrowded flip_after x y less c_d;
  }

  pub flip_keeps : HaveSameShape m (flip_result m change)
  flip_keeps = subst (HaveSameShape m) (sym flip_facts.result)
      (⊎_elim
      (λ less. keeps_in_order (edge_of m u v).c (edge_of m u v).d less (inl (refl, refl)))
      (λ less. keeps_in_order (edge_of m u v).d (edge_of m u v).c less (inr (refl, refl)))
      (either_order (edge_of m u v).c (edge_of m u v).d flip_facts.c_d))
    where
      either_order : (x y : ℕ) → x ≢ y → (x < y) ⊎ (y < x)
      either_order x y apart = grind (arith, apart)

-- ---- each edit of which it is said
pub two_opposites : (m : Mesh) (u v : ℕ) → has_two_opposites m u v ≡ true → (edge_of m u v).c ≢ (edge_of m u v).d
two_opposites m u v h =
    let s = edge_of m u v in
    eqb-false s.c s.d (not-true (s.c == s.d) (and_second (runs_both_ways m s.a s.b) (not (s.c == s.d)) h))

pub shape_kept : (meets : Positions → Bool) (depth : ℕ) (m : Mesh) (change : Change) → IsSound m → IsClosed m → answer_to meets m depth (asked_of change) ≡ Done change → keeps_shape m change ≡ true → HaveSameShape m (edited m change)
shape_kept meets depth m (Split a b w at) sound closed done keeps = split_keeps meets a b depth m (Split a b w at) sound closed done (two_opposites m a b keeps)
shape_kept meets depth m (Flip a b) sound closed done keeps = flip_keeps meets a b depth m (Flip a b) sound closed done
shape_kept meets depth m (Collapse a b at) sound closed done keeps = absurd (false≢true keeps)
shape_kept meets depth m (Zip a b e f turn) sound closed done keeps = absurd (false≢true keeps)
shape_kept meets depth m (Pinch v at copies) sound closed done keeps = absurd (false≢true keeps)

pub shape_stays : OfEdits ShapeStays
shape_stays meets depth what m change sound closed done keeps = shape_kept meets depth m change sound closed (changes_tell_the_edit meets m what change depth done) keeps

pub flips_stay : OfFlips ShapeAlwaysStays
flips_stay meets u v depth m change sound closed done =
    shape_stays meets depth (Asked.Flip u v) m change sound closed done (subst (λ c. keeps_shape m c ≡ true) (done_is _ _ _ done).1 refl)
