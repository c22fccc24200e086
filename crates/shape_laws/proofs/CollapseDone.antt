-- What a done collapse of an edge with a plain link leaves of the shape of a mesh.
use Rattle.std.proofs.Common.{◌≡◌, ◌≢◌, ℕ, ◌&&◌, Bool, true, false, not, min, max, [], ◌∷◌, refl, sym, ap, subst, ◌∙◌}
use Rattle.std.proofs.lemmas.Bool.{false≢true, not-false}
use Rattle.grid_base.specs.declared.Positions.{Positions}
use Rattle.mesh_base.specs.Mesh.{Mesh, IsSound}
use Rattle.mesh_base.specs.Sides.{IsClosed}
use Rattle.mesh_base.specs.Pairs.{is_edge}
use Rattle.edit_base.specs.declared.answers.Why.TheVariants.{NoEdge, Full, Solid, Doubled}
use Rattle.edit_base.specs.declared.answers.Change.{Change}
use Rattle.edit_base.specs.declared.answers.Change.TheVariants.{Split, Flip, Collapse, Zip, Pinch}
use Rattle.edit_base.specs.declared.answers.Edit.TheVariants.{Done}
use Rattle.edit_base.specs.Reasons.{reason_if, hit_in, is_full}
use Rattle.edit_base.specs.Edges.{Edge, edge_of, doubles_a_face, runs_both_ways}
use Rattle.edit_base.specs.Beside.{IsBeside}
use Rattle.edit_base.proofs.Beside.{beside_of}
use Rattle.edit_base.proofs.ReasonLaws.{done_is, none_first, does_not_hold, edge_again}
use Rattle.edit_collapse.specs.Collapse.{are_both_solid, collapse_mesh, collapse_point, collapse_scaffold, joined_faces}
use Rattle.edit_collapse.specs.Done.{collapse_result}
use Rattle.edit_collapse.specs.Answer.{collapse_answer}
use Rattle.edit_collapse.proofs.CollapseKeeps.{collapse_stays_sound}
use Rattle.edit_any.specs.Dispatch.{answer_to, edited, OfEdits}
use Rattle.edit_any.specs.Answered.{asked_of}
use Rattle.edit_any.proofs.Answered.{changes_tell_the_edit}
use Rattle.shape_laws.specs.Link.{has_poor_edge, has_other_neighbour, may_faces_cancel, has_plain_link}
use Rattle.shape_laws.specs.Kept.{HaveSameShape, collapse_keeps_shape, ShapeStaysOnCollapse}
use Rattle.shape_laws.proofs.Faces.{left_alike, left_held, corner_one, corner_two}
use Rattle.shape_laws.proofs.CollapseLink.{IsPlain}
use Rattle.shape_laws.proofs.CollapseShape.{collapse_pieces, collapse_euler}
use Rattle.shape_laws.proofs.CollapseCount.{collapse_count}
use Rattle.shape_laws.proofs.Plain.{good_near, two_opposites, none_opposite, no_two_caps, common_is}

-- ---- the parts of the test
record Parts (m : Mesh) (s : Edge) : Type 0 where
  pub caps : may_faces_cancel m s ≡ false
  pub first : has_poor_edge m s.a ≡ false
  pub second : has_poor_edge m s.b ≡ false
  pub others : has_other_neighbour m s ≡ false

parts_of : (m : Mesh) (u v : ℕ) → has_plain_link m u v ≡ true → Parts m (edge_of m u v)
parts_of m u v h =
    let s = edge_of m u v in
    let all = five (runs_both_ways m s.a s.b) (may_faces_cancel m s) (has_poor_edge m s.a) (has_poor_edge m s.b) (has_other_neighbour m s) h in
    record { caps = all.0; first = all.1; second = all.2; others = all.3 }
  where
    five : (r p q t o : Bool) → (r && not p && not q && not t && not o) ≡ true → (p ≡ false) × (q ≡ false) × (t ≡ false) × (o ≡ false)
    five true false false false false h = (refl, refl, refl, refl)
    five true true q t o h = absurd (false≢true h)
    five true false true t o h = absurd (false≢true h)
    five true false false true o h = absurd (false≢true h)
    five true false false false true h = absurd (false≢true h)
    five false p q t o h = absurd (false≢true h)

plain_of : (m : Mesh) (u v : ℕ) → IsSound m → IsBeside m (edge_of m u v) → has_plain_link m u v ≡ true → IsPlain m (edge_of m u v)
plain_of m u v sound beside h =
    let s = edge_of m u v in
    let parts = parts_of m u v h in
    let edge = good_near m s.a parts.first beside.left_corners s.b (left_held m s beside)
    ((left_alike m s beside).corners s.a ∙ corner_one s.a s.b s.c) ((left_alike m s beside).corners s.b ∙ corner_two s.a s.b s.c) (λ e. beside.a_b (sym e)) in
    record {
      uncrowded = edge.uncrowded;
      c_d = subst (λ (e : Edge). e.c ≢ e.d) (edge_again m u v) (two_opposites m s.a s.b edge.two_opposites);
      one_cap = no_two_caps m s parts.caps;
      link = common_is m s sound parts.others;
      at_a = none_opposite m s.a sound parts.first;
      at_b = none_opposite m s.b sound parts.second;
    }

module _ (meets : Positions → Bool) (u v depth : ℕ) (m : Mesh) (change : Change) (sound : IsSound m) (closed : IsClosed m) (done : collapse_answer meets m u v depth ≡ Done change) (plain : has_plain_link m u v ≡ true) where
  -- the ends are an edge, and the change is the collapse's
  facts : (is_edge m (min u v) (max u v) ≡ true) × (collapse_result m change ≡ collapse_mesh m (min u v) (max u v) (collapse_point m (min u v) (max u v)))
  facts =
      let a = min u v in
      let b = max u v in
      let scaffold = collapse_scaffold m a b (collapse_point m a b) in
      let hits = hit_in meets scaffold depth ∷ [] in
      let fulls = reason_if (is_full scaffold.mesh (collapse_mesh m a b (collapse_point m a b))) Full ∷ hits in
      let doubles = reason_if (doubles_a_face (joined_faces m a b)) Doubled ∷ fulls in
      let solids = reason_if (are_both_solid m a b) Solid ∷ doubles in
      let five = done_is _ _ _ done in
      let four = none_first (reason_if (not (is_edge m a b)) NoEdge) solids five.0 in
      (not-false _ (does_not_hold _ _ four.0), ap (collapse_result m) (sym five.1))

  beside : IsBeside m (edge_of m u v)
  beside = beside_of m u v sound closed facts.0

  link : IsPlain m (edge_of m u v)
  link = plain_of m u v sound beside plain

  after : IsSound (collapse_mesh m (min u v) (max u v) (collapse_point m (min u v) (max u v)))
  after = subst IsSound facts.1 (collapse_stays_sound meets u v depth m change sound closed done)

  pub collapse_keeps : HaveSameShape m (collapse_result m change)
  collapse_keeps = subst (HaveSameShape m) (sym facts.1) (
      record {
        components = collapse_pieces m (edge_of m u v) (collapse_point m (min u v) (max u v)) sound closed beside link after;
        euler = collapse_euler m (edge_of m u v) (collapse_point m (min u v) (max u v)) sound closed beside link after
            (collapse_count m (edge_of m u v) (collapse_point m (min u v) (max u v)) sound closed beside link);
      }
      )

pub collapse_kept : (meets : Positions → Bool) (depth : ℕ) (m : Mesh) (change : Change) → IsSound m → IsClosed m → answer_to meets m depth (asked_of change) ≡ Done change → collapse_keeps_shape m change ≡ true → HaveSameShape m (edited m change)
collapse_kept meets depth m (Collapse a b at) sound closed done keeps = collapse_keeps meets a b depth m (Collapse a b at) sound closed done keeps
collapse_kept meets depth m (Split a b w at) sound closed done keeps = absurd (false≢true keeps)
collapse_kept meets depth m (Flip a b) sound closed done keeps = absurd (false≢true keeps)
collapse_kept meets depth m (Zip a b e f turn) sound closed done keeps = absurd (false≢true keeps)
collapse_kept meets depth m (Pinch v at copies) sound closed done keeps = absurd (false≢true keeps)

pub collapses_stay : OfEdits ShapeStaysOnCollapse
collapses_stay meets depth what m change sound closed done keeps = collapse_kept meets depth m change sound closed (changes_tell_the_edit meets m what change depth done) keeps
