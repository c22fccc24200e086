-- What a flip answers, by what holds of its edge.
use Rattle.std.proofs.Common.{◌≡◌, ℕ, Bool, true, false, not, ◌||◌, ◌==◌, min, max, [], ◌∷◌, Option, Some, None, is_some, sym, ap, subst, ◌∙◌}
use Rattle.std.specs.Option.{option_map}
use Rattle.grid_base.specs.declared.Positions.{Positions}
use Rattle.mesh_base.specs.declared.ids.PairName.{PairName}
use Rattle.mesh_base.specs.Mesh.{Mesh, IsSound}
use Rattle.mesh_base.specs.Sides.{IsClosed}
use Rattle.mesh_base.specs.Pairs.{is_edge, is_crowded}
use Rattle.mesh_base.specs.Limits.{is_over_limits}
use Rattle.edit_base.specs.declared.answers.Why.TheVariants.{NoEdge, Crowded, Full, Hit, Edge as IsAnEdge}
use Rattle.edit_base.specs.declared.answers.Change.TheVariants.{Flip}
use Rattle.edit_base.specs.declared.answers.Edit.{Edit}
use Rattle.edit_base.specs.declared.answers.Edit.TheVariants.{Done, No}
use Rattle.edit_base.specs.Reasons.{reason_if, first_reason, done_unless, is_full}
use Rattle.edit_base.specs.Scaffold.{first_failing}
use Rattle.edit_base.specs.Edges.{Edge, edge_of}
use Rattle.edit_split.specs.Split.{split_mesh, split_point}
use Rattle.edit_flip.specs.Flip.{flip_mesh, flip_scaffold}
use Rattle.edit_base.specs.Required.{HasEdge}
use Rattle.edit_flip.specs.Answer.{flip_answer}
use Rattle.edit_base.proofs.ReasonLaws.{edge_again}
use Rattle.edit_base.proofs.EdgeThere.{has_edge_of}
use Rattle.edit_flip.specs.Tried.{MayBeTried}
use Rattle.edit_flip.proofs.PutFlip.{result_fits}

-- the answer by its tests
abbrev answer_by : (is_there is_doubled is_made is_too_much : Bool) → Option PairName → Edge → Edit
answer_by is_there is_doubled is_made is_too_much found s =
    done_unless
    (first_reason (
    reason_if (not is_there) NoEdge
    ∷ reason_if is_doubled Crowded
    ∷ reason_if is_made IsAnEdge
    ∷ reason_if is_too_much Full
    ∷ option_map (λ p. Hit p) found ∷ []))
    (Flip s.a s.b)

-- and by its edge
abbrev answer_of : (Positions → Bool) → Mesh → Edge → ℕ → Edit
answer_of meets m s depth =
    answer_by (is_edge m s.a s.b) (is_crowded m s.a s.b) ((s.c == s.d) || is_edge m s.c s.d)
    (is_full (flip_scaffold m s).mesh (flip_mesh m s)) (first_failing meets (flip_scaffold m s) depth) s

-- the answer of an edge by its ends is that of the two ids in any order
pub same_of_ends : (meets : Positions → Bool) (m : Mesh) (s : Edge) (u v depth : ℕ) → s ≡ edge_of m u v → flip_answer meets m s.a s.b depth ≡ flip_answer meets m u v depth
same_of_ends meets m s u v depth e =
    ap (λ (t : Edge). flip_answer meets m t.a t.b depth) e ∙ ap (λ t. answer_of meets m t depth) (edge_again m u v)

-- where the two faces beside it are found, it is an edge
pub found_is_edge : (found : Option Edge) (s : Edge) (edge : Bool) → found ≡ Some s → is_some found ≡ edge → edge ≡ true
found_is_edge (Some t) s edge is same = sym same
found_is_edge None s edge is same = absurd cc

-- what would pass a limit is refused, where no reason before that holds
pub full_is_refused : (meets : Positions → Bool) (m : Mesh) (s : Edge) (u v depth : ℕ) → s ≡ edge_of m u v → is_edge m s.a s.b ≡ true → is_crowded m s.a s.b ≡ false →
    ((s.c == s.d) || is_edge m s.c s.d) ≡ false → is_over_limits (split_mesh m s (split_point m s)) ≡ true → No Full ≡ flip_answer meets m u v depth
full_is_refused meets m s u v depth e one two three four =
    sym (λ i. answer_by (one i) (two i) (three i) (four i || is_over_limits (flip_mesh m s)) (first_failing meets (flip_scaffold m s) depth) s)
    ∙ ap (λ t. answer_of meets m t depth) e

-- where no reason holds before a hit, the flip may be tried
pub may_be_tried : (m : Mesh) (s : Edge) (u v : ℕ) → s ≡ edge_of m u v → is_edge m (min u v) (max u v) ≡ true → is_crowded m s.a s.b ≡ false →
    ((s.c == s.d) || is_edge m s.c s.d) ≡ false → is_over_limits (split_mesh m s (split_point m s)) ≡ false → MayBeTried m s
may_be_tried m s u v e one two three four = record {
  edge = subst (HasEdge m) (sym e) (has_edge_of m u v one);
  one_face_each_way = two;
  other_may_be_made = three;
  fits = four;
}

-- ---- a flip that may be tried is refused by a hit alone
module _ (meets : Positions → Bool) (m : Mesh) (s : Edge) (depth : ℕ) (sound : IsSound m) (closed : IsClosed m) (tried : MayBeTried m s) where
  answered : (found : Option PairName) → found ≡ first_failing meets (flip_scaffold m s) depth → answer_by true false false false found s ≡ flip_answer meets m s.a s.b depth
  answered found e =
      let fits = result_fits m s sound closed tried.edge tried.fits in
      sym (λ i. answer_by (tried.edge.is_edge i) (tried.one_face_each_way i) (tried.other_may_be_made i) (tried.fits i || fits i) (sym e i) s)
      ∙ ap (λ t. answer_of meets m t depth) (sym tried.edge.beside)

  pub hit_is_refused : (p : PairName) → Some p ≡ first_failing meets (flip_scaffold m s) depth → No (Hit p) ≡ flip_answer meets m s.a s.b depth
  hit_is_refused p e = answered (Some p) e

  pub no_hit_is_done : None ≡ first_failing meets (flip_scaffold m s) depth → Done (Flip s.a s.b) ≡ flip_answer meets m s.a s.b depth
  no_hit_is_done e = answered None e
