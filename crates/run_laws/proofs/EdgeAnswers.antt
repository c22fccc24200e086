-- What splits, flips and collapses answer is in range.
use Rattle.std.proofs.Common.{◌≢◌, ℕ, ◌+◌, ◌<◌, ◌≤◌, Bool, not, ◌||◌, ◌==◌, min, max, [], ◌∷◌, arith}
use Rattle.std.proofs.lemmas.Bool.{not-false}
use Rattle.grid_base.specs.declared.Positions.{Positions}
use Rattle.grid_base.specs.declared.TheConstants.{ID_MAX}
use Rattle.mesh_base.specs.Mesh.{Mesh, IsSound}
use Rattle.mesh_base.specs.Pairs.{is_edge, is_crowded}
use Rattle.mesh_base.specs.Limits.{is_over_limits}
use Rattle.edit_base.specs.declared.answers.Why.TheVariants.{NoEdge, Crowded, Edge as IsAnEdge, Full, Doubled, Solid}
use Rattle.edit_base.specs.declared.answers.Change.TheVariants.{Split, Flip, Collapse}
use Rattle.edit_base.specs.declared.answers.Edit.{Edit}
use Rattle.edit_base.specs.declared.answers.Edit.TheVariants.{Done}
use Rattle.edit_base.specs.Edges.{edge_of, doubles_a_face}
use Rattle.edit_base.specs.Reasons.{reason_if, is_full, hit_in}
use Rattle.edit_base.specs.Scaffold.{Scaffold, first_failing, is_as_required}
use Rattle.edit_base.specs.Beside.{IsBeside}
use Rattle.edit_base.proofs.Beside.{beside_of}
use Rattle.edit_base.proofs.ReasonLaws.{first_false}
use Rattle.edit_split.specs.Split.{split_point, split_scaffold}
use Rattle.edit_split.specs.Answer.{split_answer}
use Rattle.edit_split.proofs.SplitSound.{split_is_sound}
use Rattle.edit_flip.specs.Flip.{flip_mesh, flip_scaffold}
use Rattle.edit_flip.specs.Answer.{flip_answer}
use Rattle.edit_collapse.specs.Collapse.{are_both_solid, collapse_mesh, collapse_point, collapse_scaffold, joined_faces}
use Rattle.edit_collapse.specs.Answer.{collapse_answer}
use Rattle.log_read.specs.Laws.{IsEdgeInRange}
use Rattle.run_laws.specs.Names.{IsId}
use Rattle.run_laws.specs.Answers.{IsAnswerInRange, AnswersInRange}
use Rattle.run_laws.proofs.Names.{vertices_in_range, ordered_ids, found_in_range}
use Rattle.run_laws.proofs.Reasons.{unless, unless_first, unless_hit}

-- the ends of an edge, in order
ends_apart : (u v : ℕ) → min u v ≢ max u v → min u v < max u v
ends_apart u v apart = omega arith

pub ends_in_range : (m : Mesh) (u v : ℕ) → IsSound m → IsBeside m (edge_of m u v) → IsEdgeInRange (min u v) (max u v)
ends_in_range m u v sound beside =
    ordered_ids (min u v) (max u v) (ends_apart u v beside.a_b) (vertices_in_range m sound (min u v) beside.a_live) (vertices_in_range m sound (max u v) beside.b_live)

-- the new vertex, where the mesh with it is within its limits
new_id : (next : ℕ) → 1 ≤ next → next + 1 ≤ ID_MAX + 1 → IsId next
new_id next some limit = (some, omega arith)

-- the last reason, a pair of a sound scaffold
pub unless_scaffold_hit : (meets : Positions → Bool) (s : Scaffold) (depth : ℕ) (answer : Edit) → IsSound s.mesh → IsAnswerInRange answer → IsAnswerInRange (unless (hit_in meets s depth ∷ []) answer)
unless_scaffold_hit meets s depth answer sound other = unless_hit (first_failing meets s depth) answer (found_in_range s.mesh sound (λ p. not (is_as_required meets s depth p))) other

pub split_in_range : (meets : Positions → Bool) (u v depth : ℕ) → AnswersInRange (λ m. split_answer meets m u v depth)
split_in_range meets u v depth m sound closed =
    let s = edge_of m u v in
    let at = split_point m s in
    let scaffold = split_scaffold m s in
    let done : Edit = Done (Split s.a s.b m.next_vertex at) in
    let hits = hit_in meets scaffold depth ∷ [] in
    let fulls = reason_if (is_over_limits scaffold.mesh) Full ∷ hits in
    let crowds = reason_if (is_crowded m s.a s.b) Crowded ∷ fulls in
    unless_first (not (is_edge m s.a s.b)) NoEdge crowds done tt (λ edge.
    unless_first (is_crowded m s.a s.b) Crowded fulls done tt (λ alone.
    unless_first (is_over_limits scaffold.mesh) Full hits done tt (λ fits.
    let beside = beside_of m u v sound closed (not-false _ edge) in
    let after = split_is_sound m s at sound beside fits in
    unless_scaffold_hit meets scaffold depth done after
    (ends_in_range m u v sound beside, new_id m.next_vertex sound.limits.vertex_ids.0 after.limits.vertex_ids.1))))

pub flip_in_range : (meets : Positions → Bool) (u v depth : ℕ) → AnswersInRange (λ m. flip_answer meets m u v depth)
flip_in_range meets u v depth m sound closed =
    let s = edge_of m u v in
    let scaffold = flip_scaffold m s in
    let done : Edit = Done (Flip s.a s.b) in
    let hits = hit_in meets scaffold depth ∷ [] in
    let fulls = reason_if (is_full scaffold.mesh (flip_mesh m s)) Full ∷ hits in
    let edges = reason_if ((s.c == s.d) || is_edge m s.c s.d) IsAnEdge ∷ fulls in
    let crowds = reason_if (is_crowded m s.a s.b) Crowded ∷ edges in
    unless_first (not (is_edge m s.a s.b)) NoEdge crowds done tt (λ edge.
    unless_first (is_crowded m s.a s.b) Crowded edges done tt (λ alone.
    unless_first ((s.c == s.d) || is_edge m s.c s.d) IsAnEdge fulls done tt (λ apart.
    unless_first (is_full scaffold.mesh (flip_mesh m s)) Full hits done tt (λ fits.
    let beside = beside_of m u v sound closed (not-false _ edge) in
    unless_scaffold_hit meets scaffold depth done
    (split_is_sound m s (split_point m s) sound beside (first_false (is_over_limits scaffold.mesh) _ fits))
    (ends_in_range m u v sound beside)))))

pub collapse_in_range : (meets : Positions → Bool) (u v depth : ℕ) → AnswersInRange (λ m. collapse_answer meets m u v depth)
collapse_in_range meets u v depth m sound closed =
    let a = min u v in
    let b = max u v in
    let at = collapse_point m a b in
    let scaffold = collapse_scaffold m a b at in
    let done : Edit = Done (Collapse a b at) in
    let hits = hit_in meets scaffold depth ∷ [] in
    let fulls = reason_if (is_full scaffold.mesh (collapse_mesh m a b at)) Full ∷ hits in
    let doubles = reason_if (doubles_a_face (joined_faces m a b)) Doubled ∷ fulls in
    let solids = reason_if (are_both_solid m a b) Solid ∷ doubles in
    unless_first (not (is_edge m a b)) NoEdge solids done tt (λ edge.
    unless_first (are_both_solid m a b) Solid doubles done tt (λ free.
    unless_first (doubles_a_face (joined_faces m a b)) Doubled fulls done tt (λ once.
    unless_first (is_full scaffold.mesh (collapse_mesh m a b at)) Full hits done tt (λ fits.
    unless_scaffold_hit meets scaffold depth done sound
    (ends_in_range m u v sound (beside_of m u v sound closed (not-false _ edge)))))))
