-- What a collapse answers: the first reason that holds, in its written order, or what is done.
use Rattle.std.specs.Prelude.{ℕ, not, Bool, [], ◌∷◌, min, max}
use Rattle.grid_base.specs.declared.Positions.{Positions}
use Rattle.grid_base.specs.SeparationTests.{IsExact}
use Rattle.edit_base.specs.declared.answers.Why.TheVariants.{NoEdge, Solid, Full, Doubled}
use Rattle.edit_base.specs.declared.answers.Change.TheVariants.{Collapse}
use Rattle.edit_base.specs.declared.answers.Edit.{Edit}
use Rattle.mesh_base.specs.Mesh.{Mesh}
use Rattle.mesh_base.specs.Pairs.{is_edge}
use Rattle.edit_base.specs.Laws.{Answer}
use Rattle.edit_base.specs.Reasons.{reason_if, first_reason, done_unless, is_full, hit_in}
use Rattle.edit_base.specs.Edges.{doubles_a_face}
use Rattle.edit_collapse.specs.Collapse.{are_both_solid, collapse_mesh, collapse_point, collapse_scaffold, joined_faces}

-- by the ends in order: they are no edge, or both are solid, two faces would be equal up to
-- rotation, the mesh would pass a limit, or a pair is not as required
abbrev pub answer_of : (Positions → Bool) → Mesh → ℕ → ℕ → ℕ → Edit
answer_of meets m a b depth =
    let at = collapse_point m a b in
    let scaffold = collapse_scaffold m a b at in
    done_unless
    (first_reason (
    reason_if (not (is_edge m a b)) NoEdge
    ∷ reason_if (are_both_solid m a b) Solid
    ∷ reason_if (doubles_a_face (joined_faces m a b)) Doubled
    ∷ reason_if (is_full scaffold.mesh (collapse_mesh m a b at)) Full
    ∷ hit_in meets scaffold depth ∷ []))
    (Collapse a b at)

-- and by the ends in any order
abbrev pub collapse_answer : (Positions → Bool) → Mesh → ℕ → ℕ → ℕ → Edit
collapse_answer meets m u v depth = answer_of meets m (min u v) (max u v) depth

-- what holds of each collapse: of whatever edge, tested by whatever
-- test of meeting to whatever depth
abbrev pub OfCollapses : (Answer → Type 0) → Type 0
OfCollapses law =
    (meets : Positions → Bool) (u v depth : ℕ) → law (λ m. collapse_answer meets m u v depth)

-- what holds of each collapse that is tested by an exact test of meeting
abbrev pub OfExactCollapses : (Answer → Type 0) → Type 0
OfExactCollapses law = (meets : Positions → Bool) → IsExact meets → (u v depth : ℕ) →
    law (λ m. collapse_answer meets m u v depth)
