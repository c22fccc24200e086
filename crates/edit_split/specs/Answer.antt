-- What a split answers: the first reason that holds, in its written order, or what is done.
use Rattle.std.specs.Prelude.{ℕ, not, Bool, [], ◌∷◌}
use Rattle.grid_base.specs.declared.Positions.{Positions}
use Rattle.edit_base.specs.declared.answers.Why.TheVariants.{NoEdge, Crowded, Full}
use Rattle.edit_base.specs.declared.answers.Change.TheVariants.{Split}
use Rattle.edit_base.specs.declared.answers.Edit.{Edit}
use Rattle.mesh_base.specs.Mesh.{Mesh}
use Rattle.mesh_base.specs.Pairs.{is_edge, is_crowded}
use Rattle.mesh_base.specs.Limits.{is_over_limits}
use Rattle.edit_base.specs.Reasons.{reason_if, first_reason, done_unless, hit_in}
use Rattle.edit_base.specs.Edges.{edge_of}
use Rattle.edit_base.specs.Laws.{Answer}
use Rattle.grid_base.specs.SeparationTests.{IsExact}
use Rattle.edit_split.specs.Split.{split_point, split_scaffold}

-- the ends are no edge, the edge is crowded, the split mesh would pass a
-- limit, or a pair of it does not pass
abbrev pub split_answer : (Positions → Bool) → Mesh → ℕ → ℕ → ℕ → Edit
split_answer meets m u v depth =
    let s = edge_of m u v in
    let scaffold = split_scaffold m s in
    done_unless
    (first_reason (
    reason_if (not (is_edge m s.a s.b)) NoEdge
    ∷ reason_if (is_crowded m s.a s.b) Crowded
    ∷ reason_if (is_over_limits scaffold.mesh) Full
    ∷ hit_in meets scaffold depth ∷ []))
    (Split s.a s.b m.next_vertex (split_point m s))

-- what holds of each split: of whatever edge, tested by whatever test of meeting to whatever depth
abbrev pub OfSplits : (Answer → Type 0) → Type 0
OfSplits law =
    (meets : Positions → Bool) (u v depth : ℕ) → law (λ m. split_answer meets m u v depth)

-- what holds of each split that is tested by an exact test of meeting
abbrev pub OfExactSplits : (Answer → Type 0) → Type 0
OfExactSplits law = (meets : Positions → Bool) → IsExact meets → (u v depth : ℕ) →
    law (λ m. split_answer meets m u v depth)
