-- What a flip answers: the first reason that holds, in its written order, or what is done.
use Rattle.std.specs.Prelude.{ℕ, ◌==◌, ◌||◌, not, Bool, [], ◌∷◌}
use Rattle.grid_base.specs.declared.Positions.{Positions}
use Rattle.grid_base.specs.SeparationTests.{IsExact}
use Rattle.edit_base.specs.declared.answers.Why.TheVariants.{NoEdge, Crowded, Full}
use Rattle.edit_base.specs.declared.answers.Why.TheVariants.{Edge as IsAnEdge}
use Rattle.edit_base.specs.declared.answers.Change.TheVariants.{Flip}
use Rattle.edit_base.specs.declared.answers.Edit.{Edit}
use Rattle.mesh_base.specs.Mesh.{Mesh}
use Rattle.mesh_base.specs.Pairs.{is_edge, is_crowded}
use Rattle.edit_base.specs.Laws.{Answer}
use Rattle.edit_base.specs.Reasons.{reason_if, first_reason, done_unless, is_full, hit_in}
use Rattle.edit_base.specs.Edges.{edge_of}
use Rattle.edit_flip.specs.Flip.{flip_mesh, flip_scaffold}

-- the ends are no edge, the edge is crowded, the edge to be made is there or would have one end,
-- the mesh would pass a limit, or a pair of the scaffold does not pass
abbrev pub flip_answer : (Positions → Bool) → Mesh → ℕ → ℕ → ℕ → Edit
flip_answer meets m u v depth =
    let s = edge_of m u v in
    let scaffold = flip_scaffold m s in
    done_unless
    (first_reason (
    reason_if (not (is_edge m s.a s.b)) NoEdge
    ∷ reason_if (is_crowded m s.a s.b) Crowded
    ∷ reason_if ((s.c == s.d) || is_edge m s.c s.d) IsAnEdge
    ∷ reason_if (is_full scaffold.mesh (flip_mesh m s)) Full
    ∷ hit_in meets scaffold depth ∷ []))
    (Flip s.a s.b)

-- what holds of each flip: of whatever edge, tested by whatever test of meeting to whatever depth
abbrev pub OfFlips : (Answer → Type 0) → Type 0
OfFlips law = (meets : Positions → Bool) (u v depth : ℕ) → law (λ m. flip_answer meets m u v depth)

-- what holds of each flip that is tested by an exact test of meeting
abbrev pub OfExactFlips : (Answer → Type 0) → Type 0
OfExactFlips law = (meets : Positions → Bool) → IsExact meets → (u v depth : ℕ) →
    law (λ m. flip_answer meets m u v depth)
