-- What a pinch answers: the first reason that holds, in its written order, or what is done.
use Rattle.std.specs.Prelude.{ℕ, Bool, [], ◌∷◌, length, nat_lt}
use Rattle.grid_base.specs.declared.Positions.{Positions}
use Rattle.grid_base.specs.SeparationTests.{IsExact}
use Rattle.edit_base.specs.declared.answers.Why.TheVariants.{OneFan, Solid, Full}
use Rattle.edit_base.specs.declared.answers.Change.TheVariants.{Pinch}
use Rattle.edit_base.specs.declared.answers.Edit.{Edit}
use Rattle.mesh_base.specs.Mesh.{Mesh, is_solid}
use Rattle.mesh_base.specs.Limits.{is_over_limits}
use Rattle.edit_base.specs.Laws.{Answer}
use Rattle.edit_base.specs.Reasons.{reason_if, first_reason, done_unless, hit_in}
use Rattle.edit_pinch.specs.Pinch.{pinch_scaffold, first_point, later_copies, fans}

-- the faces at the vertex are one fan, it is solid, the mesh would pass a
-- limit, or a pair is not as required
abbrev pub pinch_answer : (Positions → Bool) → Mesh → ℕ → ℕ → Edit
pinch_answer meets m v depth =
    let scaffold = pinch_scaffold m v in
    done_unless
    (first_reason (
    reason_if (nat_lt (length (fans m v)) 2) OneFan
    ∷ reason_if (is_solid m v) Solid
    ∷ reason_if (is_over_limits scaffold.mesh) Full
    ∷ hit_in meets scaffold depth ∷ []))
    (Pinch v (first_point m v) (later_copies m v))

-- what holds of each pinch: of whatever vertex, tested by whatever
-- test of meeting to whatever depth
abbrev pub OfPinches : (Answer → Type 0) → Type 0
OfPinches law = (meets : Positions → Bool) (v depth : ℕ) → law (λ m. pinch_answer meets m v depth)

-- what holds of each pinch that is tested by an exact test of meeting
abbrev pub OfExactPinches : (Answer → Type 0) → Type 0
OfExactPinches law = (meets : Positions → Bool) → IsExact meets → (v depth : ℕ) →
    law (λ m. pinch_answer meets m v depth)
