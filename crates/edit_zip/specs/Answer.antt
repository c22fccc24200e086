-- What a zip answers: the first reason that holds, in its written order, or what is done.
use Rattle.std.specs.Prelude.{ℕ, ◌||◌, not, Bool, [], ◌∷◌, ◌++◌}
use Rattle.std.specs.Option.{option_map_or, unwrap_or}
use Rattle.grid_base.specs.declared.Positions.{Positions}
use Rattle.grid_base.specs.SeparationTests.{IsExact}
use Rattle.edit_base.specs.declared.answers.Why.TheVariants.{NoEdge, Crowded, Shared, Full, Doubled}
use Rattle.edit_base.specs.declared.answers.Change.TheVariants.{Zip}
use Rattle.edit_base.specs.declared.answers.Edit.{Edit}
use Rattle.edit_base.specs.declared.answers.Edit.TheVariants.{Done, No}
use Rattle.mesh_base.specs.Mesh.{Mesh}
use Rattle.mesh_base.specs.Pairs.{is_edge, is_crowded}
use Rattle.mesh_base.specs.Limits.{is_over_limits}
use Rattle.edit_base.specs.Laws.{Answer}
use Rattle.edit_base.specs.Reasons.{reason_if, first_reason}
use Rattle.edit_base.specs.Edges.{edge_of}
use Rattle.edit_zip.specs.Zip.{zip_mesh, taken_turn, last_reason, four_ids, repeats}

-- an edge is none, one is crowded, the two are not apart, the mesh would pass a limit, or
-- something is wrong with each turn
abbrev pub zip_answer : (Positions → Bool) → Mesh → ℕ → ℕ → ℕ → ℕ → Edit
zip_answer meets m u v x y =
    let s = edge_of m u v in
    let t = edge_of m x y in
    option_map_or (λ why. No why)
    (first_reason (
    reason_if (not (is_edge m s.a s.b) || not (is_edge m t.a t.b)) NoEdge
    ∷ reason_if (is_crowded m s.a s.b || is_crowded m t.a t.b) Crowded
    ∷ reason_if (repeats (four_ids s ++ four_ids t)) Shared
    ∷ reason_if (is_over_limits (zip_mesh m s t 0)) Full ∷ []))
    (option_map_or (λ turn. Done (Zip s.a s.b t.a t.b turn)) (taken_turn meets m s t)
    (No (unwrap_or (last_reason meets m s t) Doubled)))

-- neither edge is absent or crowded, and the eight ids are different
abbrev pub is_zip_ready : Mesh → ℕ → ℕ → ℕ → ℕ → Bool
is_zip_ready m u v x y =
    let s = edge_of m u v in
    let t = edge_of m x y in
    not (not (is_edge m s.a s.b) || not (is_edge m t.a t.b) || is_crowded m s.a s.b
    || is_crowded m t.a t.b || repeats (four_ids s ++ four_ids t))

-- what holds of each zip: of whatever two edges, tested by whatever test of meeting
abbrev pub OfZips : (Answer → Type 0) → Type 0
OfZips law = (meets : Positions → Bool) (u v x y : ℕ) → law (λ m. zip_answer meets m u v x y)

-- what holds of each zip that is tested by an exact test of meeting
abbrev pub OfExactZips : (Answer → Type 0) → Type 0
OfExactZips law = (meets : Positions → Bool) → IsExact meets → (u v x y : ℕ) →
    law (λ m. zip_answer meets m u v x y)
