-- The collapses of its edges that take a whole component away, or the reason against it.
use Rattle.std.specs.Prelude.{ℕ, ◌==◌, Bool, nat_lt, is_some, List, [], ◌∷◌, ◌++◌, length, map, slice_get, Option, if◌then◌else◌}
use Rattle.std.specs.Option.{option_map_or}
use Rattle.std.specs.List.{flat_map, list_any}
use Rattle.std.specs.FinMap as finite
use Rattle.grid_decided.specs.Decided.{meets_exactly}
use Rattle.mesh_base.specs.Mesh.{Mesh, is_solid}
use Rattle.mesh_base.specs.Pairs.{neighbours_above}
use Rattle.edit_base.specs.declared.Asked.{Asked}
use Rattle.edit_base.specs.declared.Asked.TheVariants as asked
use Rattle.edit_base.specs.declared.Edit.{Edit}
use Rattle.edit_base.specs.declared.Edit.TheVariants as edit
use Rattle.edit_base.specs.declared.Why.{Why}
use Rattle.edit_base.specs.declared.Why.TheVariants.{NoEdge, Solid}
use Rattle.edit_base.specs.Clauses.{mesh_after}
use Rattle.edit_base.specs.Reasons.{reason_if, first_reason}
use Rattle.edit_any.specs.Dispatch.{answer_to, edited}
use Rattle.mesh_measure.specs.Components.{component_vertices}

-- ---- edits that are tried

-- what an edit answers, tested to a depth
abbrev pub answer_at : ℕ → Mesh → Asked → Edit
answer_at depth m what = answer_to meets_exactly m depth what

-- the mesh that it leaves
abbrev pub after_one : ℕ → Mesh → Asked → Mesh
after_one depth m what = mesh_after edited m (answer_at depth m what)

-- the mesh that edits leave of which each is tried in what the one before it leaves
abbrev pub after_each : ℕ → Mesh → List Asked → Mesh
after_each depth m [] = m
after_each depth m (what ∷ rest) = after_each depth (after_one depth m what) rest

-- an edit, if this answer says that it is done
abbrev pub if_done : Asked → Edit → List Asked
if_done what (edit.Done change) = what ∷ []
if_done what (edit.No why) = []

-- those of them that are done
abbrev pub done_of : ℕ → Mesh → List Asked → List Asked
done_of depth m [] = []
done_of depth m (what ∷ rest) =
    if_done what (answer_at depth m what) ++ done_of depth (after_one depth m what) rest

-- ---- rounds over the edges of some vertices

-- the collapse of each edge from a vertex to one above it, in order
abbrev pub collapses_from : Mesh → ℕ → List Asked
collapses_from m v = map (λ w. asked.Collapse v w) (neighbours_above m v)

-- and from each of these vertices
abbrev pub collapses_among : Mesh → List ℕ → List Asked
collapses_among m vs = flat_map (collapses_from m) vs

-- A round tries each of these collapses once: those that it does.
abbrev pub done_in_round : ℕ → List ℕ → Mesh → List Asked
done_in_round depth vs m = done_of depth m (collapses_among m vs)

-- the mesh that it leaves
abbrev pub after_round : ℕ → List ℕ → Mesh → Mesh
after_round depth vs m = after_each depth m (collapses_among m vs)

-- whether it does something
abbrev pub does_some : ℕ → List ℕ → Mesh → Bool
does_some depth vs m = nat_lt 0 (length (done_in_round depth vs m))

-- Rounds follow each other until one does nothing, and no more than the first list is long: what
-- they do.
abbrev pub done_in_rounds : List ℕ → ℕ → List ℕ → Mesh → List Asked
done_in_rounds [] depth vs m = []
done_in_rounds (turn ∷ turns) depth vs m =
    done_in_round depth vs m
    ++ (if does_some depth vs m then done_in_rounds turns depth vs (after_round depth vs m) else [])

-- the mesh that they leave
abbrev pub after_rounds : List ℕ → ℕ → List ℕ → Mesh → Mesh
after_rounds [] depth vs m = m
after_rounds (turn ∷ turns) depth vs m =
    let next = after_round depth vs m in
    if does_some depth vs m then after_rounds turns depth vs next else next

-- ---- a component

-- whether one of these vertices lives
abbrev pub any_live : Mesh → List ℕ → Bool
any_live m vs = list_any (λ v. is_some (finite.get m.points v)) vs

-- whether one of them is solid
abbrev pub any_solid : Mesh → List ℕ → Bool
any_solid m vs = list_any (λ v. is_solid m v) vs

-- the reason that an answer has
abbrev pub why_in : Edit → Why
why_in (edit.No why) = why
why_in (edit.Done change) = NoEdge

-- the reason against the first of some edits
abbrev pub first_why : ℕ → Mesh → List Asked → Why
first_why depth m asked =
    option_map_or (λ what. why_in (answer_at depth m what)) (slice_get asked 0) NoEdge

-- the reason against the first collapse that is left, where one of the vertices lives
abbrev pub why_left : ℕ → List ℕ → Mesh → Option Why
why_left depth vs m = reason_if (any_live m vs) (first_why depth m (collapses_among m vs))

-- The collapses that take a component away: rounds over its edges, as many as it has vertices, as
-- each round but the last takes one.
abbrev pub drop_collapses : ℕ → Mesh → ℕ → List Asked
drop_collapses depth m v =
    let vs = component_vertices m v in
    done_in_rounds vs depth vs m

-- the mesh that they leave
abbrev pub drop_mesh : ℕ → Mesh → ℕ → Mesh
drop_mesh depth m v =
    let vs = component_vertices m v in
    after_rounds vs depth vs m

-- Why the component of a vertex is not dropped: no face is at the vertex; one of its vertices is
-- solid; or one is left, and then the reason is that against the first collapse that is left.
abbrev pub drop_why : ℕ → Mesh → ℕ → Option Why
drop_why depth m v =
    let vs = component_vertices m v in
    first_reason (
    reason_if (length vs == 0) NoEdge
    ∷ reason_if (any_solid m vs) Solid
    ∷ why_left depth vs (drop_mesh depth m v) ∷ [])
