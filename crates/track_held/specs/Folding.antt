-- A group of edits that is kept where it leaves no crowded edge at a vertex; and how a fold is closed.
use Rattle.std.specs.Prelude.{ℕ, ◌&&◌, Bool, not, is_some, nat_lt, List, [], ◌∷◌, ◌++◌, Option, Some, None, Result, Ok, Err, if◌then◌else◌}
use Rattle.mesh_base.specs.declared.UseWhy.{UseWhy}
use Rattle.edit_base.specs.declared.Asked.{Asked}
use Rattle.edit_base.specs.declared.Edit.{Edit}
use Rattle.edit_base.specs.declared.Why.{Why}
use Rattle.edit_base.specs.Edges.{edge_of}
use Rattle.log_text.specs.declared.LogLine.TheVariants.{Group as GroupLine, Close}
use Rattle.outside_io.specs.declared.stop.Stop.{Stop}
use Rattle.pass_run.specs.PassLines.{refused_in}
use Rattle.track_engine.specs.State.{Group, State}
use Rattle.track_engine.specs.Effects.{Effect, Proceeds, opened, kept_whole, taken_back, edited_lines, edited_mesh, edited_answers, after_edits}
use Rattle.track_held.specs.declared.given_edits.ToldAnswer.{ToldAnswer}
use Rattle.track_held.specs.Editing.{answer_told, why_told, reason_at}
use Rattle.track_held.specs.Folds.{fold_why, fold_edits, fold_vertex, first_crowded}

-- what a call answers as a directive that is not refused
abbrev pub untold : {T : Type 0} → Result T Stop → Result (Option UseWhy) Stop
untold (Ok x) = Ok None
untold (Err stop) = Err stop

-- ---- edits, in the state in which a group is open for them

-- whether one of the edits is refused
abbrev pub is_refused : List Asked → State → Bool
is_refused asked s = nat_lt 0 (refused_in (edited_lines asked s))

-- the other end of the first crowded edge that they leave at a vertex
abbrev pub crowded_after : List Asked → ℕ → State → Option ℕ
crowded_after asked v s = first_crowded (edited_mesh asked s) v

-- whether each is done, and they leave no crowded edge at the vertex
abbrev pub are_clean : List Asked → ℕ → State → Bool
are_clean asked v s = not (is_refused asked s) && not (is_some (crowded_after asked v s))

-- the innermost group is kept or taken back, as is chosen
abbrev pub finish_effect : Bool → List Group → State → Effect
finish_effect kept [] s = Proceeds [] s
finish_effect kept (group ∷ outer) s =
    Proceeds (Close kept ∷ []) (if kept then kept_whole outer s else taken_back group outer s)

-- what came of the last of edits; this, where there is none
abbrev pub last_told : ToldAnswer → List Edit → ToldAnswer
last_told told [] = told
last_told told (answer ∷ answers) = last_told (answer_told answer) answers

-- a crowded edge is the reason, with its ends; this is told, where there is none
abbrev pub unless_crowded : ℕ → Option ℕ → ToldAnswer → ToldAnswer
unless_crowded v None told = told
unless_crowded v (Some w) told = reason_at 2 v w 0

-- What is told of edits in a group: of the first that is refused the reason; else, where they leave
-- a crowded edge at the vertex, that it is crowded, with its ends; else what the last did.
abbrev pub group_told : List Asked → ℕ → State → ToldAnswer
group_told asked v s =
    let last = last_told (reason_at 0 0 0 0) (edited_answers asked s) in
    if is_refused asked s then last else unless_crowded v (crowded_after asked v s) last

-- ---- a group of its own

-- A group is opened, and edits are asked in it. Where each is done, and they leave no crowded edge
-- at the vertex, it is kept; else it is taken back, and all is as it was.
abbrev pub group_effect : List Asked → ℕ → State → Effect
group_effect asked v s =
    let clean = are_clean asked v (opened s) in
    Proceeds (GroupLine ∷ (edited_lines asked (opened s) ++ Close clean ∷ []))
    (if clean then kept_whole s.groups (after_edits asked (opened s)) else s)

-- ---- a fold

-- nothing is done where there is a reason against it
abbrev pub unless_why : Option Why → Effect → State → Effect
unless_why None effect s = effect
unless_why (Some why) effect s = Proceeds [] s

-- The edge from a to b is a fold: the edits that close it are a group of their own, and the vertex
-- is the one into which its corners are drawn. Where it is none, nothing is done and nothing told.
abbrev pub fold_effect : ℕ → ℕ → State → Effect
fold_effect a b s =
    let e = edge_of s.mesh a b in
    unless_why (fold_why s.mesh e) (group_effect (fold_edits s.mesh e) (fold_vertex e) s) s

-- the reason, where there is one
abbrev pub told_unless_why : Option Why → ToldAnswer → ToldAnswer
told_unless_why None told = told
told_unless_why (Some why) told = why_told why

-- what is told of it: why the edge is no fold, or else what is told of the edits
abbrev pub fold_told : ℕ → ℕ → State → ToldAnswer
fold_told a b s =
    let e = edge_of s.mesh a b in
    told_unless_why (fold_why s.mesh e)
    (group_told (fold_edits s.mesh e) (fold_vertex e) (opened s))
