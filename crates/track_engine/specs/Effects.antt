-- What each directive does, and the log of all of them.
use Rattle.std.specs.Prelude.{ℕ, ◌+◌, ◌==◌, ◌||◌, Bool, true, false, not, is_some, nat_lt, take, List}
use Rattle.std.specs.Prelude.{[], ◌∷◌, ◌++◌, map, Option, Some, None, Result, Ok, Err, if◌then◌else◌}
use Rattle.std.specs.Option.{option_map}
use Rattle.std.specs.List.{find, filter}
use Rattle.std.specs.FinMap as finite
use Rattle.grid_base.specs.declared.TheConstants.{BOX, SHIFT_MAX}
use Rattle.grid_base.specs.declared.Shift.{Shift}
use Rattle.grid_base.specs.Triples.{Triple, plus}
use Rattle.grid_base.specs.Points.{displacement_of, is_within}
use Rattle.mesh_base.specs.declared.ShiftOf.{ShiftOf}
use Rattle.mesh_base.specs.declared.PairName.{PairName}
use Rattle.mesh_base.specs.declared.UseWhy.{UseWhy}
use Rattle.mesh_base.specs.declared.UseWhy.TheVariants.{NoVertex, ShiftRange, Box, NoField, Solid as SolidVertex}
use Rattle.mesh_base.specs.declared.How.{How}
use Rattle.mesh_base.specs.declared.How.TheVariants.{Whole}
use Rattle.mesh_base.specs.Mesh.{Mesh, is_solid}
use Rattle.mesh_base.specs.Changes.{with_solid}
use Rattle.mesh_base.specs.Pairs.{edges}
use Rattle.mesh_base.specs.Placements.{rest_positions}
use Rattle.mesh_base.specs.Shifts.{Shifts, with_shift, with_moves}
use Rattle.mesh_base.specs.Failing.{failing}
use Rattle.grid_decided.specs.Decided.{meets_exactly}
use Rattle.mesh_sizing.specs.declared.sizing.Want.{Want}
use Rattle.step_choose.specs.declared.Settings.{Settings}
use Rattle.step_choose.specs.Choice.{Way, way_taken}
use Rattle.step_text.specs.declared.Directive.{Directive}
use Rattle.step_text.specs.declared.Directive.TheVariants as directive
use Rattle.step_text.specs.declared.Placed.{Placed}
use Rattle.log_text.specs.declared.Refusal.{Refusal}
use Rattle.log_text.specs.declared.Refusal.TheVariants.{StepUse}
use Rattle.log_text.specs.declared.LogLine.{LogLine}
use Rattle.log_text.specs.declared.LogLine.TheVariants.{Step, Solid, Hit, Block, Move, Moved, Mesh as MeshLine}
use Rattle.log_text.specs.declared.LogLine.TheVariants.{Group as GroupLine, Close, End, Refused as RefusedLine}
use Rattle.edit_base.specs.declared.PassKind.{PassKind}
use Rattle.edit_base.specs.declared.Asked.{Asked}
use Rattle.edit_base.specs.declared.Edit.{Edit}
use Rattle.pass_run.specs.PassLines.{lines_due, mesh_due, refused_in, lines_from, mesh_after_all}
use Rattle.pass_run.specs.Edits.{edit_rules, answers_from}
use Rattle.pass_run.specs.Fits.{fit_lines, mesh_after_fit}
use Rattle.track_engine.specs.State.{Group, State, start, still_at, asked_of, asked_in, is_open}
use Rattle.track_engine.specs.Answers.{Answer, NoSuchField, FieldShifts, Wanted, WantedOfFirst, Answers, first, later}

-- ---- shifts that are asked

-- what is asked of a vertex when a shift is added
abbrev pub summed : Shift → ShiftOf → Triple
summed by s = plus (displacement_of s.by) (displacement_of by)

-- whether the summed shift of a vertex that may move is above the limit
abbrev pub is_beyond : Mesh → (ℕ → Shift) → ShiftOf → Bool
is_beyond m by s = not (is_solid m s.v || is_within SHIFT_MAX (summed (by s.v) s))

-- the first vertex of which that holds
abbrev pub first_beyond : Mesh → (ℕ → Shift) → Shifts → Option ℕ
first_beyond m by asked = option_map (λ s. s.v) (find (is_beyond m by) asked)

-- a shift for each vertex is added to what is asked of a vertex, unless that is solid
abbrev pub summed_unless_solid : Mesh → (ℕ → Shift) → ShiftOf → ShiftOf
summed_unless_solid m by s = if is_solid m s.v then s else with_shift s (summed (by s.v) s)

-- the same of each vertex
abbrev pub all_summed : Mesh → (ℕ → Shift) → Shifts → Shifts
all_summed m by asked = map (summed_unless_solid m by) asked

-- the same, or the first vertex whose summed shift is above the limit
abbrev pub sum_or_range : Option ℕ → Mesh → (ℕ → Shift) → Shifts → Result Shifts UseWhy
sum_or_range None m by asked = Ok (all_summed m by asked)
sum_or_range (Some v) m by asked = Err (ShiftRange v)

-- displacements added to all that is requested, or the first vertex for which that is too much
abbrev pub sum_of_all : Mesh → (ℕ → Shift) → Shifts → Result Shifts UseWhy
sum_of_all m by asked = sum_or_range (first_beyond m by asked) m by asked

-- the shift is added to what is asked of one vertex
abbrev pub one_summed : ℕ → Shift → Shifts → Shifts
one_summed v by asked = map (λ s. if s.v == v then with_shift s (summed by s) else s) asked

-- the same, or why not: no such vertex lives, or it is solid, or
-- its summed shift is above the limit
abbrev pub sum_at : Option ShiftOf → Bool → ℕ → Shift → Shifts → Result Shifts UseWhy
sum_at None solid v by asked = Err (NoVertex v)
sum_at (Some s) true v by asked = Err (SolidVertex v)
sum_at (Some s) false v by asked =
    if is_within SHIFT_MAX (summed by s) then Ok (one_summed v by asked) else Err (ShiftRange v)

-- a displacement added to what is requested of one vertex, or why it cannot be requested
abbrev pub sum_of_one : Mesh → ℕ → Shift → Shifts → Result Shifts UseWhy
sum_of_one m v by asked = sum_at (asked_of v asked) (is_solid m v) v by asked

-- nothing is asked of one vertex
abbrev pub one_still : ℕ → Shifts → Shifts
one_still v asked = map (λ s. if s.v == v then still_at v else s) asked

-- ---- groups

-- the innermost open group has failed, where this holds or it had failed before
abbrev pub fail_if : Bool → List Group → List Group
fail_if failed [] = []
fail_if failed (group ∷ outer) = record group { failed = group.failed || failed } ∷ outer

-- ---- a step

-- where a vertex ends
abbrev pub end_of : Mesh → ShiftOf → Triple
end_of m s = plus (rest_positions m s.v) (displacement_of s.by)

-- the first vertex whose asked end is outside the box
abbrev pub first_outside : Mesh → Shifts → Option ℕ
first_outside m asked = option_map (λ s. s.v) (find (λ s. not (is_within BOX (end_of m s))) asked)

-- whether the vertex moves
abbrev pub moves : ShiftOf → Bool
moves s = not (is_within 0 (displacement_of s.by))

-- the shifts that are not zero
abbrev pub moving : Shifts → Shifts
moving shifts = filter moves shifts

-- a `move` line for each shift that is not zero
abbrev pub move_lines : Shifts → List LogLine
move_lines shifts = map (λ s. Move s) (moving shifts)

-- the mesh after the shifts
abbrev pub moved_mesh : Mesh → Shifts → Mesh
moved_mesh m shifts = with_moves m (moving shifts)

-- no vertex is asked to move any more
abbrev pub all_still : Shifts → Shifts
all_still shifts = map (λ s. still_at s.v) shifts

-- the pairs that do not pass in the asked step, in order
unfoldable pub hits : State → List PairName
hits s = failing meets_exactly s.mesh s.asked s.set.depth

-- how the step is taken: by the asked shifts, where all pairs pass, and
-- otherwise by the first way that applies
unfoldable pub taken : State → Way
taken s = way_taken meets_exactly s.mesh s.asked s.set

-- a `hit` line for each pair
abbrev pub hit_lines : List PairName → List LogLine
hit_lines pairs = map (λ p. Hit p) pairs

-- a `block` line for each block
abbrev pub block_lines : List (List ℕ) → List LogLine
block_lines blocks = map (λ ids. Block ids) blocks

-- the lines of a way: its blocks, its moves, and which it is
abbrev pub way_lines : Way → List LogLine
way_lines way = block_lines way.blocks ++ (move_lines way.taken ++ Moved way.how ∷ [])

-- the lines of a step: its hits, and how it was taken
abbrev pub lines_of_step : ℕ → List PairName → Way → List LogLine
lines_of_step k pairs way = Step k ∷ (hit_lines pairs ++ way_lines way)

-- the lines of the step that comes next
abbrev pub step_lines : State → List LogLine
step_lines s = lines_of_step (s.steps + 1) (hits s) (taken s)

-- whether a step is taken by the asked shifts
abbrev pub is_whole : How → Bool
is_whole Whole = true
is_whole _ = false

-- a step that is not taken whole makes the innermost open group fail
abbrev pub after_step : State → State
after_step s = record s {
  mesh = moved_mesh s.mesh (taken s).taken;
  asked = all_still s.asked;
  steps = s.steps + 1;
  groups = fail_if (not (is_whole (taken s).how)) s.groups;
}

-- ---- a pass

-- the lines of a pass over the mesh; in a group its first `no` line ends it
unfoldable pub passed_lines : PassKind → State → List LogLine
passed_lines kind s = lines_due kind s.set.depth (is_open s.groups) s.mesh

-- the mesh that it leaves
unfoldable pub passed_mesh : PassKind → State → Mesh
passed_mesh kind s = mesh_due kind s.set.depth (is_open s.groups) s.mesh

-- After a pass by these lines, which leaves this mesh: a vertex that is kept keeps what is asked of
-- it, a new one and a solid one are asked nothing. A `no` line makes the innermost open group fail.
abbrev pub after_lines : List LogLine → Mesh → State → State
after_lines lines m s = record s {
  mesh = m;
  asked = asked_in m s.asked;
  groups = fail_if (nat_lt 0 (refused_in lines)) s.groups;
}

-- the state after a pass
abbrev pub after_pass : PassKind → State → State
after_pass kind s = after_lines (passed_lines kind s) (passed_mesh kind s) s

-- ---- a pass by a sizing

-- its lines over these edges of the mesh, by what is wanted of each; in a
-- group its first `no` line ends it
unfoldable pub fitted_lines : (ℕ × ℕ → Want) → List (ℕ × ℕ) → State → List LogLine
fitted_lines wants es s = fit_lines meets_exactly wants s.set.depth (is_open s.groups) s.mesh es

-- the mesh that it leaves
unfoldable pub fitted_mesh : (ℕ × ℕ → Want) → List (ℕ × ℕ) → State → Mesh
fitted_mesh wants es s = mesh_after_fit meets_exactly wants s.set.depth (is_open s.groups) s.mesh es

-- the state after a pass by a sizing
abbrev pub after_fit : (ℕ × ℕ → Want) → List (ℕ × ℕ) → State → State
after_fit wants es s = after_lines (fitted_lines wants es s) (fitted_mesh wants es s) s

-- ---- edits that are asked for by ids

-- their lines; in a group the first `no` line ends them
unfoldable pub edited_lines : List Asked → State → List LogLine
edited_lines asked s =
    lines_from (edit_rules meets_exactly s.set.depth (is_open s.groups)) s.mesh asked

-- the mesh that they leave
unfoldable pub edited_mesh : List Asked → State → Mesh
edited_mesh asked s =
    mesh_after_all (edit_rules meets_exactly s.set.depth (is_open s.groups)) s.mesh asked

-- what they answer, in order
unfoldable pub edited_answers : List Asked → State → List Edit
edited_answers asked s =
    answers_from (edit_rules meets_exactly s.set.depth (is_open s.groups)) s.mesh asked

-- the state after edits by ids
abbrev pub after_edits : List Asked → State → State
after_edits asked s = after_lines (edited_lines asked s) (edited_mesh asked s) s

-- ---- a directive

-- what a directive gives: its lines and the state after it, or a reason against it, or, where it is
-- not answered to its end, the lines up to there
pub data Effect : Type 0 where
  Proceeds : (lines : List LogLine) (next : State) → Effect
  Refused : (why : UseWhy) → Effect
  Unanswered : (lines : List LogLine) → Effect

-- what a shift does: this is requested now, or it is refused
abbrev pub shift_effect : Result Shifts UseWhy → State → Effect
shift_effect (Ok asked) s = Proceeds [] (record s { asked = asked })
shift_effect (Err why) s = Refused why

-- The shifts that a field answers are added to what is asked, or there is no such field. A
-- drive that is not answered waits.
abbrev pub drive_effect : Answer → State → Effect
drive_effect (FieldShifts by) s = shift_effect (sum_of_all s.mesh by s.asked) s
drive_effect NoSuchField s = Refused NoField
drive_effect _ s = Unanswered []

-- A pass goes over all edges by what is wanted of them. One that is answered of
-- the first alone waits after these.
abbrev pub fit_effect : Answer → State → Effect
fit_effect (Wanted wants) s =
    Proceeds (fitted_lines wants (edges s.mesh) s) (after_fit wants (edges s.mesh) s)
fit_effect (WantedOfFirst count wants) s =
    Unanswered (fitted_lines wants (take count (edges s.mesh)) s)
fit_effect _ s = Unanswered []

-- from here on the settings are these
abbrev pub set_effect : Settings → State → Effect
set_effect set s = Proceeds [] (record s { set = set })

-- what a step does: refused where a vertex would leave the box, else taken
abbrev pub step_effect : Option ℕ → State → Effect
step_effect (Some v) s = Refused (Box v)
step_effect None s = Proceeds (step_lines s) (after_step s)

-- the line of a mesh that is saved, with its live numbers
abbrev pub mesh_line : ℕ → Mesh → LogLine
mesh_line k m = MeshLine k (finite.len m.points) (finite.len m.faces)

-- the vertex is solid from here on, and is asked nothing
abbrev pub after_solid : ℕ → State → State
after_solid v s = record s { mesh = with_solid s.mesh v; asked = one_still v s.asked }

-- the same, where it is live
abbrev pub solid_effect : Bool → ℕ → State → Effect
solid_effect true v s = Proceeds (Solid v ∷ []) (after_solid v s)
solid_effect false v s = Refused (NoVertex v)

-- a group is opened, which has not failed
abbrev pub opened : State → State
opened s =
    record s { groups = record { mesh = s.mesh; asked = s.asked; failed = false } ∷ s.groups }

-- the innermost group is kept
abbrev pub kept_whole : List Group → State → State
kept_whole outer s = record s { groups = outer }

-- it is taken back: the mesh and the asked shifts are those at its opening; the settings, the
-- steps taken and the meshes saved stay
abbrev pub taken_back : Group → List Group → State → State
taken_back group outer s = record s { mesh = group.mesh; asked = group.asked; groups = outer }

-- the innermost group is closed: kept, or, where it has failed, taken back;
-- nothing is done where none is open
abbrev pub close_effect : List Group → State → Effect
close_effect [] s = Proceeds [] s
close_effect (group ∷ outer) s =
    Proceeds (Close (not group.failed) ∷ [])
    (if group.failed then taken_back group outer s else kept_whole outer s)

-- the innermost group is taken back, whether it has failed or not; nothing is done where
-- none is open
abbrev pub undo_effect : List Group → State → Effect
undo_effect [] s = Proceeds [] s
undo_effect (group ∷ outer) s = Proceeds (Close false ∷ []) (taken_back group outer s)

-- What edits do that are asked for by ids. They are never refused: of each the answer says whether
-- it was done.
abbrev pub edits_effect : List Asked → State → Effect
edits_effect asked s = Proceeds (edited_lines asked s) (after_edits asked s)

-- What a directive does, by what is given to it. Only `drive` and `fit` ask for something.
abbrev pub effect_of : Answer → Directive → State → Effect
effect_of given (directive.SetDepth depth) s = set_effect (record s.set { depth = depth }) s
effect_of given (directive.SetPasses passes) s = set_effect (record s.set { passes = passes }) s
effect_of given (directive.SetZones zones) s = set_effect (record s.set { zones = zones }) s
effect_of given (directive.SetHalvings halvings) s =
    set_effect (record s.set { halvings = halvings }) s
effect_of given (directive.ShiftOne v by) s = shift_effect (sum_of_one s.mesh v by s.asked) s
effect_of given (directive.ShiftAll by) s = shift_effect (sum_of_all s.mesh (λ v. by) s.asked) s
effect_of given (directive.Drive name) s = drive_effect given s
effect_of given (directive.Solid v) s = solid_effect (is_some (finite.get s.mesh.points v)) v s
effect_of given directive.Step s = step_effect (first_outside s.mesh s.asked) s
effect_of given (directive.Pass kind) s = Proceeds (passed_lines kind s) (after_pass kind s)
effect_of given directive.Fit s = fit_effect given s
effect_of given directive.Save s =
    Proceeds (mesh_line s.saved s.mesh ∷ []) (record s { saved = s.saved + 1 })
effect_of given directive.Group s = Proceeds (GroupLine ∷ []) (opened s)
effect_of given directive.Close s = close_effect s.groups s

-- ---- all directives

-- how a log ends: by a last line, which tells a refusal or none; or it is cut short in a
-- directive that is not answered to its end
pub data Ending : Type 0 where
  Ended : (told : Option Refusal) → Ending
  CutShort : Ending

-- a log, and how it ends
pub record ExpectedLog : Type 0 where
  pub lines : List LogLine
  pub ending : Ending

-- the refusal that a last line tells
abbrev pub ending_of : LogLine → Option Refusal
ending_of (RefusedLine why) = Some why
ending_of _ = None

-- a log whose last line is a refusal
abbrev pub refused : Refusal → ExpectedLog
refused why = record { lines = RefusedLine why ∷ []; ending = Ended (Some why) }

-- no line more
abbrev pub cut_short : ExpectedLog
cut_short = record { lines = []; ending = CutShort }

-- lines, and then a log
abbrev pub with_log : List LogLine → ExpectedLog → ExpectedLog
with_log lines rest = record { lines = lines ++ rest.lines; ending = rest.ending }

-- The lines of a directive at a line of the step file, and then the others'. Where it is not
-- answered to its end, the log is cut short there.
abbrev pub and_then : ℕ → Effect → (State → ExpectedLog) → ExpectedLog
and_then line (Proceeds lines s) next = with_log lines (next s)
and_then line (Refused why) next = refused (StepUse line why)
and_then line (Unanswered lines) next = with_log lines cut_short

-- the log of the directives, from a state on, as far as they are answered
abbrev pub log_from : Answers → List Placed → State → ExpectedLog
log_from answers [] s = record { lines = End ∷ []; ending = Ended None }
log_from answers (placed ∷ more) s =
    and_then placed.line (effect_of (first answers) placed.what s) (log_from (later answers) more)

-- the log from the first mesh that is saved on, as far as the directives are answered
abbrev pub log_of_mesh : Answers → Mesh → List Placed → ExpectedLog
log_of_mesh answers m steps = with_log (mesh_line 0 m ∷ []) (log_from answers steps (start m))
