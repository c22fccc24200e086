-- What a caller who holds a tracker asks of it, call after call, and the log of all of it.
use Rattle.std.specs.Prelude.{◌≡◌, ◌⊎◌, ⊤, ℕ, ◌≤◌, ◌<◌, List, [], ◌∷◌, ◌++◌, length, Some, None, Ok}
use Rattle.std.specs.List.{AllByRecursion}
use Rattle.mesh_base.specs.declared.UseWhy.{UseWhy}
use Rattle.mesh_base.specs.declared.Scale.{Scale}
use Rattle.mesh_base.specs.Mesh.{Mesh}
use Rattle.mesh_base.specs.Valid.{IsValidSurface}
use Rattle.edit_base.specs.declared.Asked.{Asked}
use Rattle.step_choose.specs.declared.Settings.{Settings}
use Rattle.step_choose.specs.Settings.{AreWithinLimits}
use Rattle.step_text.specs.declared.TheConstants.{GROUPS_MAX}
use Rattle.step_text.specs.declared.Directive.{Directive}
use Rattle.step_text.specs.declared.Directive.TheVariants.{Group}
use Rattle.step_text.specs.Ranges.{IsInRange}
use Rattle.log_text.specs.declared.TheConstants.{COUNT_MAX, VERSION}
use Rattle.log_text.specs.declared.LogLine.{LogLine}
use Rattle.log_text.specs.declared.LogLine.TheVariants.{First, End}
use Rattle.log_read.specs.Laws.{IsAskedInRange}
use Rattle.log_text.specs.Lines.{text_of_lines}
use Rattle.log_replay.specs.Laws.{IsWithin}
use Rattle.track_engine.specs.Answers.{Answer}
use Rattle.track_engine.specs.Effects.{Effect, Proceeds, Refused, Unanswered, effect_of, edits_effect, undo_effect, set_effect, mesh_line}
use Rattle.track_engine.specs.Parts.{Writes}
use Rattle.track_engine.specs.State.{State, unsaved}
use Rattle.log_fits.specs.Logs.{IsLogOf}

-- one call: a directive, with what fields or the sizing answer to it; edits by ids; that the
-- innermost group is taken back; or other settings
pub data Call : Type 0 where
  Does : (what : Directive) (given : Answer) → Call
  Edits : (asked : List Asked) → Call
  Undoes : Call
  Sets : (set : Settings) → Call

-- what it does
abbrev pub effect_of_call : Call → State → Effect
effect_of_call (Does what given) s = effect_of given what s
effect_of_call (Edits asked) s = edits_effect asked s
effect_of_call Undoes s = undo_effect s.groups s
effect_of_call (Sets set) s = set_effect set s

-- the state that an effect leaves: one that is refused, or not answered to its end, leaves it as
-- it was
abbrev pub state_left : Effect → State → State
state_left (Proceeds lines next) s = next
state_left _ s = s

-- the lines that an effect tells; one that is refused tells none
abbrev pub lines_told : Effect → List LogLine
lines_told (Proceeds lines next) = lines
lines_told (Refused why) = []
lines_told (Unanswered lines) = []

-- the lines of calls, one after another, from a state on
abbrev pub history : List Call → State → List LogLine
history [] s = []
history (call ∷ calls) s =
    let effect = effect_of_call call s in
    lines_told effect ++ history calls (state_left effect s)

-- and the state that they leave
abbrev pub state_after : List Call → State → State
state_after [] s = s
state_after (call ∷ calls) s = state_after calls (state_left (effect_of_call call s) s)

-- ---- calls that a log may tell

-- a group is opened only where fewer than `GROUPS_MAX` are open
abbrev pub OpensFew : ℕ → Directive → Type 0
OpensFew open_groups Group = open_groups < GROUPS_MAX
OpensFew open_groups _ = ⊤

-- the numbers of a call are such as texts may give, and settings are within their limits
abbrev pub MayBeCalled : State → Call → Type 0
MayBeCalled s (Does what given) = IsInRange what × OpensFew (length s.groups) what
MayBeCalled s (Edits asked) = AllByRecursion IsAskedInRange asked
MayBeCalled s Undoes = ⊤
MayBeCalled s (Sets set) = AreWithinLimits set

-- each call may be made where those before it lead
abbrev pub MayAllBeCalled : List Call → State → Type 0
MayAllBeCalled [] s = ⊤
MayAllBeCalled (call ∷ calls) s =
    MayBeCalled s call × MayAllBeCalled calls (state_left (effect_of_call call s) s)

-- ---- the log of a caller

-- behind the head that a log file has, and before its last line: the lines of the calls
abbrev pub log_of_calls : Mesh → List Call → List LogLine
log_of_calls m calls =
    First VERSION ∷ mesh_line 0 m ∷ (history calls (unsaved m) ++ End ∷ [])

-- It is a log of the mesh by a scale, if the mesh is within the limits of the scale and sound, closed
-- and clear, whatever is asked of the tracker, call after call.
abbrev pub CallersHaveLogs : Type 0
CallersHaveLogs =
    (scale : Scale) (m : Mesh) (calls : List Call) → IsWithin scale m.limits → IsValidSurface m →
    MayAllBeCalled calls (unsaved m) → length calls ≤ COUNT_MAX → IsLogOf scale m (log_of_calls m calls)

-- ---- what is told call by call

-- A call was taken, or refused with nothing told, as the contract of each call says; the text is
-- what was told before and after it.
abbrev pub Took : Effect → State → State → List ℕ → List ℕ → Type 0
Took effect s next old new =
    Writes effect next (Some old) (Some new) (Ok None)
    ⊎ ((why : UseWhy) × (next ≡ s) × Writes effect next (Some old) (Some new) (Ok (Some why)))

-- calls were, one after another
abbrev pub TookAll : List Call → State → State → List ℕ → List ℕ → Type 0
TookAll [] s last old new = (last ≡ s) × (new ≡ old)
TookAll (call ∷ calls) s last old new =
    (next : State) × (told : List ℕ) × Took (effect_of_call call s) s next old told
    × TookAll calls next last told new

-- What they told is the text of their lines, and they left the state after them.
abbrev pub CallersAreTold : Type 0
CallersAreTold =
    (calls : List Call) (s last : State) (old new : List ℕ) → TookAll calls s last old new →
    (new ≡ old ++ text_of_lines (history calls s)) × (last ≡ state_after calls s)
