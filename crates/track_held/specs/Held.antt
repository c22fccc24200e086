-- What is held of an engine between two calls.
use Rattle.std.specs.Prelude.{ℕ, Bool, List, Option}
use Rattle.mesh_base.specs.declared.surface.Surface.{Ghosts}
use Rattle.track_engine.specs.declared.engine.Engine.{Engine}
use Rattle.track_engine.specs.State.{State}
use Rattle.track_engine.specs.Engines.{state_in}
use Rattle.track_held.specs.declared.held.Held.{Held}
use Rattle.log_text.specs.declared.LogLine.{LogLine}
use Rattle.log_write.specs.Kept as kept

-- the engine
abbrev pub engine_in : {S : Type 0} {g : Ghosts S} → Held S g → Engine S
engine_in held = held.engine

-- the state in which it stands
abbrev pub held_state : {S : Type 0} {g : Ghosts S} → Held S g → State
held_state {g = g} held = state_in g.mesh g.kept held.engine

-- the lines that it has told since they were last taken or forgotten
abbrev pub lines_in : {S : Type 0} {g : Ghosts S} → Held S g → List LogLine
lines_in held = kept.lines_in held.log

-- whether it keeps the lines that it tells
abbrev pub keeps_lines : {S : Type 0} {g : Ghosts S} → Held S g → Bool
keeps_lines held = kept.keeps held.log

-- the text of the lines that it has told, where it keeps them
abbrev pub log_in : {S : Type 0} {g : Ghosts S} → Held S g → Option (List ℕ)
log_in held = kept.told_in held.log

-- the text that was made of them
abbrev pub text_in : {S : Type 0} {g : Ghosts S} → Held S g → List ℕ
text_in held = kept.text_in held.log

-- whether no directive has stopped in its lines
abbrev pub goes_on : {S : Type 0} {g : Ghosts S} → Held S g → Bool
goes_on held = held.goes_on
