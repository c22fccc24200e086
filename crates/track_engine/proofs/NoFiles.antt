-- Lines that name no file, and the replay of a step's lines.
use Rattle.std.proofs.Common.{◌≡◌, ℕ, ◌+◌, not, List, [], ◌∷◌, ◌++◌, map, refl, ap, sym, ◌∙◌, subst, append_assoc, append-nil, inl, inr, Ok, Err, Result}
use Rattle.std.specs.declared.option.Option.{Option}
use Rattle.std.specs.declared.option.Option.TheVariants.{None, Some}
use Rattle.mesh_base.specs.declared.ShiftOf.{ShiftOf}
use Rattle.mesh_base.specs.Mesh.{Mesh}
use Rattle.mesh_base.specs.declared.PairName.{PairName}
use Rattle.step_choose.specs.Choice.{Way}
use Rattle.mesh_base.specs.declared.UseWhy.{UseWhy}
use Rattle.log_text.specs.Lines.{text_of_lines}
use Rattle.log_text.specs.declared.LogLine.{LogLine}
use Rattle.log_text.specs.declared.LogLine.TheVariants.{First, Step, Vertices, Faces, Solid, Hit, Block, Move, Moved, Pass, PassFit, Did, No, Mesh as MeshLine, Group as GroupLine, Close, End, Refused as RefusedLine}
use Rattle.log_replay.specs.Replay.{Replay, after, replayed}
use Rattle.step_text.specs.declared.Directive.TheVariants as directive
use Rattle.outside_io.specs.Desk.{Files}
use Rattle.outside_io.specs.Sink.{appended}
use Rattle.outside_io.specs.declared.stop.Stop.{Stop}
use Rattle.track_engine.specs.State.{State, standing}
use Rattle.track_engine.specs.Answers.{Nothing}
use Rattle.track_engine.specs.Effects.{Effect, effect_of, Proceeds, hits, taken, moving, moved_mesh, hit_lines, block_lines, move_lines, way_lines, lines_of_step, is_whole, step_lines, after_step}
use Rattle.log_write.specs.Written.{WrittenInPart}
use Rattle.track_engine.specs.Saved.{Target, files_of, stored}
use Rattle.track_engine.specs.Parts.{StepTakes, Advances, Takes, Tells}
use Rattle.track_engine.specs.World.{Logs, StopsIn}
use Rattle.log_replay.proofs.Replaying.{after-append}
use Rattle.track_engine.proofs.OpenMarks.{stack_failed}

abbrev pub NoFiles : List LogLine → Type 0
NoFiles [] = Unit {0}
NoFiles (MeshLine k v f ∷ lines) = ⊥
NoFiles (line ∷ lines) = NoFiles lines

pub files_of-none : (to : Target) (lines : List LogLine) (from : Replay) → NoFiles lines → files_of to from lines ≡ []
files_of-none to [] from none = refl
files_of-none to (MeshLine k v f ∷ lines) from none = absurd none
files_of-none to (First version ∷ lines) from none = files_of-none to lines (replayed from (First version)) none
files_of-none to (Step k ∷ lines) from none = files_of-none to lines (replayed from (Step k)) none
files_of-none to (Vertices new ∷ lines) from none = files_of-none to lines (replayed from (Vertices new)) none
files_of-none to (Faces new ∷ lines) from none = files_of-none to lines (replayed from (Faces new)) none
files_of-none to (Solid v ∷ lines) from none = files_of-none to lines (replayed from (Solid v)) none
files_of-none to (GroupLine ∷ lines) from none = files_of-none to lines (replayed from GroupLine) none
files_of-none to (Close kept ∷ lines) from none = files_of-none to lines (replayed from (Close kept)) none
files_of-none to (Hit p ∷ lines) from none = files_of-none to lines (replayed from (Hit p)) none
files_of-none to (Block ids ∷ lines) from none = files_of-none to lines (replayed from (Block ids)) none
files_of-none to (Pass kind ∷ lines) from none = files_of-none to lines (replayed from (Pass kind)) none
files_of-none to (PassFit ∷ lines) from none = files_of-none to lines (replayed from PassFit) none
files_of-none to (Did change ∷ lines) from none = files_of-none to lines (replayed from (Did change)) none
files_of-none to (No what why ∷ lines) from none = files_of-none to lines (replayed from (No what why)) none
files_of-none to (Move s ∷ lines) from none = files_of-none to lines (replayed from (Move s)) none
files_of-none to (Moved how ∷ lines) from none = files_of-none to lines (replayed from (Moved how)) none
files_of-none to (End ∷ lines) from none = files_of-none to lines (replayed from End) none
files_of-none to (RefusedLine why ∷ lines) from none = files_of-none to lines (replayed from (RefusedLine why)) none

front_none : (xs ys : List LogLine) → NoFiles (xs ++ ys) → NoFiles xs
front_none [] ys none = tt
front_none (MeshLine k v f ∷ xs) ys none = absurd none
front_none (First version ∷ xs) ys none = front_none xs ys none
front_none (Step k ∷ xs) ys none = front_none xs ys none
front_none (Vertices new ∷ xs) ys none = front_none xs ys none
front_none (Faces new ∷ xs) ys none = front_none xs ys none
front_none (Solid v ∷ xs) ys none = front_none xs ys none
front_none (GroupLine ∷ xs) ys none = front_none xs ys none
front_none (Close kept ∷ xs) ys none = front_none xs ys none
front_none (Hit p ∷ xs) ys none = front_none xs ys none
front_none (Block ids ∷ xs) ys none = front_none xs ys none
front_none (Pass kind ∷ xs) ys none = front_none xs ys none
front_none (PassFit ∷ xs) ys none = front_none xs ys none
front_none (Did change ∷ xs) ys none = front_none xs ys none
front_none (No what why ∷ xs) ys none = front_none xs ys none
front_none (Move s ∷ xs) ys none = front_none xs ys none
front_none (Moved how ∷ xs) ys none = front_none xs ys none
front_none (End ∷ xs) ys none = front_none xs ys none
front_none (RefusedLine why ∷ xs) ys none = front_none xs ys none

moves_none : (shifts : List ShiftOf) (rest : List LogLine) → NoFiles rest → NoFiles (map (λ s. Move s) shifts ++ rest)
moves_none [] rest none = none
moves_none (s ∷ shifts) rest none = moves_none shifts rest none

hits_none : (pairs : List PairName) (rest : List LogLine) → NoFiles rest → NoFiles (hit_lines pairs ++ rest)
hits_none [] rest none = none
hits_none (p ∷ pairs) rest none = hits_none pairs rest none

blocks_none : (blocks : List (List ℕ)) (rest : List LogLine) → NoFiles rest → NoFiles (block_lines blocks ++ rest)
blocks_none [] rest none = none
blocks_none (ids ∷ blocks) rest none = blocks_none blocks rest none

way_none : (way : Way) → NoFiles (way_lines way)
way_none way = blocks_none way.blocks (move_lines way.taken ++ Moved way.how ∷ []) (moves_none (moving way.taken) (Moved way.how ∷ []) tt)

lines_none : (k : ℕ) (pairs : List PairName) (way : Way) → NoFiles (lines_of_step k pairs way)
lines_none k pairs way = hits_none pairs (way_lines way) (way_none way)

step_none : (s : State) → NoFiles (step_lines s)
step_none s = lines_none (s.steps + 1) (hits s) (taken s)

-- an effect that proceeds tells its lines
pub tells_all : (t : Effect) (lines : List LogLine) (next : State) → t ≡ Proceeds lines next → Tells t lines
tells_all t lines next goes = let P : Effect → Type 0 = λ e. Tells e lines in subst P (sym goes) refl

-- lines that name no file leave the files
pub logs_from_said : (to : Target) (from : Replay) (lines : List LogLine) (files : Option Files) (old new : Option (List ℕ)) → files_of to from lines ≡ [] → new ≡ appended old (text_of_lines lines) → Logs to from lines (record { files = files; written = old }) (record { files = files; written = new })
logs_from_said to from lines files old new none said = record { written = said; files = ap (λ l. stored l files) (sym none) }

pub stops_from_said : (stop : Stop) (to : Target) (from : Replay) (lines : List LogLine) (files : Option Files) (old new : Option (List ℕ)) → NoFiles lines → WrittenInPart old new lines → StopsIn stop to from lines (record { files = files; written = old }) (record { files = files; written = new })
stops_from_said stop to from lines files old new none said = record {
  text = said;
  files = inl (ap (λ l. stored l files) (sym (files_of-none to said.done from (front_none said.done said.rest (subst NoFiles said.split none)))));
}

logs_step : (to : Target) (s : State) (files : Option Files) (old new : Option (List ℕ)) → new ≡ appended old (text_of_lines (step_lines s)) → Logs to (standing s) (step_lines s) (record { files = files; written = old }) (record { files = files; written = new })
logs_step to s files old new said = logs_from_said to (standing s) (step_lines s) files old new (files_of-none to (step_lines s) (standing s) (step_none s)) said

stops_step : (stop : Stop) (to : Target) (s : State) (files : Option Files) (old new : Option (List ℕ)) → WrittenInPart old new (step_lines s) → StopsIn stop to (standing s) (step_lines s) (record { files = files; written = old }) (record { files = files; written = new })
stops_step stop to s files old new said = stops_from_said stop to (standing s) (step_lines s) files old new (step_none s) said

-- `move` lines gather their shifts
pub after-moves : (from : Replay) (shifts : List ShiftOf) → after from (map (λ s. Move s) shifts) ≡ record from { moves = from.moves ++ shifts }
after-moves from [] = ap (λ (m : List ShiftOf). record from { moves = m }) (sym (append-nil from.moves))
after-moves from (s ∷ shifts) = after-moves (replayed from (Move s)) shifts ∙ ap (λ (m : List ShiftOf). record from { moves = m }) (append_assoc from.moves (s ∷ []) shifts)

-- `hit` lines change nothing
pub after-hits : (from : Replay) (pairs : List PairName) → after from (hit_lines pairs) ≡ from
after-hits from [] = refl
after-hits from (p ∷ pairs) = after-hits from pairs

-- `block` lines change nothing
pub after-blocks : (from : Replay) (blocks : List (List ℕ)) → after from (block_lines blocks) ≡ from
after-blocks from [] = refl
after-blocks from (ids ∷ blocks) = after-blocks from blocks

-- the lines of a way move the mesh by the shifts that are taken, and of a step too
after-way : (from : Replay) (way : Way) → from.moves ≡ [] → after from (way_lines way) ≡ record from { mesh = moved_mesh from.mesh way.taken; moves = [] }
after-way from way none =
    after-append from (block_lines way.blocks) (move_lines way.taken ++ Moved way.how ∷ [])
    ∙ ap (λ r. after r (move_lines way.taken ++ Moved way.how ∷ [])) (after-blocks from way.blocks)
    ∙ after-append from (move_lines way.taken) (Moved way.how ∷ [])
    ∙ ap (λ r. replayed r (Moved way.how)) (after-moves from (moving way.taken) ∙ ap (λ (m : List ShiftOf). record from { moves = m ++ moving way.taken }) none)

pub after-lines_of_step : (from : Replay) (k : ℕ) (pairs : List PairName) (way : Way) → after from (lines_of_step k pairs way) ≡ record from { mesh = moved_mesh from.mesh way.taken; moves = [] }
after-lines_of_step from k pairs way =
    let begun : Replay = record from { moves = [] } in
    after-append begun (hit_lines pairs) (way_lines way)
    ∙ ap (λ r. after r (way_lines way)) (after-hits begun pairs)
    ∙ after-way begun way refl

-- the replay of a step's lines is the state after it
pub after-step_lines : (s : State) → after (standing s) (step_lines s) ≡ standing (after_step s)
after-step_lines s =
    after-lines_of_step (standing s) (s.steps + 1) (hits s) (taken s)
    ∙ ap (λ (l : List Mesh). record { mesh = moved_mesh s.mesh (taken s).taken; moves = []; stack = l }) (sym (stack_failed (not (is_whole (taken s).how)) s.groups))

takes_step : (to : Target) (s t : State) (files : Option Files) (old new : Option (List ℕ)) → effect_of Nothing directive.Step s ≡ Proceeds (step_lines s) t → t ≡ after_step s → new ≡ appended old (text_of_lines (step_lines s))
    → Takes to (effect_of Nothing directive.Step s) s t (record { files = files; written = old }) (record { files = files; written = new })
takes_step to s t files old new goes is said = record {
  lines = step_lines s;
  goes = goes;
  logs = logs_step to s files old new said;
  replay = after-step_lines s ∙ ap standing (sym is);
}

-- a step, as an effect
pub advances_step : (to : Target) (s t : State) (files : Option Files) (old new : Option (List ℕ)) (r : Result (Option UseWhy) Stop) → StepTakes s t old new r
    → Advances to (effect_of Nothing directive.Step s) s t (record { files = files; written = old }) (record { files = files; written = new }) r
advances_step to s t files old new (Ok None) takes = takes_step to s t files old new takes.0 takes.1 takes.2
advances_step to s t files old new (Ok (Some why)) takes = (takes.0, ap (λ (w : Option (List ℕ)). record { files = files; written = w }) takes.1)
advances_step to s t files old new (Err stop) (inl same) = inl (ap (λ (w : Option (List ℕ)). record { files = files; written = w }) same)
advances_step to s t files old new (Err stop) (inr part) = inr (record { lines = step_lines s; tells = tells_all _ (step_lines s) (after_step s) part.0; stops = stops_step stop to s files old new part.1 })
