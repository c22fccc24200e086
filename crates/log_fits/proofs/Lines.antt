-- Lines that fit one after another.
use Rattle.std.specs.List.{AllByRecursion}
use Rattle.std.specs.Prelude.{⊤}
use Rattle.std.proofs.Common.{◌≡◌, ℕ, Bool, true, false, List, [], ◌∷◌, ◌++◌, map, refl, ◌∙◌}
use Rattle.mesh_base.specs.declared.PairName.{PairName}
use Rattle.mesh_base.specs.Shifts.{Shifts}
use Rattle.step_choose.specs.Choice.{Way}
use Rattle.log_text.specs.declared.LogLine.{LogLine}
use Rattle.log_text.specs.declared.LogLine.TheVariants.{Hit, Block, Move, Moved, Pass, PassFit, Did, No}
use Rattle.log_replay.specs.Replay.{Replay, replayed, after}
use Rattle.log_replay.specs.OfPass.{AreOfPass}
use Rattle.log_replay.specs.Again.{LinesAreAgain}
use Rattle.log_run.specs.States.{LogState, begun_after}
use Rattle.track_engine.specs.Effects.{moving, hit_lines, block_lines, move_lines, way_lines, lines_of_step}
use Rattle.log_fits.specs.Fitting.{LinesFit}

-- a replay behind some lines
abbrev pub told : Bool → Replay → LogState
told begun r = record { replay = r; is_begun = begun; has_line = true; is_spent = false }

-- whether a step is begun behind lines
abbrev pub begun_behind : Bool → List LogLine → Bool
begun_behind begun [] = begun
begun_behind begun (line ∷ lines) = begun_behind (begun_after begun line) lines

pub fits_append : (begun : Bool) (r : Replay) (xs ys : List LogLine) → LinesFit (told begun r) xs → LinesFit (told (begun_behind begun xs) (after r xs)) ys → LinesFit (told begun r) (xs ++ ys)
fits_append begun r [] ys h k = k
fits_append begun r (x ∷ xs) ys h k = (h.0, fits_append (begun_after begun x) (replayed r x) xs ys h.1 k)

-- ---- a step

-- the lines within a step
abbrev IsOfStep : LogLine → Type 0
IsOfStep (Hit p) = ⊤
IsOfStep (Block ids) = ⊤
IsOfStep (Move s) = ⊤
IsOfStep _ = ⊥

within_step : (r : Replay) (xs ys : List LogLine) → AllByRecursion IsOfStep xs → LinesAreAgain r (xs ++ ys) → (LinesAreAgain (after r xs) ys → LinesFit (told true (after r xs)) ys) → LinesFit (told true r) (xs ++ ys)
within_step r [] ys is again rest = rest again
within_step r (Hit p ∷ xs) ys is again rest = (tt, within_step (replayed r (Hit p)) xs ys is.1 again.1 rest)
within_step r (Block ids ∷ xs) ys is again rest = (tt, within_step (replayed r (Block ids)) xs ys is.1 again.1 rest)
within_step r (Move s ∷ xs) ys is again rest = ((refl, again.0), within_step (replayed r (Move s)) xs ys is.1 again.1 rest)
within_step r (x ∷ xs) ys is again rest = absurd is.0

still_begun : (begun : Bool) (xs ys : List LogLine) → AllByRecursion IsOfStep xs → begun_behind begun (xs ++ ys) ≡ begun_behind begun ys
still_begun begun [] ys is = refl
still_begun begun (Hit p ∷ xs) ys is = still_begun begun xs ys is.1
still_begun begun (Block ids ∷ xs) ys is = still_begun begun xs ys is.1
still_begun begun (Move s ∷ xs) ys is = still_begun begun xs ys is.1
still_begun begun (x ∷ xs) ys is = absurd is.0

hits_are : (names : List PairName) → AllByRecursion IsOfStep (hit_lines names)
hits_are [] = tt
hits_are (p ∷ names) = (tt, hits_are names)

blocks_are : (blocks : List (List ℕ)) → AllByRecursion IsOfStep (block_lines blocks)
blocks_are [] = tt
blocks_are (ids ∷ blocks) = (tt, blocks_are blocks)

moves_are : (shifts : Shifts) → AllByRecursion IsOfStep (map (λ s. Move s) shifts)
moves_are [] = tt
moves_are (s ∷ shifts) = (tt, moves_are shifts)

-- the last line of a step
abbrev last_of : Way → List LogLine
last_of way = Moved way.how ∷ []

pub step_fits : (k : ℕ) (names : List PairName) (way : Way) (r : Replay) → LinesAreAgain r (lines_of_step k names way) → LinesFit (told false r) (lines_of_step k names way)
step_fits k names way r again =
    let begun : Replay = record r { moves = [] } in
    let behind_hits : Replay = after begun (hit_lines names) in
    let behind_blocks : Replay = after behind_hits (block_lines way.blocks) in (
      refl,
      within_step begun (hit_lines names) (way_lines way) (hits_are names) again.1 (λ there.
          within_step behind_hits (block_lines way.blocks) (move_lines way.taken ++ last_of way) (blocks_are way.blocks) there (λ further.
          within_step behind_blocks (move_lines way.taken) (last_of way) (moves_are (moving way.taken)) further (λ last. (refl, tt)))),
    )

pub step_ends : (k : ℕ) (names : List PairName) (way : Way) → begun_behind false (lines_of_step k names way) ≡ false
step_ends k names way =
    still_begun true (hit_lines names) (way_lines way) (hits_are names)
    ∙ still_begun true (block_lines way.blocks) (move_lines way.taken ++ last_of way) (blocks_are way.blocks)
    ∙ still_begun true (move_lines way.taken) (last_of way) (moves_are (moving way.taken))

-- ---- a pass

pub pass_fits : (r : Replay) (lines : List LogLine) → AreOfPass lines → LinesAreAgain r lines → LinesFit (told false r) lines
pass_fits r [] is again = tt
pass_fits r (Pass kind ∷ lines) is again = (tt, pass_fits (replayed r (Pass kind)) lines is.1 again.1)
pass_fits r (PassFit ∷ lines) is again = (tt, pass_fits (replayed r PassFit) lines is.1 again.1)
pass_fits r (Did change ∷ lines) is again = ((refl, again.0), pass_fits (replayed r (Did change)) lines is.1 again.1)
pass_fits r (No what why ∷ lines) is again = (tt, pass_fits (replayed r (No what why)) lines is.1 again.1)
pass_fits r (line ∷ lines) is again = absurd is.0

pub pass_ends : (lines : List LogLine) → AreOfPass lines → begun_behind false lines ≡ false
pass_ends [] is = refl
pass_ends (Pass kind ∷ lines) is = pass_ends lines is.1
pass_ends (PassFit ∷ lines) is = pass_ends lines is.1
pass_ends (Did change ∷ lines) is = pass_ends lines is.1
pass_ends (No what why ∷ lines) is = pass_ends lines is.1
pass_ends (line ∷ lines) is = absurd is.0
