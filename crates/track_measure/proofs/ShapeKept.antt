-- Which lines leave the shape.
use Rattle.std.proofs.Common.{◌≡◌, Bool, true, false, List, [], ◌∷◌, refl, ap, sym, ◌∙◌, ap₂}
use Rattle.std.proofs.Common.{Result, Ok, Err, IfOk, subst}
use Rattle.std.specs.Prelude.{MatchBool}
use Rattle.grid_base.specs.declared.NoMemory.{NoMemory}
use Rattle.mesh_base.specs.Sides.{IsClosed}
use Rattle.edit_any.specs.Answered.{IsAnswered}
use Rattle.edit_any.specs.Dispatch.{edited}
use Rattle.shape_laws.specs.Kept.{HaveSameShape}
use Rattle.shape_laws.proofs.Moved.{moves_keep}
use Rattle.track_measure.specs.Measured.{KeepsShape}
use Rattle.mesh_base.specs.Mesh.{Mesh}
use Rattle.mesh_base.specs.Shifts.{Shifts, with_moves}
use Rattle.edit_base.specs.declared.Change.{Change}
use Rattle.log_text.specs.declared.LogLine.{LogLine}
use Rattle.log_text.specs.declared.LogLine.TheVariants as line
use Rattle.log_replay.specs.Moves.{AreMoves}
use Rattle.log_replay.specs.Replay.{Replay, closed}
use Rattle.log_run.specs.Fits.{LineFits}
use Rattle.log_run.specs.Laws.{IsValidState}
use Rattle.log_run.specs.States.{LogState, with_line}
use Rattle.track_measure.specs.MeasureLines.{shape_of}
use Rattle.track_measure.proofs.NewIds.{vertices_keep, faces_keep}

-- moves of live vertices
moved_shape : (m : Mesh) (moves : Shifts) → AreMoves m moves → shape_of (with_moves m moves) ≡ shape_of m
moved_shape m moves are = let same = moves_keep m moves are.once in ap₂ (λ c e. record { components = c; euler = e }) same.components same.euler

-- a group that is kept
kept_shape : (stack : List Mesh) (r : Replay) → shape_of (closed true stack r).mesh ≡ shape_of r.mesh
kept_shape [] r = refl
kept_shape (m ∷ outer) r = refl

-- all lines but those of edits that are done and of groups that are taken back
pub kept_by : (s : LogState) (l : LogLine) → IsValidState s → LineFits s l → ((change : Change) → l ≡ line.Did change → ⊥) → (l ≡ line.Close false → ⊥) → shape_of (with_line s l).replay.mesh ≡ shape_of s.replay.mesh
kept_by s (line.First version) valid fits no_edit not_undone = refl
kept_by s (line.Mesh k vertices faces) valid fits no_edit not_undone = refl
kept_by s (line.Step k) valid fits no_edit not_undone = refl
kept_by s (line.Vertices new) valid fits no_edit not_undone = vertices_keep s new valid.now.sound fits
kept_by s (line.Faces new) valid fits no_edit not_undone = faces_keep s new valid.now.sound fits
kept_by s (line.Solid v) valid fits no_edit not_undone = refl
kept_by s (line.Hit pair) valid fits no_edit not_undone = refl
kept_by s (line.Block ids) valid fits no_edit not_undone = refl
kept_by s (line.Move shift) valid fits no_edit not_undone = refl
kept_by s (line.Moved how) valid fits no_edit not_undone = moved_shape s.replay.mesh s.replay.moves valid.moves
kept_by s (line.Pass kind) valid fits no_edit not_undone = refl
kept_by s line.PassFit valid fits no_edit not_undone = refl
kept_by s (line.Did change) valid fits no_edit not_undone = absurd (no_edit change refl)
kept_by s (line.No what why) valid fits no_edit not_undone = refl
kept_by s line.Group valid fits no_edit not_undone = refl
kept_by s (line.Close true) valid fits no_edit not_undone = kept_shape s.replay.stack s.replay
kept_by s (line.Close false) valid fits no_edit not_undone = absurd (not_undone refl)
kept_by s (line.Refused why) valid fits no_edit not_undone = refl
kept_by s line.End valid fits no_edit not_undone = refl

-- ---- by what is answered

did_fits : (begun has_line : Bool) (m : Mesh) (change : Change) → MatchBool has_line ((begun ≡ false) × IsAnswered m change) ⊥ → IsAnswered m change
did_fits begun true m change fits = fits.1
did_fits begun false m change fits = absurd fits

kept_edit : (m : Mesh) (change : Change) (keeps : Bool) → (keeps ≡ true → IsClosed m → IsAnswered m change → HaveSameShape m (edited m change)) → KeepsShape m (line.Did change) keeps
kept_edit m change keeps law e s is valid fits =
    let P : Mesh → Type 0 = λ n. IsAnswered n change in
    let same = law e (subst IsClosed is valid.now.closed) (subst P is (did_fits s.is_begun s.has_line s.replay.mesh change fits)) in
    ap (λ n. shape_of (edited n change)) is ∙ ap₂ (λ c x. record { components = c; euler = x }) same.components same.euler

pub edit_kept : (m : Mesh) (change : Change) (b : Bool) → b ≡ true → (b ≡ true → IsClosed m → IsAnswered m change → HaveSameShape m (edited m change)) → KeepsShape m (line.Did change) true
edit_kept m change b known law = kept_edit m change true (λ e. law known)

pub collapse_kept : (m : Mesh) (change : Change) (r : Result Bool NoMemory) → IfOk r (λ kept. kept ≡ true → IsClosed m → IsAnswered m change → HaveSameShape m (edited m change)) → IfOk r (KeepsShape m (line.Did change))
collapse_kept m change (Err fault) law = tt
collapse_kept m change (Ok keeps) law = kept_edit m change keeps law

pub edit_answer : (m : Mesh) (l : LogLine) (change : Change) (r : Result Bool NoMemory) → l ≡ line.Did change → IfOk r (KeepsShape m (line.Did change)) → IfOk r (KeepsShape m l)
edit_answer m l change r is h = let P : LogLine → Type 0 = λ x. IfOk r (KeepsShape m x) in subst P (sym is) h

-- a group that is closed
pub close_answer : (m : Mesh) (l : LogLine) (kept : Bool) → l ≡ line.Close kept → KeepsShape m l kept
close_answer m l kept is e s at valid fits =
    kept_by s l valid fits (λ change did. absurd (let never = sym is ∙ did in cc)) (λ undone. absurd (let never : line.Close kept ≡ line.Close false = sym is ∙ undone in let no : true ≡ false = sym e ∙ cc in cc)) ∙ ap shape_of at

-- any other line
pub other_answer : (m : Mesh) (l : LogLine) → ((change : Change) → l ≡ line.Did change → ⊥) → ((kept : Bool) → l ≡ line.Close kept → ⊥) → KeepsShape m l true
other_answer m l no_edit no_close e s at valid fits = kept_by s l valid fits no_edit (no_close false) ∙ ap shape_of at
