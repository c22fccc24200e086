-- Passes keep the mesh.
use Rattle.std.proofs.Common.{Bool, true, false, cond, ◌≡◌, ℕ, List, [], ◌∷◌, ◌++◌, refl, sym, subst, Option, Some, None}
use Rattle.grid_base.specs.declared.Positions.{Positions}
use Rattle.grid_base.specs.SeparationTests.{IsExact}
use Rattle.grid_decided.specs.Decided.{meets_exactly, meets_exactly-is_exact}
use Rattle.mesh_base.specs.Mesh.{Mesh, IsSound}
use Rattle.mesh_base.specs.Sides.{IsClosed}
use Rattle.mesh_base.specs.Placements.{IsClearMesh}
use Rattle.mesh_base.specs.Valid.{IsValidSurface}
use Rattle.edit_base.specs.declared.Asked.{Asked}
use Rattle.edit_base.specs.declared.answers.Change.{Change}
use Rattle.edit_base.specs.declared.Edit.{Edit}
use Rattle.edit_base.specs.declared.Edit.TheVariants.{Done, No}
use Rattle.edit_any.specs.Dispatch.{answer_to, edited, scaffold_of}
use Rattle.edit_base.specs.Clauses.{mesh_after}
use Rattle.edit_base.specs.Laws.{Answer, StaysSound, StaysClosed, StaysClear, MotionIsClear}
use Rattle.log_text.specs.declared.LogLine.{LogLine}
use Rattle.log_replay.specs.Replay.{Replay, at_mesh}
use Rattle.log_replay.specs.Safe.{NoSolidMoves, LineKeepsTheMesh, LinesKeepTheMesh}
use Rattle.log_replay.proofs.Replaying.{each_then}
use Rattle.pass_run.specs.declared.terms.PassTerms.{PassTerms}
use Rattle.pass_run.specs.Candidates.{candidates}
use Rattle.pass_run.specs.PassLines.{PassRules, rules_of, line_of, answer_by, lines_asked, mesh_asked, lines_of, mesh_from, ends, lines_from, mesh_after_all, pass_lines}
use Rattle.pass_run.specs.Promises.{PassesKeepTheMesh}
use Rattle.pass_run.proofs.Asking.{asked_makes}
use Rattle.pass_run.proofs.SolidEdits.{none_moves}
use Rattle.edit_any.proofs.Asked.{asked_stays_sound, asked_stays_closed, asked_stays_clear, asked_moves_clear}

-- an answer with the laws of an edit
answer_keeps : (answer : Answer) → StaysSound edited answer → StaysClosed edited answer → StaysClear edited answer → MotionIsClear scaffold_of answer
    → ((m : Mesh) (change : Change) → IsSound m → IsClosed m → answer m ≡ Done change → NoSolidMoves m change) → (r : Replay) (what : Asked) → IsValidSurface r.mesh → (edit : Edit) → answer r.mesh ≡ edit → LinesKeepTheMesh r (line_of what edit ∷ []) × IsValidSurface (mesh_after edited r.mesh edit)
answer_keeps answer sound closed clear motion solid r what good (Done change) e =
    let m : Mesh = r.mesh in
    let left : IsValidSurface (mesh_after edited m (Done change)) = record { sound = sound m change good.sound good.closed e; closed = closed m change good.sound good.closed e; clear = clear m change good.sound good.closed good.clear e } in
    (((record { before = good; along = motion m change good.sound good.closed e; after = left; solid = solid m change good.sound good.closed e }, left), tt), left)
answer_keeps answer sound closed clear motion solid r what good (No why) e = (((tt, good), tt), good)

module _ (meets : Positions → Bool) (exact : IsExact meets) (depth : ℕ) where
  -- the answer to what is asked
  pub asked_keeps : (r : Replay) → IsValidSurface r.mesh → (what : Asked) → LinesKeepTheMesh r (line_of what (answer_to meets r.mesh depth what) ∷ []) × IsValidSurface (mesh_after edited r.mesh (answer_to meets r.mesh depth what))
  asked_keeps r good what =
      answer_keeps (λ m. answer_to meets m depth what) (asked_stays_sound meets depth what) (asked_stays_closed meets depth what) (asked_stays_clear meets exact depth what) (asked_moves_clear meets exact depth what)
      (none_moves meets depth what) r what good (answer_to meets r.mesh depth what) refl

module _ (rules : PassRules) (exact : IsExact rules.meets) where
  -- what is asked, at its time
  one_keeps : (r : Replay) → IsValidSurface r.mesh → (what : Asked) → LinesKeepTheMesh r (lines_of rules r.mesh what) × IsValidSurface (mesh_from rules r.mesh what)
  one_keeps r good what = by_call (rules.choice r.mesh what)
    where
      by_call : (call : Option Asked) → LinesKeepTheMesh r (lines_asked (answer_by rules r.mesh) call) × IsValidSurface (mesh_asked (answer_by rules r.mesh) r.mesh call)
      by_call (Some other) = asked_keeps rules.meets exact rules.depth r good other
      by_call None = (tt, good)

  -- all that is asked
  pub all_keep : (r : Replay) → IsValidSurface r.mesh → (all : List Asked) → LinesKeepTheMesh r (lines_from rules r.mesh all) × IsValidSurface (mesh_after_all rules r.mesh all)
  all_keep r good [] = (tt, good)
  all_keep r good (what ∷ rest) = by_test (ends rules.grouped here) (all_keep (record r { mesh = next }) kept.1 rest)
    where
      here : List LogLine
      here = lines_of rules r.mesh what

      next : Mesh
      next = mesh_from rules r.mesh what

      kept : LinesKeepTheMesh r here × IsValidSurface next
      kept = one_keeps r good what

      by_test : (b : Bool) → LinesKeepTheMesh (record r { mesh = next }) (lines_from rules next rest) × IsValidSurface (mesh_after_all rules next rest)
          → LinesKeepTheMesh r (here ++ cond b [] (lines_from rules next rest)) × IsValidSurface (cond b next (mesh_after_all rules next rest))
      by_test true later = (each_then LineKeepsTheMesh r here [] kept.0 tt, kept.1)
      by_test false later =
          let P : Replay → Type 0 = λ s. LinesKeepTheMesh s (lines_from rules next rest) in
          (each_then LineKeepsTheMesh r here (lines_from rules next rest) kept.0 (subst P (sym (asked_makes rules r what)) later.0), later.1)

pub passes_keep : PassesKeepTheMesh
passes_keep meets exact r terms good =
    let kept = all_keep (rules_of meets terms) exact r good (candidates r.mesh terms.kind) in
    (((tt, good), kept.0), kept.1)

-- the lines of a pass by the exact test
pub pass_keeps : (terms : PassTerms) (m : Mesh) → IsSound m → IsClosed m → IsClearMesh m → LinesKeepTheMesh (at_mesh m) (pass_lines meets_exactly terms m)
pass_keeps terms m sound closed clear = (passes_keep meets_exactly meets_exactly-is_exact (at_mesh m) terms (record { sound = sound; closed = closed; clear = clear })).0
