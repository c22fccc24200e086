use Rattle.edit_proof.proofs.Certifying.{laid_clear}
use Rattle.edit_proof.proofs.edits.judge_edit.Goals as goal

pub judge_near-found-requires-clause-clear : goal.judge_near-found-requires-clause-clear
judge_near-found-requires-clause-clear g c =
    laid_clear (g.S.Surface.mesh c.args.mesh.now) (g.S.Surface.mesh c.lay.new.mesh) c.args.change.now c.in_ok-laid.field-0 c.in-Some.laid c.as_slice.result.now c.next_face-fresh_from.result
    (g.met.S.Surface.sound c.args.mesh.now) c.requires.valid.clear c.in_ok-laid.ensures.laid c.in-Some.is c.as_slice.ensures c.next_face-fresh_from.ensures
