use Rattle.line_text.specs.WrittenLines.{line_of_words}
use Rattle.obj_text.proofs.LinesOfItems.{line_of_next}
use Rattle.other_text.specs.OffWritten.{face_words}
use Rattle.other_text.proofs.off_writer.put_faces.Goals as goal

pub loop-f-preserved : goal.loop-f-preserved
loop-f-preserved c = line_of_next (λ f. line_of_words (face_words f)) _ _ _ c.args.faces.now c.loop-f.f-index _ c.loop-f-test.true c.loop-f.invariant c.in_ok-put_face.ensures
