use Rattle.std.proofs.Common.{◌∙◌}
use Rattle.grid_decided.specs.Decided.{meets_exactly, meets_exactly-is_exact}
use Rattle.edit_base.specs.declared.asked.Asked.{Asked}
use Rattle.edit_base.proofs.Left.{motion_was_clear}
use Rattle.edit_split.specs.Answer.{split_answer}
use Rattle.edit_split.specs.Done.{IsSplit, split_result}
use Rattle.edit_flip.specs.Answer.{flip_answer}
use Rattle.edit_flip.specs.Done.{IsFlip, flip_result}
use Rattle.edit_collapse.specs.Answer.{collapse_answer}
use Rattle.edit_collapse.specs.Done.{IsCollapse, collapse_result}
use Rattle.edit_zip.specs.Answer.{zip_answer}
use Rattle.edit_zip.specs.Done.{IsZip, zip_result}
use Rattle.edit_pinch.specs.Answer.{pinch_answer}
use Rattle.edit_pinch.specs.Done.{IsPinch, pinch_result}
use Rattle.edit_split.proofs.SplitDone.{split_always_makes}
use Rattle.edit_flip.proofs.FlipDone.{flip_always_makes}
use Rattle.edit_collapse.proofs.CollapseDone.{collapse_always_makes}
use Rattle.edit_zip.proofs.ZipDone.{zip_always_makes}
use Rattle.edit_pinch.proofs.PinchDone.{pinch_always_makes}
use Rattle.edit_any.specs.Dispatch.{edited, scaffold_of}
use Rattle.edit_any.proofs.Asked.{split_makes, flip_makes, collapse_makes, zip_makes, pinch_makes, asked_moves_clear}
use Rattle.edit_any.proofs.Left.{left_alike}
use Rattle.edit_any.proofs.dispatch.edit.Goals as goal

pub returns-in-Split-clause-mesh : goal.returns-in-Split-clause-mesh
returns-in-Split-clause-mesh g c =
    let m = g.S.Surface.mesh c.args.mesh.now in
    c.split.ensures.mesh
    ∙ left_alike IsSplit split_result edited (λ m. split_answer meets_exactly m c.in-Split.a c.in-Split.b c.args.depth) (split_always_makes meets_exactly c.in-Split.a c.in-Split.b c.args.depth) split_makes m c.split.result c.split.ensures.answer

pub returns-in-Split-clause-motion : goal.returns-in-Split-clause-motion
returns-in-Split-clause-motion g c =
    let m = g.S.Surface.mesh c.args.mesh.now in
    motion_was_clear scaffold_of (λ m. split_answer meets_exactly m c.in-Split.a c.in-Split.b c.args.depth) m (g.met.S.Surface.sound c.args.mesh.now) c.requires.closed
    (asked_moves_clear meets_exactly meets_exactly-is_exact c.args.depth (Asked.Split c.in-Split.a c.in-Split.b)) c.split.result c.split.ensures.answer

pub returns-in-Flip-clause-mesh : goal.returns-in-Flip-clause-mesh
returns-in-Flip-clause-mesh g c =
    let m = g.S.Surface.mesh c.args.mesh.now in
    c.flip.ensures.mesh
    ∙ left_alike IsFlip flip_result edited (λ m. flip_answer meets_exactly m c.in-Flip.a c.in-Flip.b c.args.depth) (flip_always_makes meets_exactly c.in-Flip.a c.in-Flip.b c.args.depth) flip_makes m c.flip.result c.flip.ensures.answer

pub returns-in-Flip-clause-motion : goal.returns-in-Flip-clause-motion
returns-in-Flip-clause-motion g c =
    let m = g.S.Surface.mesh c.args.mesh.now in
    motion_was_clear scaffold_of (λ m. flip_answer meets_exactly m c.in-Flip.a c.in-Flip.b c.args.depth) m (g.met.S.Surface.sound c.args.mesh.now) c.requires.closed
    (asked_moves_clear meets_exactly meets_exactly-is_exact c.args.depth (Asked.Flip c.in-Flip.a c.in-Flip.b)) c.flip.result c.flip.ensures.answer

pub returns-in-Collapse-clause-mesh : goal.returns-in-Collapse-clause-mesh
returns-in-Collapse-clause-mesh g c =
    let m = g.S.Surface.mesh c.args.mesh.now in
    c.collapse.ensures.mesh
    ∙ left_alike IsCollapse collapse_result edited (λ m. collapse_answer meets_exactly m c.in-Collapse.a c.in-Collapse.b c.args.depth) (collapse_always_makes meets_exactly c.in-Collapse.a c.in-Collapse.b c.args.depth) collapse_makes m c.collapse.result c.collapse.ensures.answer

pub returns-in-Collapse-clause-motion : goal.returns-in-Collapse-clause-motion
returns-in-Collapse-clause-motion g c =
    let m = g.S.Surface.mesh c.args.mesh.now in
    motion_was_clear scaffold_of (λ m. collapse_answer meets_exactly m c.in-Collapse.a c.in-Collapse.b c.args.depth) m (g.met.S.Surface.sound c.args.mesh.now) c.requires.closed
    (asked_moves_clear meets_exactly meets_exactly-is_exact c.args.depth (Asked.Collapse c.in-Collapse.a c.in-Collapse.b)) c.collapse.result c.collapse.ensures.answer

pub returns-in-Zip-clause-mesh : goal.returns-in-Zip-clause-mesh
returns-in-Zip-clause-mesh g c =
    let m = g.S.Surface.mesh c.args.mesh.now in
    c.zip.ensures.mesh
    ∙ left_alike IsZip zip_result edited (λ m. zip_answer meets_exactly m c.in-Zip.a c.in-Zip.b c.in-Zip.e c.in-Zip.f) (zip_always_makes meets_exactly c.in-Zip.a c.in-Zip.b c.in-Zip.e c.in-Zip.f) zip_makes m c.zip.result c.zip.ensures.answer

pub returns-in-Zip-clause-motion : goal.returns-in-Zip-clause-motion
returns-in-Zip-clause-motion g c =
    let m = g.S.Surface.mesh c.args.mesh.now in
    motion_was_clear scaffold_of (λ m. zip_answer meets_exactly m c.in-Zip.a c.in-Zip.b c.in-Zip.e c.in-Zip.f) m (g.met.S.Surface.sound c.args.mesh.now) c.requires.closed
    (asked_moves_clear meets_exactly meets_exactly-is_exact c.args.depth (Asked.Zip c.in-Zip.a c.in-Zip.b c.in-Zip.e c.in-Zip.f)) c.zip.result c.zip.ensures.answer

pub returns-in-Pinch-clause-mesh : goal.returns-in-Pinch-clause-mesh
returns-in-Pinch-clause-mesh g c =
    let m = g.S.Surface.mesh c.args.mesh.now in
    c.pinch.ensures.mesh
    ∙ left_alike IsPinch pinch_result edited (λ m. pinch_answer meets_exactly m c.in-Pinch.v c.args.depth) (pinch_always_makes meets_exactly c.in-Pinch.v c.args.depth) pinch_makes m c.pinch.result c.pinch.ensures.answer

pub returns-in-Pinch-clause-motion : goal.returns-in-Pinch-clause-motion
returns-in-Pinch-clause-motion g c =
    let m = g.S.Surface.mesh c.args.mesh.now in
    motion_was_clear scaffold_of (λ m. pinch_answer meets_exactly m c.in-Pinch.v c.args.depth) m (g.met.S.Surface.sound c.args.mesh.now) c.requires.closed
    (asked_moves_clear meets_exactly meets_exactly-is_exact c.args.depth (Asked.Pinch c.in-Pinch.v)) c.pinch.result c.pinch.ensures.answer
