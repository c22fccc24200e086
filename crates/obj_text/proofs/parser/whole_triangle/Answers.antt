use Rattle.line_text.specs.Remaining.{words_left}
use Rattle.obj_text.proofs.WholeFaces.{whole_face}
use Rattle.obj_text.proofs.parser.whole_triangle.Goals as goal

pub returns-in-None-clause-value : goal.returns-in-None-clause-value
returns-in-None-clause-value c =
    let a = c.in_ok-a.ensures in
    let b = c.in_ok-b.ensures in
    let d = c.in_ok-c.ensures in
    λ read. whole_face read _ _ _ (words_left c.args.words) _ _ _ a.taken b.taken d.taken c.in-None.ensures.steps.0 a.some a.small b.some b.small d.some d.small
