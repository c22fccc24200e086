use Rattle.std.proofs.Common.{◌≡◌, not, sym, ap, ◌∙◌}
use Rattle.edit_check.specs.Failing.{fails}
use Rattle.edit_check.specs.FacePairs.{upward, is_asked_elsewhere}
use Rattle.edit_check.proofs.FacePairs.{asked_does, no_and, and_true}
use Rattle.edit_check.proofs.face_pairs.boxed_side_fails.Goals as goal

pub returns-then-is_left_out : goal.returns-then-is_left_out
returns-then-is_left_out c =
    let n = c.args.near.now in
    let side = c.args.side.now in
    sym (asked_does (is_asked_elsewhere n.faces.now n.touched.now c.args.is_own side) (fails n.terms.touch n.terms.together.now n.terms.depth (upward side) c.args.f.now.face)
    (c.is_left_out.ensures c.if-is_left_out.true))

pub returns-then-not-fails : goal.returns-then-not-fails
returns-then-not-fails c =
    let n = c.args.near.now in
    let side = c.args.side.now in
    let f = c.args.f.now.face in
    sym (no_and (not (is_asked_elsewhere n.faces.now n.touched.now c.args.is_own side)) (fails n.terms.touch n.terms.together.now n.terms.depth (upward side) f)
    (ap (λ k. fails n.terms.touch n.terms.together.now n.terms.depth k f) (sym c.upward.ensures) ∙ sym c.if-not-fails.ensures))

pub returns : goal.returns
returns c =
    let n = c.args.near.now in
    let side = c.args.side.now in
    let f = c.args.f.now.face in
    ap not c.is_asked_elsewhere.ensures
    ∙ sym (and_true (not (is_asked_elsewhere n.faces.now n.touched.now c.args.is_own side)) (fails n.terms.touch n.terms.together.now n.terms.depth (upward side) f)
    (ap (λ k. fails n.terms.touch n.terms.together.now n.terms.depth k f) (sym c.upward.ensures) ∙ sym c.if-not-fails.ensures))
