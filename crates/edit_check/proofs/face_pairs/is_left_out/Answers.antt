use Rattle.std.proofs.Common.{◌≡◌, ◌||◌, true, false, sym, ap, subst, ◌∙◌}
use Rattle.edit_check.specs.Boxed.{is_side_of_boxed}
use Rattle.edit_check.specs.FacePairs.{runs_down_beside, is_asked_elsewhere}
use Rattle.edit_check.proofs.FacePairs.{or_true}
use Rattle.edit_check.proofs.face_pairs.is_left_out.Goals as goal

pub returns-then-is_own : goal.returns-then-is_own
returns-then-is_own c = λ yes.
    let n = c.args.near.now in
    subst (λ own. is_asked_elsewhere n.faces.now n.touched.now own c.args.side.now ≡ true) (sym c.if-is_own.true) (sym c.runs_down_beside.ensures ∙ yes)

pub returns-then-is_side_of_some : goal.returns-then-is_side_of_some
returns-then-is_side_of_some c = λ yes.
    let n = c.args.near.now in
    let side = c.args.side.now in
    subst (λ own. is_asked_elsewhere n.faces.now n.touched.now own side ≡ true) (sym c.if-is_own.false)
    (or_true (is_side_of_boxed side.a side.b n.touched.now) (runs_down_beside n.faces.now side) (sym c.is_side_of_some.ensures ∙ c.if-is_side_of_some.true))
