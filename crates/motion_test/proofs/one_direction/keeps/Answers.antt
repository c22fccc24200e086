use Rattle.std.proofs.Common.{sym, ◌∙◌}
use Rattle.std.proofs.lemmas.Bool.{false≢true}
use Rattle.motion_test.specs.Heights.{heights_along}
use Rattle.motion_test.proofs.HeightLaws.{keeps_of, of_keeps}
use Rattle.motion_test.proofs.Sides.{none≢some, keep_by, by_keep, keep_side}
use Rattle.motion_test.proofs.one_direction.keeps.Goals as goal

pub returns-in-Some : goal.returns-in-Some
returns-in-Some c =
    let n = c.args.n in
    let s = c.args.s.now in
    let t = c.args.t.now in
    let side = c.in-Some.side in
    let here = (c.side_of.ensures side).0 c.in-Some.is in (
      λ yes. keeps_of n s t (keep_by side (heights_along n s) (heights_along n t) here (c.is_on.ensures.0 yes)),
      λ apart. c.is_on.ensures.1 (by_keep side (heights_along n s) (heights_along n t) here (of_keeps n s t apart)),
    )

pub returns-in-None : goal.returns-in-None
returns-in-None c =
    let n = c.args.n in
    let s = c.args.s.now in
    let t = c.args.t.now in (
      λ no. absurd (false≢true no),
      λ apart. absurd (keep_side (heights_along n s) (heights_along n t)
          (λ side on. none≢some side (sym c.in-None.is ∙ (c.side_of.ensures side).1 on)) (of_keeps n s t apart)),
    )
