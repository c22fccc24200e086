use Rattle.std.proofs.Common.{sym, ◌∙◌}
use Rattle.std.proofs.lemmas.Bool.{false≢true}
use Rattle.motion_test.specs.Heights.{heights_along}
use Rattle.motion_test.proofs.HeightLaws.{takes_of, of_takes}
use Rattle.motion_test.proofs.Sides.{none≢some, take_by, by_take, take_side}
use Rattle.motion_test.proofs.one_direction.takes.Goals as goal

pub returns-in-Some : goal.returns-in-Some
returns-in-Some c =
    let n = c.args.n in
    let s = c.args.s.now in
    let t = c.args.t.now in
    let side = c.in-Some.side in
    let here = (c.side_of.ensures side).0 c.in-Some.is in (
      λ yes. takes_of n s t (take_by side (heights_along n s) (heights_along n t) here (c.is_weakly_on.ensures.0 yes)),
      λ apart. c.is_weakly_on.ensures.1 (by_take side (heights_along n s) (heights_along n t) here (of_takes n s t apart)),
    )

pub returns-in-None : goal.returns-in-None
returns-in-None c =
    let n = c.args.n in
    let s = c.args.s.now in
    let t = c.args.t.now in (
      λ no. absurd (false≢true no),
      λ apart. absurd (take_side (heights_along n s) (heights_along n t)
          (λ side on. none≢some side (sym c.in-None.is ∙ (c.side_of.ensures side).1 on)) (of_takes n s t apart)),
    )
