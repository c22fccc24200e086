use Rattle.std.proofs.Common.{sym, ◌∙◌}
use Rattle.std.proofs.lemmas.Bool.{false≢true}
use Rattle.motion_test.proofs.Sides.{none≢some, take_by, by_take, take_side}
use Rattle.motion_test.proofs.heights.heights_take_apart.Goals as goal

pub returns-in-Some : goal.returns-in-Some
returns-in-Some c =
    let side = c.in-Some.side in
    let here = (c.side_along.ensures side).0 c.in-Some.is in (
      λ yes. take_by side c.args.s c.args.t here (c.lie_weakly_on.ensures.0 yes),
      λ apart. c.lie_weakly_on.ensures.1 (by_take side c.args.s c.args.t here apart),
    )

pub returns-in-None : goal.returns-in-None
returns-in-None c = (
  λ no. absurd (false≢true no),
  λ apart. absurd (take_side c.args.s c.args.t (λ side on. none≢some side (sym c.in-None.is ∙ (c.side_along.ensures side).1 on)) apart),
)
