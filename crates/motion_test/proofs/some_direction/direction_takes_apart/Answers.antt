use Rattle.std.proofs.Common.{refl, ⊎_elim, ◌++◌}
use Rattle.std.proofs.lemmas.Bool.{false≢true}
use Rattle.grid_base.specs.Separation.{TakesApart, axes, ten_directions}
use Rattle.motion_test.proofs.InThree.{any_left, any_right, any_split}
use Rattle.motion_test.proofs.some_direction.direction_takes_apart.Goals as goal

pub returns-then-axis_takes_apart : goal.returns-then-axis_takes_apart
returns-then-axis_takes_apart c =
    let P = TakesApart c.args.s.now c.args.t.now in
    let a = axes in let b = ten_directions c.args.s.now in let d = ten_directions c.args.t.now in
    (λ _. any_left P (a ++ b) d (any_left P a b (c.if-axis_takes_apart.ensures.0 refl)), λ _. refl)

pub returns-then-own_takes_apart : goal.returns-then-own_takes_apart
returns-then-own_takes_apart c =
    let P = TakesApart c.args.s.now c.args.t.now in
    let a = axes in let b = ten_directions c.args.s.now in let d = ten_directions c.args.t.now in
    (λ _. any_left P (a ++ b) d (any_right P a b (c.if-own_takes_apart.ensures.0 refl)), λ _. refl)

pub returns : goal.returns
returns c =
    let P = TakesApart c.args.s.now c.args.t.now in
    let a = axes in let b = ten_directions c.args.s.now in let d = ten_directions c.args.t.now in (
      λ yes. any_right P (a ++ b) d (c.own_takes_apart-2.ensures.0 yes),
      λ any. ⊎_elim
          (λ two. ⊎_elim
          (λ one. absurd (false≢true (c.if-axis_takes_apart.ensures.1 one)))
          (λ one. absurd (false≢true (c.if-own_takes_apart.ensures.1 one)))
          (any_split P a b two))
          (λ one. c.own_takes_apart-2.ensures.1 one)
          (any_split P (a ++ b) d any),
    )
