use Rattle.std.proofs.Common.{refl}
use Rattle.std.proofs.lemmas.Bool.{false≢true}
use Rattle.grid_base.specs.Separation.{KeepsApart}
use Rattle.motion_test.specs.Heights.{axis_x, axis_y, axis_z}
use Rattle.motion_test.proofs.HeightLaws.{keeps_of, of_keeps}
use Rattle.motion_test.proofs.InThree.{any_first, any_second, any_third, any_of_three}
use Rattle.motion_test.proofs.axes.axis_keeps_apart.Goals as goal

pub returns-then-heights_keep_apart : goal.returns-then-heights_keep_apart
returns-then-heights_keep_apart c =
    let s = c.args.s.now in
    let t = c.args.t.now in
    let x = rw (c.along_x.ensures, c.along_x-2.ensures) at c.if-heights_keep_apart.ensures in
    (λ _. any_first (KeepsApart s t) axis_x axis_y axis_z (keeps_of axis_x s t (x.0 refl)), λ _. refl)

pub returns-then-heights_keep_apart-2 : goal.returns-then-heights_keep_apart-2
returns-then-heights_keep_apart-2 c =
    let s = c.args.s.now in
    let t = c.args.t.now in
    let y = rw (c.along_y.ensures, c.along_y-2.ensures) at c.if-heights_keep_apart-2.ensures in
    (λ _. any_second (KeepsApart s t) axis_x axis_y axis_z (keeps_of axis_y s t (y.0 refl)), λ _. refl)

pub returns : goal.returns
returns c =
    let s = c.args.s.now in
    let t = c.args.t.now in
    let x = rw (c.along_x.ensures, c.along_x-2.ensures) at c.if-heights_keep_apart.ensures in
    let y = rw (c.along_y.ensures, c.along_y-2.ensures) at c.if-heights_keep_apart-2.ensures in
    let z = rw (c.along_z.ensures, c.along_z-2.ensures) at c.heights_keep_apart-3.ensures in (
      λ yes. any_third (KeepsApart s t) axis_x axis_y axis_z (keeps_of axis_z s t (z.0 yes)),
      λ some. any_of_three (KeepsApart s t) axis_x axis_y axis_z
          (λ h. absurd (false≢true (x.1 (of_keeps axis_x s t h))))
          (λ h. absurd (false≢true (y.1 (of_keeps axis_y s t h))))
          (λ h. z.1 (of_keeps axis_z s t h))
          some,
    )
