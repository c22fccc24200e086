use Rattle.std.proofs.Common.{rules, SFits}
use Rattle.std.specs.Int.{w128}
use Rattle.std.proofs.lemmas.Bool.{false≢true}
use Rattle.grid_meets.proofs.Crossing.{crossing_meets, not_under, not_over, not_outside_de, not_outside_ec, not_outside_cd}
use Rattle.grid_meets.proofs.Comparisons.{below_zero, not_below_zero, above_zero, not_above_zero, at_most_zero, tests_at_most_zero}
use Rattle.grid_meets.proofs.crosses_downward.Goals as goal

pub returns-then-over_a-lt0 : goal.returns-then-over_a-lt0
returns-then-over_a-lt0 c =
    let fits : SFits w128 c.args.over_a = c.ranges.over_a in (
      λ no. absurd (false≢true no),
      λ w. absurd (not_under c.args.a c.args.b c.args.c c.args.d c.args.e c.requires.apart (below_zero _ _ fits c.requires.from c.if-over_a-lt0.true) w),
    )

pub returns-then-over_b-gt0 : goal.returns-then-over_b-gt0
returns-then-over_b-gt0 c =
    let fits : SFits w128 c.args.over_b = c.ranges.over_b in (
      λ no. absurd (false≢true no),
      λ w. absurd (not_over c.args.a c.args.b c.args.c c.args.d c.args.e c.requires.apart (above_zero _ _ fits c.requires.to c.if-over_b-gt0.true) w),
    )

pub returns-then-orient-gt0 : goal.returns-then-orient-gt0
returns-then-orient-gt0 c =
    let fits : SFits w128 c.orient.result = search rules in (
      λ no. absurd (false≢true no),
      λ w. absurd (not_outside_de c.args.a c.args.b c.args.c c.args.d c.args.e c.requires.apart (above_zero _ _ fits c.orient.ensures c.if-orient-gt0.true) w),
    )

pub returns-then-orient-gt0-2 : goal.returns-then-orient-gt0-2
returns-then-orient-gt0-2 c =
    let fits : SFits w128 c.orient-2.result = search rules in (
      λ no. absurd (false≢true no),
      λ w. absurd (not_outside_ec c.args.a c.args.b c.args.c c.args.d c.args.e c.requires.apart (above_zero _ _ fits c.orient-2.ensures c.if-orient-gt0-2.true) w),
    )

pub returns : goal.returns
returns c =
    let a = c.args.a in let b = c.args.b in let d = c.args.d in let e = c.args.e in
    let first : SFits w128 c.args.over_a = c.ranges.over_a in
    let second : SFits w128 c.args.over_b = c.ranges.over_b in
    let third : SFits w128 c.orient.result = search rules in
    let fourth : SFits w128 c.orient-2.result = search rules in
    let fifth : SFits w128 c.orient-3.result = search rules in (
      λ yes. crossing_meets a b c.args.c d e c.requires.apart
          (not_below_zero _ _ first c.requires.from c.if-over_a-lt0.false)
          (not_above_zero _ _ second c.requires.to c.if-over_b-gt0.false)
          (not_above_zero _ _ third c.orient.ensures c.if-orient-gt0.false)
          (not_above_zero _ _ fourth c.orient-2.ensures c.if-orient-gt0-2.false)
          (at_most_zero _ _ fifth c.orient-3.ensures yes),
      λ w. tests_at_most_zero _ _ fifth c.orient-3.ensures (λ out. not_outside_cd a b c.args.c d e c.requires.apart out w),
    )
