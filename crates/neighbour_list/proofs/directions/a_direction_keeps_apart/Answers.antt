use Rattle.std.proofs.Common.{refl, lit<, subst}
use Rattle.grid_base.specs.Separation.{KeepsApart}
use Rattle.grid_base.specs.Triples.{cross, minus}
use Rattle.neighbour_list.specs.FivePaths.{starts_of, ends_of}
use Rattle.neighbour_list.proofs.directions.a_direction_keeps_apart.Goals as goal

pub returns-then-keeps_apart : goal.returns-then-keeps_apart
returns-then-keeps_apart c = λ _.
    let s = starts_of c.args.p.now in
    let kept = subst (KeepsApart s (ends_of c.args.p.now)) c.to_first_corner.ensures.value (c.keeps_apart.ensures c.if-keeps_apart.true) in
    (7, minus s.c s.a, lit< tt, refl, kept)

pub returns-then-keeps_apart-2 : goal.returns-then-keeps_apart-2
returns-then-keeps_apart-2 c = λ _.
    let s = starts_of c.args.p.now in
    let kept = subst (KeepsApart s (ends_of c.args.p.now)) c.across_last_side.ensures.value (c.keeps_apart-2.ensures c.if-keeps_apart-2.true) in
    (6, cross (minus s.b s.a) (minus s.c s.e), lit< tt, refl, kept)

pub returns : goal.returns
returns c = λ yes.
    let s = starts_of c.args.p.now in
    let kept = subst (KeepsApart s (ends_of c.args.p.now)) c.across_first_side.ensures.value (c.keeps_apart-3.ensures yes) in
    (4, cross (minus s.b s.a) (minus s.d s.c), lit< tt, refl, kept)
