use Rattle.std.proofs.Common.{inl, inr, sym}
use Rattle.grid_base.proofs.Reflected.{of_passes}
use Rattle.grid_base.proofs.SeparationLaws.{AreSeparated-at_once}
use Rattle.grid_decided.specs.Decided.{meets_exactly, meets_exactly-is_exact}
use Rattle.neighbour_list.specs.FivePaths.{starts_of, ends_of}
use Rattle.neighbour_list.proofs.pair_test.do_pass_near.Goals as goal

pub returns-then-go_as_one : goal.returns-then-go_as_one
returns-then-go_as_one c =
    let s = starts_of c.args.p.now in
    let t = ends_of c.args.p.now in
    sym (of_passes meets_exactly meets_exactly-is_exact c.args.depth s t (inr (c.go_as_one.ensures c.if-go_as_one.true, c.requires.apart)))

pub returns-then-a_direction_keeps_apart : goal.returns-then-a_direction_keeps_apart
returns-then-a_direction_keeps_apart c =
    let s = starts_of c.args.p.now in
    let t = ends_of c.args.p.now in
    let kept = c.a_direction_keeps_apart.ensures c.if-a_direction_keeps_apart.true in
    sym (of_passes meets_exactly meets_exactly-is_exact c.args.depth s t (inl (AreSeparated-at_once c.args.depth s t kept)))
