use Rattle.std.proofs.Common.{sym}
use Rattle.grid_base.proofs.Reflected.{of_passes}
use Rattle.grid_decided.specs.Decided.{meets_exactly, meets_exactly-is_exact}
use Rattle.neighbour_list.specs.FivePaths.{starts_of, ends_of}
use Rattle.neighbour_list.proofs.Apart.{axis_passes}
use Rattle.neighbour_list.proofs.pair_test.do_pass.Goals as goal

pub returns-then-an_axis_keeps_apart : goal.returns-then-an_axis_keeps_apart
returns-then-an_axis_keeps_apart c =
    let s = starts_of c.args.p.now in
    let t = ends_of c.args.p.now in
    sym (of_passes meets_exactly meets_exactly-is_exact c.args.depth s t (axis_passes c.args.depth s t (c.an_axis_keeps_apart.ensures c.if-an_axis_keeps_apart.true)))
