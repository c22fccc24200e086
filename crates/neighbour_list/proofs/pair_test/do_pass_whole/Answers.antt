use Rattle.std.proofs.Common.{ap, ◌∙◌}
use Rattle.grid_decided.specs.Decided.{meets_exactly}
use Rattle.grid_base.specs.SeparationTests.{passes}
use Rattle.motion_test.specs.Pairs.{positions_of}
use Rattle.pair_scan.proofs.Fails.{is_passes}
use Rattle.neighbour_list.specs.FivePaths.{starts_of}
use Rattle.neighbour_list.proofs.pair_test.do_pass_whole.Goals as goal

pub returns : goal.returns
returns c =
    let depth = c.args.depth in
    let start = c.starts.result in
    let end = c.ends.result in
    is_passes c.passes.result depth (positions_of start) (positions_of end) c.passes.ensures.exact
    ∙ ap (λ s. passes meets_exactly depth s (positions_of end)) c.starts.ensures.value
    ∙ ap (λ t. passes meets_exactly depth (starts_of c.args.p.now) t) c.ends.ensures.value
