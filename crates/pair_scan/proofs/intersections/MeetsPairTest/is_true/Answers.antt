use Rattle.std.proofs.Common.{ap, ◌∙◌}
use Rattle.grid_decided.specs.Decided.{meets_exactly}
use Rattle.motion_test.specs.Pairs.{positions_of}
use Rattle.pair_scan.proofs.Scans.{is_exact}
use Rattle.pair_scan.proofs.intersections.MeetsPairTest.is_true.Goals as goal

pub returns : goal.returns
returns c =
    is_exact c.meets.result (positions_of c.starts_of.result) c.meets.ensures
    ∙ ap meets_exactly c.starts_of.ensures.value
