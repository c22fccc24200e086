use Rattle.std.proofs.Common.{ap, not, ◌∙◌}
use Rattle.grid_decided.specs.Decided.{meets_exactly}
use Rattle.grid_base.specs.SeparationTests.{passes}
use Rattle.motion_test.specs.Pairs.{positions_of}
use Rattle.pair_paths.specs.Pairing.{starts}
use Rattle.pair_scan.proofs.Fails.{is_passes}
use Rattle.pair_scan.proofs.scan.DoNotPassPairTest.is_true.Goals as goal

pub returns : goal.returns
returns c =
    let depth = c.args.self.now.depth in
    let pair = c.pair_of.result in
    ap not (is_passes c.passes.result depth (positions_of pair.start) (positions_of pair.end) c.passes.ensures.exact
    ∙ ap (λ s. passes meets_exactly depth s (positions_of pair.end)) c.pair_of.ensures.start
    ∙ ap (λ t. passes meets_exactly depth (starts c.args.e.now c.args.f.now) t) c.pair_of.ensures.end)
