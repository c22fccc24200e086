use Rattle.std.proofs.Common.{ap, not, ◌∙◌}
use Rattle.pair_paths.specs.Pairing.{starts}
use Rattle.motion_proof.specs.Needs.{needs_none}
use Rattle.motion_proof.proofs.scan.NeedsEntryPairTest.is_true.Goals as goal

pub returns : goal.returns
returns c =
    ap not (c.needs_none.ensures.value
    ∙ ap (λ s. needs_none s c.ends.result) c.starts.ensures.value
    ∙ ap (λ t. needs_none (starts c.args.e.now c.args.f.now) t) c.ends.ensures.value)
