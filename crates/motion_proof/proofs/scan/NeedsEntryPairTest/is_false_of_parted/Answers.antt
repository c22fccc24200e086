use Rattle.std.proofs.Common.{ap, inl, not}
use Rattle.pair_paths.specs.Pairing.{starts, ends}
use Rattle.motion_proof.proofs.Decided.{of-NeedsNone}
use Rattle.motion_proof.proofs.scan.NeedsEntryPairTest.is_false_of_parted.Goals as goal

pub returns : goal.returns
returns c = λ yes e f h. ap not (of-NeedsNone (starts e f) (ends e f) (inl (h.as_one, h.parted)))
