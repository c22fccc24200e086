use Rattle.std.proofs.Common.{ap, inr, not}
use Rattle.grid_base.proofs.Reflected.{of_passes}
use Rattle.grid_decided.specs.Decided.{meets_exactly, meets_exactly-is_exact}
use Rattle.pair_paths.specs.Pairing.{starts, ends}
use Rattle.pair_scan.proofs.scan.DoNotPassPairTest.is_false_of_parted.Goals as goal

pub returns : goal.returns
returns c = λ yes e f h. ap not (of_passes meets_exactly meets_exactly-is_exact c.args.self.now.depth (starts e f) (ends e f) (inr (h.as_one, h.parted)))
