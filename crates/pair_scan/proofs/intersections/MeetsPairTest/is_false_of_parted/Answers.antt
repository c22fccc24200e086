use Rattle.pair_paths.specs.Pairing.{starts}
use Rattle.pair_scan.proofs.Clear.{apart}
use Rattle.pair_scan.proofs.intersections.MeetsPairTest.is_false_of_parted.Goals as goal

pub returns : goal.returns
returns c = λ yes e f h. apart (starts e f) h.parted
