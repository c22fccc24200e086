use Rattle.std.proofs.Common.{◌≡◌, drop, length}
use Rattle.step_zones.specs.Ranks.{joined_all, AreAlone}
use Rattle.step_zones.proofs.labels.join_all.Given as goal

-- the pairs to come make all of it
abbrev pub invariant-loop-name : goal.invariant-loop-name
invariant-loop-name g l =
    let m = g.S.Surface.mesh l.mesh in
    record {
      whole : joined_all m l.asked l.labels (drop l.name-index l.name-items) ≡ joined_all m l.asked l.fn.labels l.name-items;
      each : length l.labels ≡ length l.asked;
      alone : AreAlone l.asked l.places.items l.labels;
    }
