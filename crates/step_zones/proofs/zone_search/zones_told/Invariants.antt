use Rattle.std.proofs.Common.{◌≡◌, ◌≢◌, ℕ, ◌<◌, [], map, true}
use Rattle.grid_decided.specs.Decided.{meets_exactly}
use Rattle.mesh_base.specs.Shifts.{end_in_box}
use Rattle.step_zones.specs.Ranks.{AreAlone}
use Rattle.step_zones.specs.Rounds.{round_labels, round_shifts, round_hits, round_blocks}
use Rattle.step_zones.proofs.zone_search.zones_told.Given as goal

-- the labels are those of the round, and in each round before a pair fails and all ends are in the box
abbrev pub invariant-round : goal.invariant-round
invariant-round g l =
    let m = g.S.Surface.mesh l.mesh in
    record {
      labels : l.labels ≡ map (λ s. round_labels meets_exactly m l.asked l.depth l.rounds s.v) l.asked;
      alone : AreAlone l.asked l.places.items l.labels;
      each_fails : (q : ℕ) → q < l.rounds → round_hits meets_exactly m l.asked l.depth q ≢ [];
      in_box : (q : ℕ) → q < l.rounds → end_in_box m (round_shifts meets_exactly m l.asked l.depth q) ≡ true;
    }

-- each round leaves fewer blocks
abbrev pub decreases-round : goal.decreases-round
decreases-round g l = round_blocks meets_exactly (g.S.Surface.mesh l.mesh) l.asked l.depth l.rounds
