-- Which step is taken: the first way that applies. `meets` is a test that
-- tells whether five positions meet.
use Rattle.std.specs.Prelude.{◌≡◌, ℕ, ◌+◌, ◌<◌, ◌≤◌, Bool, List, [], map, IsTrue, if◌then◌else◌}
use Rattle.std.specs.Option.{option_or, option_map, unwrap_or}
use Rattle.std.specs.List.{find, range_with_len}
use Rattle.std.proofs.Common.{Option, Some, None}
use Rattle.grid_base.specs.declared.Positions.{Positions}
use Rattle.grid_base.specs.Triples.{halved_of}
use Rattle.grid_base.specs.Points.{displacement_of, no_shift}
use Rattle.mesh_base.specs.declared.ShiftOf.{ShiftOf}
use Rattle.mesh_base.specs.declared.How.{How}
use Rattle.mesh_base.specs.declared.How.TheVariants.{Whole, Impulse, Zones, Halved, Zero}
use Rattle.mesh_base.specs.Mesh.{Mesh}
use Rattle.mesh_base.specs.Shifts.{Shifts, with_shift}
use Rattle.step_zones.specs.Zones.{blocks}
use Rattle.step_zones.specs.Rounds.{round_labels, round_shifts, round_taken, IsFirstToServe, SomeRoundLeaves}
use Rattle.step_choose.specs.declared.settings.Settings.{Settings}
pub use Rattle.step_choose.specs.Impulses.{all_pass, NoneFails, after_passes, fewest_passes, PassesServe}

-- how a step is taken, by which shifts, and the blocks of two or more
-- that move as one in impact zones
pub record Way : Type 0 where
  pub how : How
  pub taken : Shifts
  pub blocks : List (List ℕ)

-- a way without impact zones
abbrev pub way : How → Shifts → Way
way how taken = record { how = how; taken = taken; blocks = [] }

-- each component divided by 2^m, rounded toward zero
abbrev pub halved_shift : ℕ → ShiftOf → ShiftOf
halved_shift m s = with_shift s (halved_of m (displacement_of s.by))

-- the same of each displacement
abbrev pub halved_times : ℕ → Shifts → Shifts
halved_times m shifts = map (λ s. halved_shift m s) shifts

-- the vertex, and no shift
abbrev pub at_rest : ShiftOf → ShiftOf
at_rest s = record s { by = no_shift }

-- the vertices, and no displacements
abbrev pub all_at_rest : Shifts → Shifts
all_at_rest shifts = map at_rest shifts

-- the asked shifts, where all pairs pass
abbrev pub whole_way : (Positions → Bool) → Mesh → Shifts → ℕ → Option Way
whole_way meets m asked depth =
    if all_pass meets m asked depth then Some (way Whole asked) else None

-- the fewest impulse passes, from 1 to the most, after which all pairs pass
unfoldable pub impulse_way : (Positions → Bool) → Mesh → Shifts → ℕ → ℕ → Option Way
impulse_way meets m asked depth most =
    option_map (λ n. way (Impulse n) (after_passes meets m asked depth n))
    (fewest_passes meets m asked depth most)

-- a round of impact zones
abbrev pub round_way : (Positions → Bool) → Mesh → Shifts → ℕ → ℕ → Way
round_way meets m asked depth round = record {
  how = Zones round;
  taken = round_shifts meets m asked depth round;
  blocks = blocks m (round_labels meets m asked depth round);
}

-- the first round of impact zones in which all pairs pass, where zones are on
unfoldable pub zones_way : (Positions → Bool) → Mesh → Shifts → ℕ → Bool → Option Way
zones_way meets m asked depth on =
    if on then option_map (round_way meets m asked depth) (round_taken meets m asked depth)
    else None

-- so many halvings of the asked shifts
abbrev pub halving : Shifts → ℕ → Way
halving asked n = way (Halved n) (halved_times n asked)

-- the fewest halvings of the asked shifts, from 1 to the most, with which all pairs pass
abbrev pub halved_way : (Positions → Bool) → Mesh → Shifts → ℕ → ℕ → Option Way
halved_way meets m asked depth most =
    option_map (halving asked)
    (find (λ n. all_pass meets m (halved_times n asked) depth) (range_with_len 1 most))

-- the first way that applies: the asked shifts, impulses, impact zones, the fewest
-- halvings of the asked shifts, no shifts
abbrev pub way_taken : (Positions → Bool) → Mesh → Shifts → Settings → Way
way_taken meets m asked set =
    unwrap_or
    (option_or (whole_way meets m asked set.depth)
    (option_or (impulse_way meets m asked set.depth set.passes)
    (option_or (zones_way meets m asked set.depth set.zones)
    (halved_way meets m asked set.depth set.halvings))))
    (way Zero (all_at_rest asked))

-- ---- the same, as what holds of the way taken
-- some pair fails with each number of halvings from 1 to below n
abbrev pub EachFailsBelow : (Positions → Bool) → Mesh → ℕ → Shifts → ℕ → Type 0
EachFailsBelow meets m depth asked n =
    (k : ℕ) → 1 ≤ k → k < n → ¬ (NoneFails meets m depth (halved_times k asked))

-- no number of impulse passes from 1 to below n serves
abbrev pub NoPassesServeBelow : (Positions → Bool) → Mesh → ℕ → Shifts → ℕ → Type 0
NoPassesServeBelow meets m depth asked n =
    (k : ℕ) → 1 ≤ k → k < n → ¬ (PassesServe meets m asked depth k)

-- the asked shifts: all pairs pass
pub record IsWhole (meets : Positions → Bool) (m : Mesh) (asked : Shifts) (set : Settings)
    (taken : Shifts) : Type 0 where
  pub takes : taken ≡ asked
  pub none_fails : NoneFails meets m set.depth asked

-- the shifts after the fewest impulse passes that serve
pub record IsByImpulses (meets : Positions → Bool) (m : Mesh) (asked : Shifts) (set : Settings)
    (passes : ℕ) (taken : Shifts) : Type 0 where
  pub takes : taken ≡ after_passes meets m asked set.depth passes
  pub serve : PassesServe meets m asked set.depth passes
  pub some : 1 ≤ passes
  pub within : passes ≤ set.passes
  pub fewest : NoPassesServeBelow meets m set.depth asked passes
  pub not_whole : ¬ (NoneFails meets m set.depth asked)

-- the shifts of the first round of impact zones that serves
pub record IsByZones (meets : Positions → Bool) (m : Mesh) (asked : Shifts) (set : Settings)
    (round : ℕ) (taken : Shifts) : Type 0 where
  pub takes : taken ≡ round_shifts meets m asked set.depth round
  pub on : IsTrue set.zones
  pub first : IsFirstToServe meets m asked set.depth round
  pub no_impulses : NoPassesServeBelow meets m set.depth asked (set.passes + 1)
  pub not_whole : ¬ (NoneFails meets m set.depth asked)

-- neither the asked shifts serve, nor impulses, nor impact zones
pub record AreNotMet (meets : Positions → Bool) (m : Mesh) (asked : Shifts)
    (set : Settings) : Type 0 where
  pub no_zones : IsTrue set.zones → SomeRoundLeaves meets m asked set.depth
  pub no_impulses : NoPassesServeBelow meets m set.depth asked (set.passes + 1)
  pub not_whole : ¬ (NoneFails meets m set.depth asked)

-- the fewest halvings of the asked shifts with which all pairs pass
pub record IsHalved (meets : Positions → Bool) (m : Mesh) (asked : Shifts) (set : Settings)
    (times : ℕ) (taken : Shifts) : Type 0 where
  pub takes : taken ≡ halved_times times asked
  pub none_fails : NoneFails meets m set.depth (halved_times times asked)
  pub some : 1 ≤ times
  pub within : times ≤ set.halvings
  pub fewest : EachFailsBelow meets m set.depth asked times
  pub others : AreNotMet meets m asked set

-- no shifts
pub record IsNone (meets : Positions → Bool) (m : Mesh) (asked : Shifts) (set : Settings)
    (taken : Shifts) : Type 0 where
  pub takes : taken ≡ all_at_rest asked
  pub each_fails : EachFailsBelow meets m set.depth asked (set.halvings + 1)
  pub others : AreNotMet meets m asked set

-- the step is taken by the first way that applies
abbrev pub IsFirstWay : (Positions → Bool) → Mesh → Shifts → Settings → How → Shifts → Type 0
IsFirstWay meets m asked set Whole taken = IsWhole meets m asked set taken
IsFirstWay meets m asked set (Impulse passes) taken = IsByImpulses meets m asked set passes taken
IsFirstWay meets m asked set (Zones rounds) taken = IsByZones meets m asked set rounds taken
IsFirstWay meets m asked set (Halved times) taken = IsHalved meets m asked set times taken
IsFirstWay meets m asked set Zero taken = IsNone meets m asked set taken
