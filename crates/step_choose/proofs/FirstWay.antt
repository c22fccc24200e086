-- The way that is taken is the first that applies.
use Rattle.std.proofs.Common.{◌≡◌, ℕ, ◌+◌, ◌<◌, ◌≤◌, ◌==◌, Bool, true, false, cond, List, Option, Some, None, length, refl, sym, ap, ◌∙◌, arith, IsTrue}
use Rattle.std.specs.Option.{option_or, option_map, unwrap_or}
use Rattle.std.specs.List.{find, range_with_len}
use Rattle.std.proofs.lemmas.Bool.{false≢true}
use Rattle.grid_decided.specs.Decided.{meets_exactly}
use Rattle.mesh_base.specs.declared.How.{How}
use Rattle.mesh_base.specs.declared.How.TheVariants.{Whole, Impulse, Zones, Halved, Zero}
use Rattle.mesh_base.specs.Failing.{failing}
use Rattle.mesh_base.specs.Mesh.{Mesh, IsSound}
use Rattle.mesh_base.specs.Placements.{IsClearMesh}
use Rattle.mesh_base.specs.Shifts.{Shifts, NameLive}
use Rattle.step_zones.specs.Rounds.{round_taken}
use Rattle.step_zones.proofs.Searched.{taken_serves, none_taken_leaves}
use Rattle.step_choose.specs.declared.settings.Settings.{Settings}
use Rattle.step_choose.specs.Impulses.{all_pass, NoneFails, after_passes, fewest_passes}
use Rattle.step_choose.specs.Choice.{Way, way, halving, halved_times, halved_way, impulse_way, round_way, zones_way, all_at_rest, way_taken, NoPassesServeBelow, AreNotMet, IsFirstWay}
use Rattle.step_choose.proofs.Passing.{no_length}
use Rattle.step_choose.proofs.Least.{found_least, none_found}
use Rattle.step_choose.proofs.Served.{are_fewest, none_serve}

module _ (m : Mesh) (asked : Shifts) (set : Settings) where
  none_fails : (shifts : Shifts) → all_pass meets_exactly m shifts set.depth ≡ true → NoneFails meets_exactly m set.depth shifts
  none_fails shifts e = no_length (failing meets_exactly m shifts set.depth) e

  some_fails : (shifts : Shifts) → all_pass meets_exactly m shifts set.depth ≡ false → ¬ (NoneFails meets_exactly m set.depth shifts)
  some_fails shifts e none = false≢true (sym e ∙ ap (λ (l : List _). length l == 0) none)

  abbrev rest : Way
  rest = way Zero (all_at_rest asked)

  abbrev IsFirst : Way → Type 0
  IsFirst w = IsFirstWay meets_exactly m asked set w.how w.taken

  halved_first : AreNotMet meets_exactly m asked set → (o : Option ℕ) → find (λ n. all_pass meets_exactly m (halved_times n asked) set.depth) (range_with_len 1 set.halvings) ≡ o → IsFirst (unwrap_or (option_map (halving asked) o) rest)
  halved_first others (Some n) e =
      let least = found_least (λ k. all_pass meets_exactly m (halved_times k asked) set.depth) 1 set.halvings n e in
      record {
        takes = refl;
        none_fails = none_fails (halved_times n asked) least.passes;
        some = least.at_least;
        within = omega (arith, least.below);
        fewest = λ k h h'. some_fails (halved_times k asked) (least.none_before k h h');
        others = others;
      }
  halved_first others None e = record {
    takes = refl;
    each_fails = λ k h h'. some_fails (halved_times k asked) (none_found (λ j. all_pass meets_exactly m (halved_times j asked) set.depth) 1 set.halvings e k h (omega arith));
    others = others;
  }

  abbrev halved : Option Way
  halved = halved_way meets_exactly m asked set.depth set.halvings

  module _ (sound : IsSound m) (clear : IsClearMesh m) (named : NameLive m asked) where
    round_first : NoPassesServeBelow meets_exactly m set.depth asked (set.passes + 1) → ¬ (NoneFails meets_exactly m set.depth asked) → IsTrue set.zones → (o : Option ℕ) → round_taken meets_exactly m asked set.depth ≡ o
        → IsFirst (unwrap_or (option_or (option_map (round_way meets_exactly m asked set.depth) o) halved) rest)
    round_first no_impulses fails on (Some r) e = record {
      takes = refl;
      on = on;
      first = taken_serves m asked set.depth sound clear named r e;
      no_impulses = no_impulses;
      not_whole = fails;
    }
    round_first no_impulses fails on None e =
        halved_first (record { no_zones = λ t. none_taken_leaves m asked set.depth sound clear named e; no_impulses = no_impulses; not_whole = fails })
        (find (λ n. all_pass meets_exactly m (halved_times n asked) set.depth) (range_with_len 1 set.halvings)) refl

    zones_first : NoPassesServeBelow meets_exactly m set.depth asked (set.passes + 1) → ¬ (NoneFails meets_exactly m set.depth asked) → (b : Bool) → set.zones ≡ b
        → IsFirst (unwrap_or (option_or (cond b (option_map (round_way meets_exactly m asked set.depth) (round_taken meets_exactly m asked set.depth)) None) halved) rest)
    zones_first no_impulses fails true e = round_first no_impulses fails e (round_taken meets_exactly m asked set.depth) refl
    zones_first no_impulses fails false e =
        halved_first (record { no_zones = λ t. absurd (false≢true (sym e ∙ t)); no_impulses = no_impulses; not_whole = fails })
        (find (λ n. all_pass meets_exactly m (halved_times n asked) set.depth) (range_with_len 1 set.halvings)) refl

    zones_then : NoPassesServeBelow meets_exactly m set.depth asked (set.passes + 1) → ¬ (NoneFails meets_exactly m set.depth asked) → IsFirst (unwrap_or (option_or (zones_way meets_exactly m asked set.depth set.zones) halved) rest)
    unfolding zones_way
    zones_then no_impulses fails = zones_first no_impulses fails set.zones refl

    impulse_first : ¬ (NoneFails meets_exactly m set.depth asked) → (o : Option ℕ) → fewest_passes meets_exactly m asked set.depth set.passes ≡ o
        → IsFirst (unwrap_or (option_or (option_map (λ n. way (Impulse n) (after_passes meets_exactly m asked set.depth n)) o) (option_or (zones_way meets_exactly m asked set.depth set.zones) halved)) rest)
    impulse_first fails (Some n) e =
        let are = are_fewest m asked set.depth set.passes n e in
        record { takes = refl; serve = are.serve; some = are.some; within = are.within; fewest = are.fewest; not_whole = fails }
    impulse_first fails None e = zones_then (none_serve m asked set.depth set.passes e) fails

    impulse_then : ¬ (NoneFails meets_exactly m set.depth asked) → IsFirst (unwrap_or (option_or (impulse_way meets_exactly m asked set.depth set.passes) (option_or (zones_way meets_exactly m asked set.depth set.zones) halved)) rest)
    unfolding impulse_way
    impulse_then fails = impulse_first fails (fewest_passes meets_exactly m asked set.depth set.passes) refl

    pub taken_first : IsFirstWay meets_exactly m asked set (way_taken meets_exactly m asked set).how (way_taken meets_exactly m asked set).taken
    taken_first = by_whole (all_pass meets_exactly m asked set.depth) refl
      where
        by_whole : (b : Bool) → all_pass meets_exactly m asked set.depth ≡ b
            → IsFirst (unwrap_or (option_or (cond b (Some (way Whole asked)) None) (option_or (impulse_way meets_exactly m asked set.depth set.passes) (option_or (zones_way meets_exactly m asked set.depth set.zones) halved))) rest)
        by_whole true e = record { takes = refl; none_fails = none_fails asked e }
        by_whole false e = impulse_then (some_fails asked e)

-- ---- the asked shifts are taken exactly where all pairs pass
pub whole_taken : (m : Mesh) (asked : Shifts) (set : Settings) → all_pass meets_exactly m asked set.depth ≡ true → way_taken meets_exactly m asked set ≡ way Whole asked
whole_taken m asked set e =
    ap (λ b. unwrap_or (option_or (cond b (Some (way Whole asked)) None) (option_or (impulse_way meets_exactly m asked set.depth set.passes) (option_or (zones_way meets_exactly m asked set.depth set.zones) (halved_way meets_exactly m asked set.depth set.halvings)))) (way Zero (all_at_rest asked))) e

-- whether a way is the asked shifts
abbrev pub is_whole : How → Bool
is_whole Whole = true
is_whole (Impulse passes) = false
is_whole (Zones rounds) = false
is_whole (Halved times) = false
is_whole Zero = false

pub not_whole_taken : (m : Mesh) (asked : Shifts) (set : Settings) → all_pass meets_exactly m asked set.depth ≡ false → is_whole (way_taken meets_exactly m asked set).how ≡ false
unfolding impulse_way zones_way
not_whole_taken m asked set e =
    ap (λ b. is_whole (unwrap_or (option_or (cond b (Some (way Whole asked)) None) (option_or (impulse_way meets_exactly m asked set.depth set.passes) (option_or (zones_way meets_exactly m asked set.depth set.zones) (halved_way meets_exactly m asked set.depth set.halvings)))) (way Zero (all_at_rest asked))).how) e
    ∙ by_impulses
  where
    by_halving : (o : Option ℕ) → is_whole (unwrap_or (option_map (halving asked) o) (way Zero (all_at_rest asked))).how ≡ false
    by_halving (Some n) = refl
    by_halving None = refl

    by_rounds : (b : Bool) (o : Option ℕ) → is_whole (unwrap_or (option_or (cond b (option_map (round_way meets_exactly m asked set.depth) o) None) (halved_way meets_exactly m asked set.depth set.halvings)) (way Zero (all_at_rest asked))).how ≡ false
    by_rounds true (Some r) = refl
    by_rounds true None = by_halving (find (λ n. all_pass meets_exactly m (halved_times n asked) set.depth) (range_with_len 1 set.halvings))
    by_rounds false o = by_halving (find (λ n. all_pass meets_exactly m (halved_times n asked) set.depth) (range_with_len 1 set.halvings))

    by_passes : (o : Option ℕ) → is_whole (unwrap_or (option_or (option_map (λ n. way (Impulse n) (after_passes meets_exactly m asked set.depth n)) o) (option_or (zones_way meets_exactly m asked set.depth set.zones) (halved_way meets_exactly m asked set.depth set.halvings))) (way Zero (all_at_rest asked))).how ≡ false
    by_passes (Some n) = refl
    by_passes None = by_rounds set.zones (round_taken meets_exactly m asked set.depth)

    by_impulses : is_whole (unwrap_or (option_or (impulse_way meets_exactly m asked set.depth set.passes) (option_or (zones_way meets_exactly m asked set.depth set.zones) (halved_way meets_exactly m asked set.depth set.halvings))) (way Zero (all_at_rest asked))).how ≡ false
    by_impulses = by_passes (fewest_passes meets_exactly m asked set.depth set.passes)
