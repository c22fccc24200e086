-- The way that is taken keeps a clear mesh clear at every fraction, and its solid vertices where they are.
use Rattle.std.proofs.Common.{◌/◌, ◌^◌, div-le_self, ◌≡◌, ℕ, zero, suc, Bool, true, false, cond, ◌==◌, Option, Some, None, pos, negsuc, List, [], ◌∷◌, length, map, refl, sym, ap, subst, ◌∙◌, arith, eq-eqb}
use Rattle.std.specs.Option.{option_or, option_map, unwrap_or}
use Rattle.std.specs.List.{find, range_with_len}
use Rattle.grid_decided.specs.Decided.{meets_exactly}
use Rattle.mesh_base.specs.declared.ShiftOf.{ShiftOf}
use Rattle.mesh_base.specs.declared.How.TheVariants.{Whole, Impulse, Zero}
use Rattle.mesh_base.specs.Failing.{failing}
use Rattle.mesh_base.specs.Mesh.{Mesh, IsSound, is_solid}
use Rattle.mesh_base.specs.Pairs.{Pair}
use Rattle.mesh_base.specs.Placements.{origin, IsClearMesh, IsClearAlong}
use Rattle.mesh_base.specs.Shifts.{Shifts, NameLive, end_in_box, moved_by, shift_at}
use Rattle.mesh_base.proofs.ListLaws.{found_passes}
use Rattle.mesh_base.proofs.Moves.{translation_clear_along}
use Rattle.grid_base.specs.Triples.{halved_of}
use Rattle.grid_base.specs.Points.{displacement_of}
use Rattle.pair_scan.specs.Named.{failing_pairs}
use Rattle.step_impulse.proofs.Resting.{still_after}
use Rattle.step_zones.specs.Rounds.{round_shifts, round_hits, round_taken}
use Rattle.step_zones.proofs.Searched.{taken_serves, shifts_named, solids_stay}
use Rattle.step_choose.specs.declared.settings.Settings.{Settings}
use Rattle.pair_scan.specs.Solids.{SolidsRest}
use Rattle.step_choose.specs.Impulses.{all_pass, NoneFails, after_passes, fewest_passes}
use Rattle.step_choose.specs.Choice.{Way, way, halving, halved_shift, halved_times, all_at_rest, impulse_way, round_way, zones_way, halved_way, way_taken}
use Rattle.step_choose.proofs.Passing.{no_length, all_pass_is_clear}
use Rattle.step_choose.proofs.AtRest.{none_fails_at_rest}
use Rattle.step_choose.proofs.Shortened.{names_halved, ends_halved, names_at_rest, ends_at_rest, shift_at_rest, halved_displacement}
use Rattle.step_choose.proofs.Served.{are_fewest}
use Rattle.step_choose.proofs.Ways.{names_passed}

-- it names the live vertices, ends in the box, is clear at every fraction, since no pair fails to this depth, and has no shift of a solid
-- vertex
pub record GoesWell (m : Mesh) (depth : ℕ) (taken : Shifts) : Type 0 where
  pub named : NameLive m taken
  pub ends : end_in_box m taken ≡ true
  pub clear : IsClearAlong m (moved_by m taken)
  pub passes : NoneFails meets_exactly m depth taken
  pub solid : SolidsRest m taken

-- ---- solid vertices
halved_rests : (n : ℕ) (shifts : Shifts) (v : ℕ) → shift_at shifts v ≡ origin → shift_at (halved_times n shifts) v ≡ origin
halved_rests n [] v none = refl
halved_rests n (s ∷ rest) v none = by_test (s.v == v) none (halved_rests n rest v)
  where
    no_part : 0 / 2 ^ n ≡ 0
    no_part = let q = div-le_self 0 (2 ^ n) in omega arith

    none_halved : halved_of n origin ≡ origin
    none_halved = λ i. record { x = pos (no_part i); y = pos (no_part i); z = pos (no_part i) }

    by_test : (b : Bool) → unwrap_or (option_map (λ (x : ShiftOf). displacement_of x.by) (cond b (Some s) (find (λ x. x.v == v) rest))) origin ≡ origin → (shift_at rest v ≡ origin → shift_at (halved_times n rest) v ≡ origin)
        → unwrap_or (option_map (λ (x : ShiftOf). displacement_of x.by) (cond b (Some (halved_shift n s)) (find (λ x. x.v == v) (halved_times n rest)))) origin ≡ origin
    by_test true h later = halved_displacement n s ∙ ap (halved_of n) h ∙ none_halved
    by_test false h later = later h

module _ (m : Mesh) (asked : Shifts) (sound : IsSound m) (named : NameLive m asked) (ends : end_in_box m asked ≡ true) (solid : SolidsRest m asked) where
  whole_well : (depth : ℕ) → all_pass meets_exactly m asked depth ≡ true → GoesWell m depth asked
  whole_well depth e = record { named = named; ends = ends; clear = all_pass_is_clear m asked depth sound e; passes = no_length (failing meets_exactly m asked depth) e; solid = solid }

  halved_well : (depth n : ℕ) → all_pass meets_exactly m (halved_times n asked) depth ≡ true → GoesWell m depth (halved_times n asked)
  halved_well depth n e = record {
    named = names_halved n asked ∙ named;
    ends = ends_halved m n asked ends;
    clear = all_pass_is_clear m (halved_times n asked) depth sound e;
    passes = no_length (failing meets_exactly m (halved_times n asked) depth) e;
    solid = λ v is. halved_rests n asked v (solid v is);
  }

  zero_well : IsClearMesh m → (depth : ℕ) → GoesWell m depth (all_at_rest asked)
  zero_well clear depth = record {
    named = names_at_rest asked ∙ named;
    ends = ends_at_rest m asked;
    clear = translation_clear_along m (all_at_rest asked) origin sound clear (λ v live. shift_at_rest asked v);
    passes = none_fails_at_rest m (all_at_rest asked) depth clear (shift_at_rest asked);
    solid = λ v is. shift_at_rest asked v;
  }

  passes_rest : (depth n v : ℕ) → is_solid m v ≡ true → shift_at (after_passes meets_exactly m asked depth n) v ≡ origin
  unfolding after_passes
  passes_rest depth zero v is = solid v is
  passes_rest depth (suc n) v is = still_after m (failing_pairs meets_exactly m (after_passes meets_exactly m asked depth n) depth) (after_passes meets_exactly m asked depth n) v is (passes_rest depth n v is)

  none_all : (shifts : Shifts) (depth : ℕ) → failing meets_exactly m shifts depth ≡ [] → all_pass meets_exactly m shifts depth ≡ true
  none_all shifts depth none = eq-eqb (length (failing meets_exactly m shifts depth)) 0 (ap length none)

  impulse_well : (depth most n : ℕ) → fewest_passes meets_exactly m asked depth most ≡ Some n → GoesWell m depth (after_passes meets_exactly m asked depth n)
  impulse_well depth most n e =
      let are = are_fewest m asked depth most n e in
      record {
        named = names_passed m asked depth n ∙ named;
        ends = are.serve.in_box n are.some (omega arith);
        clear = all_pass_is_clear m (after_passes meets_exactly m asked depth n) depth sound (none_all (after_passes meets_exactly m asked depth n) depth are.serve.none_fails);
        passes = are.serve.none_fails;
        solid = λ v is. passes_rest depth n v is;
      }

  no_hits : (depth r : ℕ) → round_hits meets_exactly m asked depth r ≡ [] → failing meets_exactly m (round_shifts meets_exactly m asked depth r) depth ≡ []
  unfolding round_hits
  no_hits depth r none = ap (map (λ (p : Pair). p.name)) none

  round_well : IsClearMesh m → (depth r : ℕ) → round_taken meets_exactly m asked depth ≡ Some r → GoesWell m depth (round_shifts meets_exactly m asked depth r)
  round_well clear depth r e =
      let first = taken_serves m asked depth sound clear named r e in
      record {
        named = shifts_named m asked depth r sound named;
        ends = first.in_box r (omega arith);
        clear = all_pass_is_clear m (round_shifts meets_exactly m asked depth r) depth sound (none_all (round_shifts meets_exactly m asked depth r) depth (no_hits depth r first.none_fails));
        passes = no_hits depth r first.none_fails;
        solid = λ v is. solids_stay m asked depth r sound named v is (solid v is);
      }

pub taken_well : (m : Mesh) (asked : Shifts) (set : Settings) → IsSound m → IsClearMesh m → NameLive m asked → end_in_box m asked ≡ true → SolidsRest m asked → GoesWell m set.depth (way_taken meets_exactly m asked set).taken
unfolding impulse_way zones_way
taken_well m asked set sound clear named ends solid = by_whole (all_pass meets_exactly m asked set.depth) refl
  where
    by_halving : (o : Option ℕ) → find (λ n. all_pass meets_exactly m (halved_times n asked) set.depth) (range_with_len 1 set.halvings) ≡ o → GoesWell m set.depth (unwrap_or (option_map (halving asked) o) (way Zero (all_at_rest asked))).taken
    by_halving (Some n) e = halved_well m asked sound named ends solid set.depth n (found_passes (λ n. all_pass meets_exactly m (halved_times n asked) set.depth) (range_with_len 1 set.halvings) n e)
    by_halving None e = zero_well m asked sound named ends solid clear set.depth

    by_round : (o : Option ℕ) → round_taken meets_exactly m asked set.depth ≡ o → GoesWell m set.depth (unwrap_or (option_or (option_map (round_way meets_exactly m asked set.depth) o) (halved_way meets_exactly m asked set.depth set.halvings)) (way Zero (all_at_rest asked))).taken
    by_round (Some r) e = round_well m asked sound named ends solid clear set.depth r e
    by_round None e = by_halving (find (λ n. all_pass meets_exactly m (halved_times n asked) set.depth) (range_with_len 1 set.halvings)) refl

    by_zones : (b : Bool) → GoesWell m set.depth (unwrap_or (option_or (cond b (option_map (round_way meets_exactly m asked set.depth) (round_taken meets_exactly m asked set.depth)) None) (halved_way meets_exactly m asked set.depth set.halvings)) (way Zero (all_at_rest asked))).taken
    by_zones true = by_round (round_taken meets_exactly m asked set.depth) refl
    by_zones false = by_halving (find (λ n. all_pass meets_exactly m (halved_times n asked) set.depth) (range_with_len 1 set.halvings)) refl

    by_passes : (o : Option ℕ) → fewest_passes meets_exactly m asked set.depth set.passes ≡ o
        → GoesWell m set.depth (unwrap_or (option_or (option_map (λ n. way (Impulse n) (after_passes meets_exactly m asked set.depth n)) o) (option_or (zones_way meets_exactly m asked set.depth set.zones) (halved_way meets_exactly m asked set.depth set.halvings))) (way Zero (all_at_rest asked))).taken
    by_passes (Some n) e = impulse_well m asked sound named ends solid set.depth set.passes n e
    by_passes None e = by_zones set.zones

    by_whole : (b : Bool) → all_pass meets_exactly m asked set.depth ≡ b
        → GoesWell m set.depth (unwrap_or (option_or (cond b (Some (way Whole asked)) None) (option_or (impulse_way meets_exactly m asked set.depth set.passes) (option_or (zones_way meets_exactly m asked set.depth set.zones) (halved_way meets_exactly m asked set.depth set.halvings)))) (way Zero (all_at_rest asked))).taken
    by_whole true e = whole_well m asked sound named ends solid set.depth e
    by_whole false e = by_passes (fewest_passes meets_exactly m asked set.depth set.passes) refl
