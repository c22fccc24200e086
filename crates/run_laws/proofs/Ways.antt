-- The way in which a step is taken is in the log's ranges.
use Rattle.std.proofs.Common.{◌≡◌, ℕ, zero, suc, ◌+◌, ◌≤◌, ◌≢◌, ◌==◌, Bool, true, false, cond, List, [], ◌∷◌, length, map, nat_lt, refl, sym, ap, ◌∙◌, arith}
use Rattle.std.specs.List.{AllByRecursion, filter}
use Rattle.std.specs.List.Sorted.{IsStrictlySortedBy}
use Rattle.std.specs.Ordering.{nat_cmp}
use Rattle.std.proofs.Common.{Less}
use Rattle.std.specs.FinMap as finite
use Rattle.std.specs.FinMap.{len-entries}
use Rattle.std.proofs.lemmas.Map.Entries.{length-keys_of}
use Rattle.std.proofs.lemmas.Bool.Decides.{nat_tests}
use Rattle.grid_base.specs.declared.Positions.{Positions}
use Rattle.grid_base.specs.Points.{shift_by}
use Rattle.grid_base.specs.SeparationTests.{IsExact}
use Rattle.mesh_base.specs.declared.Scale.{Scale}
use Rattle.mesh_base.specs.declared.How.TheVariants.{Whole, Impulse, Zones, Halved, Zero}
use Rattle.mesh_base.specs.declared.steps.ShiftOf.{ShiftOf}
use Rattle.mesh_base.specs.Mesh.{Mesh, IsSound}
use Rattle.mesh_base.specs.Pairs.{Pair}
use Rattle.mesh_base.specs.Placements.{IsClearMesh}
use Rattle.mesh_base.specs.Shifts.{Shifts, NameLive}
use Rattle.mesh_base.specs.Failing.{failing}
use Rattle.step_zones.specs.Zones.{alone, block_at, block_shift, zone_shift}
use Rattle.step_zones.specs.Rounds.{hits_before, round_labels, round_shifts, round_hits, IsFirstToServe}
use Rattle.step_zones.proofs.Rounds.{few_rounds}
use Rattle.step_zones.proofs.Searched.{rounds_left}
use Rattle.log_read.specs.Reading.{rounds_most}
use Rattle.log_read.specs.Laws.{IsFrom}
use Rattle.log_replay.specs.Laws.{IsWithin}
use Rattle.run_laws.specs.Lines.{WaysAreInRange}
use Rattle.run_laws.proofs.Blocks.{above, keys_rising}

-- ---- where each vertex is a block by itself, the asked shifts are taken
apart : (x v y : ℕ) → (x == v) ≡ true → x + 1 ≤ y → (y == v) ≡ false
apart x v y e h = grind (arith, nat_tests)

not_more : (n : ℕ) → n ≤ 1 → nat_lt 1 n ≡ false
not_more n h = grind (arith, nat_tests)

none_above : (x v : ℕ) (xs : List ℕ) → (x == v) ≡ true → AllByRecursion (λ y. nat_cmp x y ≡ Less) xs → filter (λ u. u == v) xs ≡ []
none_above x v [] e h = refl
none_above x v (y ∷ ys) e h = ap (λ b. cond b (y ∷ filter (λ u. u == v) ys) (filter (λ u. u == v) ys)) (apart x v y e (above x y h.0)) ∙ none_above x v ys e h.1

at_most_one : (v : ℕ) (xs : List ℕ) → IsStrictlySortedBy nat_cmp xs → length (filter (λ u. u == v) xs) ≤ 1
unfolding IsStrictlySortedBy
at_most_one v [] sorted = omega arith
at_most_one v (x ∷ xs) sorted = by_test (x == v) refl (at_most_one v xs sorted.1)
  where
    by_test : (b : Bool) → (x == v) ≡ b → length (filter (λ u. u == v) xs) ≤ 1 → length (cond b (x ∷ filter (λ u. u == v) xs) (filter (λ u. u == v) xs)) ≤ 1
    by_test true e rest = let none = ap length (none_above x v xs e sorted.0) in omega arith
    by_test false e rest = rest

by_itself : (m : Mesh) (asked : Shifts) (s : ShiftOf) → zone_shift m asked alone s ≡ s
by_itself m asked s =
    let one = at_most_one s.v (finite.keys m.points) (keys_rising m) in
    ap (λ b. record s { by = cond b (shift_by (block_shift m asked (block_at m alone s.v))) s.by }) (not_more (length (block_at m alone s.v)) one)

all_alone : (m : Mesh) (asked xs : Shifts) → map (zone_shift m asked alone) xs ≡ xs
all_alone m asked [] = refl
all_alone m asked (s ∷ xs) = ap (λ t. t ∷ map (zone_shift m asked alone) xs) (by_itself m asked s) ∙ ap (λ l. s ∷ l) (all_alone m asked xs)

-- a mesh has no more vertices than its limits allow
vertices_are_few : (m : Mesh) → IsSound m → length (finite.keys m.points) ≤ m.limits.vertices
vertices_are_few m sound =
    let size = len-entries m.points in
    let same : length (finite.keys m.points) ≡ length (finite.entries m.points) = length-keys_of (finite.entries m.points) in
    omega (arith, sound.limits.vertices)

-- so a round before which none fails serves only where the asked shifts do
first_round : (meets : Positions → Bool) (m : Mesh) (asked : Shifts) (depth : ℕ) → round_hits meets m asked depth 0 ≡ [] → failing meets m asked depth ≡ []
unfolding hits_before round_labels round_shifts round_hits
first_round meets m asked depth none = ap (λ by. failing meets m by depth) (sym (all_alone m asked asked)) ∙ ap (map (λ (p : Pair). p.name)) none

module _ (meets : Positions → Bool) (m : Mesh) (asked : Shifts) (depth round : ℕ) where
  later_round : ¬ (failing meets m asked depth ≡ []) → round_hits meets m asked depth round ≡ [] → 1 ≤ round
  later_round fails none = by_round round refl
    where
      by_round : (r : ℕ) → round ≡ r → 1 ≤ r
      by_round zero e = absurd (fails (first_round meets m asked depth (ap (round_hits meets m asked depth) (sym e) ∙ none)))
      by_round (suc r) e = omega arith

  round_in_range : (scale : Scale) → IsWithin scale m.limits → IsExact meets → IsSound m → IsClearMesh m → NameLive m asked → ¬ (failing meets m asked depth ≡ []) → IsFirstToServe meets m asked depth round → IsFrom 1 (rounds_most scale) round
  round_in_range scale within exact sound clear named fails first =
      let low = later_round fails first.none_fails in
      let most = rounds_left meets m asked depth round exact sound clear named first.each_fails in
      let some : finite.keys m.points ≢ [] = λ none. let e = ap length none in omega arith in
      let high = few_rounds meets m asked depth round exact sound clear named some first.each_fails in
      let few = vertices_are_few m sound in
      (low, omega (arith, within.vertices))

pub ways_in_range : WaysAreInRange
ways_in_range scale meets m asked set Whole taken exact within sound clear named limits first = tt
ways_in_range scale meets m asked set (Impulse passes) taken exact within sound clear named limits first = let most = limits.passes in (first.some, omega (arith, first.within))
ways_in_range scale meets m asked set (Zones round) taken exact within sound clear named limits first = round_in_range meets m asked set.depth round scale within exact sound clear named first.not_whole first.first
ways_in_range scale meets m asked set (Halved times) taken exact within sound clear named limits first = let most = limits.halvings in (first.some, omega (arith, first.within))
ways_in_range scale meets m asked set Zero taken exact within sound clear named limits first = tt
