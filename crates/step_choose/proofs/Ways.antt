-- The ways, as searches tell them.
use Rattle.std.proofs.Common.{◌≡◌, ℕ, zero, suc, ◌+◌, ◌-◌, ◌<◌, ◌≤◌, ◌==◌, ◌&&◌, Bool, true, false, cond, List, [], length, map, Option, Some, None, refl, sym, ap, ◌∙◌, subst, arith, add-one, ◌⊎◌, inl, inr}
use Rattle.std.specs.Option.{option_or, option_map, unwrap_or}
use Rattle.std.specs.List.{find, list_all, range_with_len}
use Rattle.std.proofs.lemmas.Bool.{cases_eq}
use Rattle.grid_decided.specs.Decided.{meets_exactly}
use Rattle.mesh_base.specs.declared.How.TheVariants.{Impulse, Zones}
use Rattle.mesh_base.specs.declared.ids.PairName.{PairName}
use Rattle.mesh_base.specs.Mesh.{Mesh}
use Rattle.mesh_base.specs.Failing.{failing}
use Rattle.mesh_base.specs.Shifts.{Shifts, NameLive, end_in_box}
use Rattle.pair_scan.specs.Named.{pairs_named, failing_pairs}
use Rattle.pair_scan.proofs.PairNames.{failing_named}
use Rattle.step_impulse.specs.Passes.{after_pass}
use Rattle.step_impulse.proofs.Placed.{names_after}
use Rattle.step_zones.specs.declared.Zoned.{Zoned}
use Rattle.step_zones.specs.Rounds.{round_taken}
use Rattle.step_zones.specs.Zoned.{zoned_at}
use Rattle.step_zones.proofs.Searched.{found_none, not_all, all_range}
use Rattle.step_choose.specs.declared.way.StepWay.{StepWay}
use Rattle.step_choose.specs.Impulses.{all_pass, after_passes, passes_serve, fewest_passes}
use Rattle.step_choose.specs.Choice.{Way, way, impulse_way, round_way, zones_way}
use Rattle.step_choose.specs.StepWay.{way_by}
use Rattle.step_choose.proofs.Searching.{later, here}

-- ---- impact zones
abbrev pub zoned_way : Zoned → Way
zoned_way z = record { how = Zones z.rounds; taken = z.taken; blocks = z.blocks }

module _ (m : Mesh) (asked : Shifts) (depth : ℕ) where
  pub zones_off : (on : Bool) → on ≡ false → None ≡ zones_way meets_exactly m asked depth on
  unfolding zones_way
  zones_off on e = sym (ap (λ b. cond b (option_map (round_way meets_exactly m asked depth) (round_taken meets_exactly m asked depth)) None) e)

  pub zones_on : (on : Bool) (z : Option Zoned) → on ≡ true → z ≡ option_map (zoned_at meets_exactly m asked depth) (round_taken meets_exactly m asked depth) → option_map zoned_way z ≡ zones_way meets_exactly m asked depth on
  unfolding zones_way
  zones_on on z e is =
      ap (option_map zoned_way) is
      ∙ again (round_taken meets_exactly m asked depth)
      ∙ sym (ap (λ b. cond b (option_map (round_way meets_exactly m asked depth) (round_taken meets_exactly m asked depth)) None) e)
    where
      again : (o : Option ℕ) → option_map zoned_way (option_map (zoned_at meets_exactly m asked depth) o) ≡ option_map (round_way meets_exactly m asked depth) o
      again (Some r) = refl
      again None = refl

  -- ---- impulses
  -- one pass more
  pub next_pass : (k : ℕ) (shifts after : Shifts) (names : List PairName) → shifts ≡ after_passes meets_exactly m asked depth k → names ≡ failing meets_exactly m shifts depth
      → after ≡ after_pass m (pairs_named m names) shifts → after ≡ after_passes meets_exactly m asked depth (k + 1)
  unfolding after_passes
  next_pass k shifts after names is failed made =
      made
      ∙ ap (λ ps. after_pass m ps shifts) (ap (pairs_named m) failed ∙ failing_named meets_exactly m shifts depth)
      ∙ ap (λ by. after_pass m (failing_pairs meets_exactly m by depth) by) is
      ∙ sym (ap (after_passes meets_exactly m asked depth) (add-one k))

  pub no_pass : after_passes meets_exactly m asked depth 0 ≡ asked
  unfolding after_passes
  no_pass = refl

  pub names_passed : (n : ℕ) → map (λ s. s.v) (after_passes meets_exactly m asked depth n) ≡ map (λ s. s.v) asked
  unfolding after_passes
  names_passed zero = refl
  names_passed (suc n) = names_after m (failing_pairs meets_exactly m (after_passes meets_exactly m asked depth n) depth) (after_passes meets_exactly m asked depth n) ∙ names_passed n

  -- the passes that are left to be tried
  abbrev pub to_come : ℕ → ℕ → Option ℕ
  to_come k most = find (passes_serve meets_exactly m asked depth) (range_with_len (1 + k) (most - k))

  pub all_to_come : (most : ℕ) → to_come 0 most ≡ fewest_passes meets_exactly m asked depth most
  unfolding fewest_passes
  all_to_come most = ap (λ n. find (passes_serve meets_exactly m asked depth) (range_with_len 1 n)) (whole most)
    where
      whole : (n : ℕ) → n - 0 ≡ n
      whole n = omega arith

  abbrev pub EndsUpTo : ℕ → Type 0
  EndsUpTo k = (q : ℕ) → 1 ≤ q → q < k + 1 → end_in_box m (after_passes meets_exactly m asked depth q) ≡ true

  pub ends_more : (k : ℕ) → EndsUpTo k → end_in_box m (after_passes meets_exactly m asked depth (k + 1)) ≡ true → EndsUpTo (k + 1)
  ends_more k before now q some h = by_case (cases_eq q (k + 1))
    where
      by_case : (q ≡ k + 1) ⊎ (q ≡ k + 1 → ⊥) → end_in_box m (after_passes meets_exactly m asked depth q) ≡ true
      by_case (inl e) = ap (λ n. end_in_box m (after_passes meets_exactly m asked depth n)) e ∙ now
      by_case (inr apart) = before q some (omega (arith, apart))

  -- these passes serve
  pub passes_here : (k most : ℕ) → k < most → EndsUpTo (k + 1) → all_pass meets_exactly m (after_passes meets_exactly m asked depth (k + 1)) depth ≡ true
      → to_come k most ≡ fewest_passes meets_exactly m asked depth most → fewest_passes meets_exactly m asked depth most ≡ Some (k + 1)
  unfolding passes_serve
  passes_here k most h ends all e =
      here (passes_serve meets_exactly m asked depth) k most (fewest_passes meets_exactly m asked depth most) h
      (λ i. all i && all_range (λ q. end_in_box m (after_passes meets_exactly m asked depth q)) 1 (k + 1) (λ q some h'. ends q some (omega arith)) i)
      e

  -- these do not
  pub passes_later : (k most : ℕ) → k < most → all_pass meets_exactly m (after_passes meets_exactly m asked depth (k + 1)) depth ≡ false
      → to_come k most ≡ fewest_passes meets_exactly m asked depth most → to_come (k + 1) most ≡ fewest_passes meets_exactly m asked depth most
  unfolding passes_serve
  passes_later k most h off e =
      later (passes_serve meets_exactly m asked depth) k most (fewest_passes meets_exactly m asked depth most) h
      (ap (λ b. b && list_all (λ q. end_in_box m (after_passes meets_exactly m asked depth q)) (range_with_len 1 (k + 1))) off)
      e

  -- a pass that leaves the box ends the search
  pub passes_end : (k most : ℕ) → end_in_box m (after_passes meets_exactly m asked depth (k + 1)) ≡ false → to_come k most ≡ fewest_passes meets_exactly m asked depth most → fewest_passes meets_exactly m asked depth most ≡ None
  unfolding passes_serve
  passes_end k most out e = sym e ∙ found_none (passes_serve meets_exactly m asked depth) (1 + k) (most - k) fails
    where
      and_false : (b : Bool) → (b && false) ≡ false
      and_false true = refl
      and_false false = refl

      fails : (q : ℕ) → 1 + k ≤ q → q < (1 + k) + (most - k) → passes_serve meets_exactly m asked depth q ≡ false
      fails q low high =
          ap (λ b. all_pass meets_exactly m (after_passes meets_exactly m asked depth q) depth && b) (not_all (λ n. end_in_box m (after_passes meets_exactly m asked depth n)) 1 q (k + 1) (omega arith) (omega arith) out)
          ∙ and_false (all_pass meets_exactly m (after_passes meets_exactly m asked depth q) depth)

  pub passes_none : (most : ℕ) → fewest_passes meets_exactly m asked depth most ≡ None → None ≡ impulse_way meets_exactly m asked depth most
  unfolding impulse_way
  passes_none most e = sym (ap (option_map (λ n. way (Impulse n) (after_passes meets_exactly m asked depth n))) e)

  pub passes_found : (most n : ℕ) (taken : Shifts) (none : List (List ℕ)) → fewest_passes meets_exactly m asked depth most ≡ Some n → taken ≡ after_passes meets_exactly m asked depth n → none ≡ []
      → Some (record { how = Impulse n; taken = taken; blocks = none }) ≡ impulse_way meets_exactly m asked depth most
  unfolding impulse_way
  passes_found most n taken none e is empty =
      (λ i. Some (record { how = Impulse n; taken = is i; blocks = empty i })) ∙ sym (ap (option_map (λ k. way (Impulse k) (after_passes meets_exactly m asked depth k))) e)

  -- none is left
  pub passes_over : (k most : ℕ) → most ≤ k → to_come k most ≡ fewest_passes meets_exactly m asked depth most → fewest_passes meets_exactly m asked depth most ≡ None
  passes_over k most h e = sym e ∙ ap (λ n. find (passes_serve meets_exactly m asked depth) (range_with_len (1 + k) n)) (none most k h)
    where
      none : (a b : ℕ) → a ≤ b → a - b ≡ 0
      none a b h = omega arith
