-- Impulse passes that serve, and those that do not.
use Rattle.std.proofs.Common.{◌≡◌, ℕ, zero, suc, ◌+◌, ◌<◌, ◌≤◌, ◌==◌, ◌&&◌, Bool, true, false, List, length, IsTrue, Option, Some, None, ◌⊎◌, inl, inr, refl, sym, ap, ◌∙◌, arith, eq-eqb}
use Rattle.std.specs.List.{find, list_all, range_with_len}
use Rattle.std.proofs.lemmas.Bool.{false≢true, cases_eq}
use Rattle.grid_decided.specs.Decided.{meets_exactly}
use Rattle.mesh_base.specs.Failing.{failing}
use Rattle.mesh_base.specs.Mesh.{Mesh}
use Rattle.mesh_base.specs.Shifts.{Shifts, end_in_box}
use Rattle.mesh_base.proofs.Moves.{both_true}
use Rattle.step_zones.proofs.Searched.{all_range}
use Rattle.step_choose.specs.Impulses.{all_pass, NoneFails, after_passes, passes_serve, fewest_passes, PassesServe}
use Rattle.step_choose.specs.Choice.{NoPassesServeBelow}
use Rattle.step_choose.proofs.Passing.{no_length}
use Rattle.step_choose.proofs.Least.{found_least, none_found}

-- what passes for a range passes for each number of it
in_range : (test : ℕ → Bool) (from len : ℕ) → list_all test (range_with_len from len) ≡ true → (k : ℕ) → from ≤ k → k < from + len → test k ≡ true
in_range test from zero all k low high = absurd (omega arith)
in_range test from (suc len) all k low high = by_case (cases_eq from k) (in_range test (from + 1) len parts.1 k)
  where
    parts : (test from ≡ true) × (list_all test (range_with_len (from + 1) len) ≡ true)
    parts = both_true (test from) (list_all test (range_with_len (from + 1) len)) all

    by_case : (from ≡ k) ⊎ (from ≡ k → ⊥) → (from + 1 ≤ k → k < (from + 1) + len → test k ≡ true) → test k ≡ true
    by_case (inl e) later = ap test (sym e) ∙ parts.0
    by_case (inr apart) later = later (omega (arith, apart)) (omega arith)

module _ (m : Mesh) (asked : Shifts) (depth : ℕ) where
  serve_of : (n : ℕ) → passes_serve meets_exactly m asked depth n ≡ true → PassesServe meets_exactly m asked depth n
  unfolding passes_serve
  serve_of n e =
      let parts = both_true (all_pass meets_exactly m (after_passes meets_exactly m asked depth n) depth) (list_all (λ q. end_in_box m (after_passes meets_exactly m asked depth q)) (range_with_len 1 n)) e in
      record {
        none_fails = no_length (failing meets_exactly m (after_passes meets_exactly m asked depth n) depth) parts.0;
        in_box = λ q some h. in_range (λ k. end_in_box m (after_passes meets_exactly m asked depth k)) 1 n parts.1 q some (omega arith);
      }

  of_serve : (n : ℕ) → PassesServe meets_exactly m asked depth n → passes_serve meets_exactly m asked depth n ≡ true
  unfolding passes_serve
  of_serve n serve =
      λ i. eq-eqb (length (failing meets_exactly m (after_passes meets_exactly m asked depth n) depth)) 0 (ap length serve.none_fails) i
      && all_range (λ q. end_in_box m (after_passes meets_exactly m asked depth q)) 1 n (λ q some h. serve.in_box q some (omega arith)) i

  not_served : (n : ℕ) → passes_serve meets_exactly m asked depth n ≡ false → ¬ (PassesServe meets_exactly m asked depth n)
  not_served n e serve = false≢true (sym e ∙ of_serve n serve)

  -- the fewest passes that serve
  pub record AreFewest (most n : ℕ) : Type 0 where
    pub serve : PassesServe meets_exactly m asked depth n
    pub some : 1 ≤ n
    pub within : n ≤ most
    pub fewest : NoPassesServeBelow meets_exactly m depth asked n

  pub are_fewest : (most n : ℕ) → fewest_passes meets_exactly m asked depth most ≡ Some n → AreFewest most n
  unfolding fewest_passes
  are_fewest most n e =
      let least = found_least (passes_serve meets_exactly m asked depth) 1 most n e in
      record {
        serve = serve_of n least.passes;
        some = least.at_least;
        within = omega (arith, least.below);
        fewest = λ k h h'. not_served k (least.none_before k h h');
      }

  pub none_serve : (most : ℕ) → fewest_passes meets_exactly m asked depth most ≡ None → NoPassesServeBelow meets_exactly m depth asked (most + 1)
  unfolding fewest_passes
  none_serve most e = λ k h h'. not_served k (none_found (passes_serve meets_exactly m asked depth) 1 most e k h (omega arith))
