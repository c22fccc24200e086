-- The pairs that meet are those that do not pass where nothing moves.
use Rattle.std.proofs.Common.{◌≡◌, not, Bool, true, false, cond, List, [], ◌∷◌, map, slice_get, refl, sym, ap, subst, ◌∙◌}
use Rattle.std.specs.List.{filter}
use Rattle.std.proofs.lemmas.Bool.{false≢true}
use Rattle.grid_base.specs.declared.Positions.{Positions}
use Rattle.grid_base.specs.Meeting.{MeetAt}
use Rattle.grid_base.specs.Separation.{Passes}
use Rattle.grid_base.proofs.Reflected.{passes_of, of_passes}
use Rattle.grid_base.proofs.SeparationLaws.{Passes-still, still-Passes}
use Rattle.grid_decided.specs.Decided.{meets_exactly, meets_exactly-is_exact}
use Rattle.mesh_base.specs.declared.ids.PairName.{PairName}
use Rattle.mesh_base.specs.Failing.{failing, pair_passes, first_meeting}
use Rattle.mesh_base.specs.Mesh.{Mesh, IsSound}
use Rattle.mesh_base.specs.Pairs.{Pair, pairs}
use Rattle.mesh_base.specs.Placements.{rest_positions, positions}
use Rattle.mesh_base.specs.Shifts.{moved_by}
use Rattle.mesh_base.proofs.Moves.{plus-origin, same_positions}
use Rattle.pair_scan.specs.Failed.{IsFailing, AreFailing}
use Rattle.pair_scan.specs.Scan.{IsMeeting}
use Rattle.pair_scan.proofs.InOrder.{are_failing}
use Rattle.pair_scan.proofs.Lists.{head_filtered}
use Rattle.mesh_faults.specs.MeetingPairs.{meeting_pairs, AreMeeting}

module _ (m : Mesh) where
  abbrev here : Pair → Positions
  here p = positions (rest_positions m) p

  -- where no shift is named, a pair ends where it begins
  same_end : (p : Pair) → positions (moved_by m []).end p ≡ here p
  same_end p = sym (same_positions (rest_positions m) (moved_by m []).end p (λ v. sym (plus-origin (rest_positions m v))))

  passes_still : (p : Pair) → ¬ (MeetAt (here p)) → Passes 0 (here p) (positions (moved_by m []).end p)
  passes_still p apart = subst (Passes 0 (here p)) (sym (same_end p)) (Passes-still 0 (here p) apart)

  still_passes : (p : Pair) → Passes 0 (here p) (positions (moved_by m []).end p) → ¬ (MeetAt (here p))
  still_passes p pass = still-Passes 0 (here p) (subst (Passes 0 (here p)) (same_end p) pass)

  -- the two tests of a pair agree
  fails_as_meets : (p : Pair) → not (pair_passes meets_exactly 0 (moved_by m []) p) ≡ meets_exactly (here p)
  fails_as_meets p = turned (pair_passes meets_exactly 0 (moved_by m []) p) (meets_exactly (here p))
      (λ pass met. still_passes p (passes_of meets_exactly meets_exactly-is_exact 0 (here p) (positions (moved_by m []).end p) pass) ((meets_exactly-is_exact (here p)).0 met))
      (λ apart. of_passes meets_exactly meets_exactly-is_exact 0 (here p) (positions (moved_by m []).end p) (passes_still p (λ meet. false≢true (sym apart ∙ (meets_exactly-is_exact (here p)).1 meet))))
    where
      turned : (a b : Bool) → (a ≡ true → b ≡ true → ⊥) → (b ≡ false → a ≡ true) → not a ≡ b
      turned true true never always = absurd (never refl refl)
      turned true false never always = refl
      turned false true never always = refl
      turned false false never always = absurd (false≢true (always refl))

  filtered_as : (p q : Pair → Bool) → ((x : Pair) → p x ≡ q x) → (xs : List Pair) → filter p xs ≡ filter q xs
  filtered_as p q same [] = refl
  filtered_as p q same (x ∷ xs) = ap (λ b. cond b (x ∷ filter p xs) (filter p xs)) (same x) ∙ ap (λ l. cond (q x) (x ∷ l) l) (filtered_as p q same xs)

  -- so those that do not pass are those that meet
  failing_still : failing meets_exactly m [] 0 ≡ meeting_pairs m
  failing_still = ap (map (λ (p : Pair). p.name)) (filtered_as (λ p. not (pair_passes meets_exactly 0 (moved_by m []) p)) (λ p. meets_exactly (here p)) fails_as_meets (pairs m))

  -- ---- by their names
  meets_by_fail : (n : PairName) → IsFailing m [] 0 n → IsMeeting m n
  meets_by_fail n is = (is.0, is.1, by_test (meets_exactly (here p)) refl)
    where
      p : Pair
      p = record { name = n; corners = is.0 }

      by_test : (b : Bool) → meets_exactly (here p) ≡ b → MeetAt (here p)
      by_test true e = (meets_exactly-is_exact (here p)).0 e
      by_test false e = absurd (is.2 (passes_still p (λ meet. false≢true (sym e ∙ (meets_exactly-is_exact (here p)).1 meet))))

  fails_by_meet : (n : PairName) → IsMeeting m n → IsFailing m [] 0 n
  fails_by_meet n is = (is.0, is.1, λ pass. still_passes (record { name = n; corners = is.0 }) pass is.2)

  pub are_meeting : IsSound m → AreMeeting m (meeting_pairs m)
  are_meeting sound =
      let are : AreFailing m [] 0 (meeting_pairs m) = subst (AreFailing m [] 0) failing_still (are_failing m [] 0 sound) in
      record {
        each = λ n. (λ there. meets_by_fail n ((are.each n).0 there), λ is. (are.each n).1 (fails_by_meet n is));
        rising = are.rising;
      }

-- the first of them is the first that meets
pub first_is_first_meeting : (m : Mesh) → slice_get (meeting_pairs m) 0 ≡ first_meeting meets_exactly m (rest_positions m)
first_is_first_meeting m = head_filtered (λ (p : Pair). p.name) (λ p. meets_exactly (positions (rest_positions m) p)) (pairs m)
