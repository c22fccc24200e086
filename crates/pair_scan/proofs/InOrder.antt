-- The list of the pairs that do not pass has exactly these, in order; and no pair that meets comes before the first.
use Rattle.std.proofs.Common.{◌≡◌, ℕ, Bool, true, false, cond, not, List, [], ◌∷◌, Option, Some, None, refl, sym, subst, ◌∙◌}
use Rattle.std.specs.Prelude.{IfSome}
use Rattle.std.specs.List.{filter, find, AllByRecursion, Contains}
use Rattle.std.specs.List.Sorted.{IsStrictlySortedBy}
use Rattle.std.specs.Option.{option_map}
use Rattle.std.specs.declared.cmp.Ordering.TheVariants.{Less}
use Rattle.std.proofs.lemmas.Bool.{false≢true}
use Rattle.std.proofs.lemmas.List.Elements.{All-from_recursion, recursion_from_All, All-contains_itself, All-contains}
use Rattle.std.proofs.lemmas.List.Kept.{IsStrictlySortedBy-filter}
use Rattle.grid_base.proofs.Reflected.{passes_of, of_passes}
use Rattle.grid_decided.specs.Decided.{meets_exactly, meets_exactly-is_exact}
use Rattle.mesh_base.specs.declared.ids.PairName.{PairName}
use Rattle.mesh_base.specs.Failing.{failing, pair_passes}
use Rattle.mesh_base.specs.Mesh.{Mesh, IsSound}
use Rattle.mesh_base.specs.Pairs.{Pair, IsPair, pairs, name_cmp}
use Rattle.mesh_base.specs.Placements.{Motion, rest_positions, positions}
use Rattle.mesh_base.specs.Shifts.{Shifts, moved_by}
use Rattle.mesh_base.proofs.Listed.{listed, all_map, all_filter}
use Rattle.mesh_base.proofs.ListedPairs.{listed_pairs, all_mapped, all_filtered, all_weaker}
use Rattle.mesh_base.proofs.InOrder.{by_name, name_total, pairs_sorted, sorted_mapped}
use Rattle.pair_scan.specs.Failed.{DoesNotPass, IsFailing, AreFailing}
use Rattle.pair_scan.specs.Scan.{first_of, NoneMeetsBefore}

-- ---- the pairs that do not pass
not_passing : (depth : ℕ) (w : Motion) (p : Pair) → not (pair_passes meets_exactly depth w p) ≡ true → DoesNotPass depth w p
not_passing depth w p off pass = false≢true (sym (negated (pair_passes meets_exactly depth w p) off) ∙ of_passes meets_exactly meets_exactly-is_exact depth (positions w.start p) (positions w.end p) pass)
  where
    negated : (b : Bool) → not b ≡ true → b ≡ false
    negated true e = sym e
    negated false e = refl

passing_not : (depth : ℕ) (w : Motion) (p : Pair) → DoesNotPass depth w p → not (pair_passes meets_exactly depth w p) ≡ true
passing_not depth w p never = by_test (pair_passes meets_exactly depth w p) refl
  where
    by_test : (b : Bool) → pair_passes meets_exactly depth w p ≡ b → not b ≡ true
    by_test true e = absurd (never (passes_of meets_exactly meets_exactly-is_exact depth (positions w.start p) (positions w.end p) e))
    by_test false e = refl

pub are_failing : (m : Mesh) (by : Shifts) (depth : ℕ) → IsSound m → AreFailing m by depth (failing meets_exactly m by depth)
are_failing m by depth sound = record { each = λ n. (from_list n, into_list n); rising = in_order }
  where
    from_list : (n : PairName) → Contains (failing meets_exactly m by depth) n → IsFailing m by depth n
    from_list n = All-contains (IsFailing m by depth) (failing meets_exactly m by depth) n (All-from_recursion (IsFailing m by depth) (failing meets_exactly m by depth)
        (all_mapped (IsFailing m by depth) (λ p. p.name) (filter (λ p. not (pair_passes meets_exactly depth (moved_by m by) p)) (pairs m))
        (all_filtered (λ p. IsFailing m by depth p.name) (λ p. not (pair_passes meets_exactly depth (moved_by m by) p)) (pairs m)
        (all_weaker (IsPair m) (λ p. not (pair_passes meets_exactly depth (moved_by m by) p) ≡ true → IsFailing m by depth p.name) (pairs m)
        (λ p is off. (p.corners, is, not_passing depth (moved_by m by) p off)) (listed_pairs m)))))

    into_list : (n : PairName) → IsFailing m by depth n → Contains (failing meets_exactly m by depth) n
    into_list n is = listed m (λ p. not (pair_passes meets_exactly depth (moved_by m by) p) ≡ true → Contains (failing meets_exactly m by depth) p.name) sound
        (all_filter (λ p. Contains (failing meets_exactly m by depth) p.name) (λ p. not (pair_passes meets_exactly depth (moved_by m by) p)) (pairs m)
        (all_map (Contains (failing meets_exactly m by depth)) (λ p. p.name) (filter (λ p. not (pair_passes meets_exactly depth (moved_by m by) p)) (pairs m))
        (recursion_from_All (Contains (failing meets_exactly m by depth)) (failing meets_exactly m by depth) (All-contains_itself (failing meets_exactly m by depth)))))
        (record { name = n; corners = is.0 }) is.1 (passing_not depth (moved_by m by) (record { name = n; corners = is.0 }) is.2)

    in_order : IsStrictlySortedBy name_cmp (failing meets_exactly m by depth)
    in_order = sorted_mapped by_name name_cmp (λ p. p.name) (filter (λ p. not (pair_passes meets_exactly depth (moved_by m by) p)) (pairs m)) (λ p q less. less)
        (IsStrictlySortedBy-filter by_name (λ p. not (pair_passes meets_exactly depth (moved_by m by) p)) (pairs m) (pairs_sorted m))

-- ---- the first that meets
not_both_less : (n o : PairName) → name_cmp n o ≡ Less → name_cmp o n ≡ Less → ⊥
not_both_less n o h h' = let turned = name_total.antisymm n o in cc

first_found : (test : Pair → Bool) (xs : List Pair) (x : Pair) → IsStrictlySortedBy by_name xs → find test xs ≡ Some x → AllByRecursion (λ y. test y ≡ true → ¬ (by_name y x ≡ Less)) xs
unfolding IsStrictlySortedBy
first_found test [] x h e = tt
first_found test (y ∷ ys) x h e = by_test (first_found test ys x h.1) (test y) refl e
  where
    by_test : (find test ys ≡ Some x → AllByRecursion (λ z. test z ≡ true → ¬ (by_name z x ≡ Less)) ys) → (b : Bool) → test y ≡ b → cond b (Some y) (find test ys) ≡ Some x
        → (test y ≡ true → ¬ (by_name y x ≡ Less)) × AllByRecursion (λ z. test z ≡ true → ¬ (by_name z x ≡ Less)) ys
    by_test rest true t e =
        let same : y ≡ x = cc in
        subst (λ z. (test y ≡ true → ¬ (by_name y z ≡ Less)) × AllByRecursion (λ w. test w ≡ true → ¬ (by_name w z ≡ Less)) ys) same
        (λ yes less. not_both_less y.name y.name less less, all_weaker (λ w. by_name y w ≡ Less) (λ w. test w ≡ true → ¬ (by_name w y ≡ Less)) ys (λ w above yes less. not_both_less y.name w.name above less) h.0)
    by_test rest false t e = (λ yes. absurd (false≢true (sym t ∙ yes)), rest e)

-- no pair that meets comes before what is answered
none_before : (m : Mesh) (n : PairName) → IsSound m → first_of m (pairs m) ≡ Some n → NoneMeetsBefore m n
none_before m n sound e o meeting less = by_found (find (λ p. meets_exactly (positions (rest_positions m) p)) (pairs m)) refl e
  where
    by_found : (f : Option Pair) → find (λ p. meets_exactly (positions (rest_positions m) p)) (pairs m) ≡ f → option_map (λ p. p.name) f ≡ Some n → ⊥
    by_found None at is = cc
    by_found (Some p) at is =
        let same : p.name ≡ n = cc in
        listed m (λ q. meets_exactly (positions (rest_positions m) q) ≡ true → ¬ (by_name q p ≡ Less)) sound
        (first_found (λ q. meets_exactly (positions (rest_positions m) q)) (pairs m) p (pairs_sorted m) at)
        (record { name = o; corners = meeting.0 }) meeting.1 ((meets_exactly-is_exact (positions (rest_positions m) (record { name = o; corners = meeting.0 }))).1 meeting.2)
        (subst (λ k. name_cmp o k ≡ Less) (sym same) less)

pub answer_is_first : (m : Mesh) (r : Option PairName) → IsSound m → r ≡ first_of m (pairs m) → IfSome r (NoneMeetsBefore m)
answer_is_first m None sound e = tt
answer_is_first m (Some n) sound e = none_before m n sound (sym e)
