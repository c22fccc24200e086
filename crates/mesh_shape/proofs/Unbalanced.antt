-- The sides that run more often one way than the other are the unbalanced pairs.
use Rattle.std.proofs.Common.{◌≡◌, ℕ, ◌+◌, ◌^◌, ◌<◌, ◌≤◌, ◌==◌, ◌&&◌, ◌||◌, not, Bool, true, false, cond, List, [], ◌∷◌, ◌++◌, map, nat_lt, length, take, drop, get_or, zero, suc, add-one, append_assoc, if◌then◌else◌, refl, sym, ap, subst, ◌∙◌, arith}
use Rattle.std.specs.List.{filter}
use Rattle.std.specs.List.Sorted.{IsNonDecreasingBy, IsStrictlySortedBy}
use Rattle.std.proofs.Math.Seq.{drop-cons}
use Rattle.std.proofs.lemmas.Bool.{false≢true}
use Rattle.std.proofs.lemmas.Bool.Decides.{nat_tests}
use Rattle.std.proofs.lemmas.List.{append-nil, drop_all}
use Rattle.std.proofs.lemmas.List.Kept.{IsStrictlySortedBy-filter}
use Rattle.std.proofs.lemmas.Map.Lookups.{CmpEqualImpliesEq, exact_pairs, exact_unsigned, btree_set_from_contains}
use Rattle.std.specs.Ordering.{nat_cmp}
use Rattle.mesh_base.specs.declared.faults.ShapeFault.{ShapeFault}
use Rattle.mesh_base.specs.Given.{Faces}
use Rattle.mesh_base.specs.Pairs.{id_pairs}
use Rattle.mesh_base.specs.SideList.{edge_cmp, side_rank, has_side, HasSmallEnds}
use Rattle.mesh_base.proofs.InOrder.{edge_total}
use Rattle.mesh_shape.specs.Balance.{same_ends, times, HasRuns}
use Rattle.mesh_shape.specs.Shape.{is_vertex, runs_in, numbers_to}
use Rattle.mesh_shape.specs.Balance.{AreSmall, IsInOrder, differs, are_vertices, HasUnbalanced}
use Rattle.mesh_shape.specs.ShapeFaults.{one_if, unbalanced_fault, unbalanced_pairs}
use Rattle.mesh_shape.proofs.Prefixes.{same_before}
use Rattle.mesh_shape.proofs.Differing.{has_joined, is_side, same_side, some_times}
use Rattle.mesh_shape.proofs.NumberedPairs.{numbered_pairs_sorted, has_numbered, has_chosen}

-- ---- small ends
some_there : (n : ℕ) → 0 < n → not (n == 0) ≡ true
some_there n h = grind (arith, nat_tests)

there_some : (n : ℕ) → not (n == 0) ≡ true → 0 < n
there_some n h = grind (arith, nat_tests)

-- one more side whose larger end is small
pub small_pushed : (old new : List (ℕ × ℕ)) (s : ℕ × ℕ) → new ≡ old ++ s ∷ [] → s.1 < 2 ^ 32 → AreSmall old → AreSmall new
small_pushed old new s put low small u v some = by_test (has_side old u v) refl
  where
    has : has_side (old ++ s ∷ []) u v ≡ true
    has = sym (some_times (old ++ s ∷ []) u v) ∙ some_there (times (old ++ s ∷ []) u v) (subst (λ l. 0 < times l u v) put some)

    only : (a b : Bool) → (a || (b || false)) ≡ true → a ≡ false → b ≡ true
    only true b h e = absurd (false≢true (sym e))
    only false true h e = refl
    only false false h e = h

    by_test : (b : Bool) → has_side old u v ≡ b → v < 2 ^ 32
    by_test true e = small u v (there_some (times old u v) (some_times old u v ∙ e))
    by_test false e =
        let here : same_ends s (u, v) ≡ true = is_side s u v ∙ only _ _ (sym (has_joined old (s ∷ []) u v) ∙ has) e in
        subst (λ p. p.1 < 2 ^ 32) (same_side s u v here) low

-- ---- what differs
module _ (fs : Faces) (up down : List (ℕ × ℕ)) (runs_up : HasRuns up (λ u v. runs_in fs u v)) (runs_down : HasRuns down (λ u v. runs_in fs v u)) where
  pub differs_where : (u v : ℕ) → differs up down u v ≡ (nat_lt u v && not (runs_in fs u v == runs_in fs v u))
  differs_where u v = ap (λ n. not (n == times down u v)) (runs_up u v) ∙ ap (λ n. not ((if nat_lt u v then runs_in fs u v else 0) == n)) (runs_down u v) ∙ by_order (nat_lt u v)
    where
      by_order : (b : Bool) → not ((if b then runs_in fs u v else 0) == (if b then runs_in fs v u else 0)) ≡ (b && not (runs_in fs u v == runs_in fs v u))
      by_order true = refl
      by_order false = refl

-- what differs is small, where both lists are
pub differing_small : (one other list : List (ℕ × ℕ)) → AreSmall one → AreSmall other → ((u v : ℕ) → has_side list u v ≡ differs one other u v) → HasSmallEnds list
differing_small one other list small small' has u v there = by_counts (times one u v) refl (times other u v) refl (sym (has u v) ∙ there)
  where
    by_counts : (a : ℕ) → times one u v ≡ a → (b : ℕ) → times other u v ≡ b → not (a == b) ≡ true → v < 2 ^ 32
    by_counts zero e zero e' h = absurd (false≢true h)
    by_counts (suc a) e b e' h = small u v (omega (arith, e))
    by_counts zero e (suc b) e' h = small' u v (omega (arith, e'))

-- ---- what a sort leaves
module _ (old new : List (ℕ × ℕ)) (same : (u v : ℕ) → times new u v ≡ times old u v) where
  pub in_order : AreSmall old → IsNonDecreasingBy side_rank new → IsInOrder new
  in_order small rises = record { small = λ u v some. small u v (subst (λ n. 0 < n) (same u v) some); rises = rises }

-- ---- those between vertices
edge_exact : CmpEqualImpliesEq edge_cmp
edge_exact = exact_pairs nat_cmp nat_cmp exact_unsigned exact_unsigned

regroup : (a b l t : Bool) → ((a && b) && (l && t)) ≡ (t && (a && (l && b)))
regroup false b l true = refl
regroup false b l false = refl
regroup true false true true = refl
regroup true false false true = refl
regroup true false l false = refl
regroup true true true true = refl
regroup true true true false = refl
regroup true true false true = refl
regroup true true false false = refl

pub between_vertices : (n : ℕ) (fs : Faces) (sides : List (ℕ × ℕ)) → IsStrictlySortedBy edge_cmp sides → HasUnbalanced sides fs → filter (are_vertices n) sides ≡ unbalanced_pairs n fs
between_vertices n fs sides sorted has =
    btree_set_from_contains edge_total (record { keys = filter (are_vertices n) sides }) (record { keys = unbalanced_pairs n fs })
    (IsStrictlySortedBy-filter edge_cmp (are_vertices n) sides sorted)
    (IsStrictlySortedBy-filter edge_cmp test (id_pairs (numbers_to n)) (numbered_pairs_sorted n))
    (λ q. same q.0 q.1) edge_exact
  where
    test : ℕ × ℕ → Bool
    test p = not (runs_in fs p.0 p.1 == runs_in fs p.1 p.0)

    same : (u v : ℕ) → has_side (filter (are_vertices n) sides) u v ≡ has_side (unbalanced_pairs n fs) u v
    same u v =
        has_chosen (are_vertices n) sides u v
        ∙ ap (λ b. are_vertices n (u, v) && b) (has u v)
        ∙ regroup (is_vertex n u) (is_vertex n v) (nat_lt u v) (not (runs_in fs u v == runs_in fs v u))
        ∙ sym (has_chosen (λ p. not (runs_in fs p.0 p.1 == runs_in fs p.1 p.0)) (id_pairs (numbers_to n)) u v ∙ ap (λ b. not (runs_in fs u v == runs_in fs v u) && b) (has_numbered n u v))

-- ---- one side more is put at the end, where it is between vertices
module _ (most n : ℕ) (sides : List (ℕ × ℕ)) where
  abbrev rest : List (ℕ × ℕ) → List ShapeFault
  rest ss = map unbalanced_fault (filter (are_vertices n) ss)

  next_side : (s : ℕ × ℕ) (ss : List (ℕ × ℕ)) → rest (s ∷ ss) ≡ one_if (are_vertices n s) (unbalanced_fault s) ++ rest ss
  next_side s ss = by_test (are_vertices n s)
    where
      by_test : (b : Bool) → map unbalanced_fault (cond b (s ∷ filter (are_vertices n) ss) (filter (are_vertices n) ss)) ≡ one_if b (unbalanced_fault s) ++ rest ss
      by_test true = refl
      by_test false = refl

  pub between_more : (i : ℕ) (d : ℕ × ℕ) (old new whole : List ShapeFault) → i < length sides → take most (old ++ rest (drop i sides)) ≡ whole → take most new ≡ take most (old ++ one_if (are_vertices n (get_or sides i d)) (unbalanced_fault (get_or sides i d))) → take most (new ++ rest (drop (i + 1) sides)) ≡ whole
  between_more i d old new whole h so_far put =
      let s : ℕ × ℕ = get_or sides i d in
      let whole_of : (old ++ one_if (are_vertices n s) (unbalanced_fault s)) ++ rest (drop (i + 1) sides) ≡ old ++ rest (drop i sides) =
      append_assoc old (one_if (are_vertices n s) (unbalanced_fault s)) (rest (drop (i + 1) sides))
      ∙ ap (λ l. old ++ l) (sym (next_side s (drop (i + 1) sides)))
      ∙ ap (λ k. old ++ rest (s ∷ drop k sides)) (add-one i)
      ∙ ap (λ l. old ++ rest l) (sym (drop-cons sides i d h)) in
      same_before most new (old ++ one_if (are_vertices n s) (unbalanced_fault s)) (rest (drop (i + 1) sides)) put
      ∙ ap (take most) whole_of
      ∙ so_far

  pub between_end : (i : ℕ) (list whole : List ShapeFault) → length sides ≤ i → take most (list ++ rest (drop i sides)) ≡ whole → take most list ≡ whole
  between_end i list whole h so_far = ap (take most) (sym (append-nil list) ∙ ap (λ l. list ++ rest l) (sym (drop_all i sides h))) ∙ so_far
