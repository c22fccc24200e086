-- The round that a search finds.
use Rattle.std.proofs.Common.{◌≡◌, ◌≢◌, ℕ, zero, suc, ◌+◌, ◌<◌, ◌≤◌, ◌==◌, ◌&&◌, Bool, true, false, cond, List, [], ◌∷◌, length, map, Some, None, refl, sym, ap, subst, ◌∙◌, ⊎_elim, ◌⊎◌, inl, inr, arith, add-one, eq-eqb, below_more}
use Rattle.std.proofs.Common.{IsTrue}
use Rattle.std.specs.List.{find, fold, list_all, range_with_len, AllByRecursion}
use Rattle.std.specs.List.Sorted.{IsStrictlySortedBy}
use Rattle.std.specs.Ordering.{nat_cmp}
use Rattle.std.specs.FinMap as finite
use Rattle.std.specs.FinMap.{len-entries}
use Rattle.std.proofs.lemmas.Bool.{cases_eq, cases_lt, ne_eqb}
use Rattle.std.proofs.lemmas.Map.Entries.{length-keys_of}
use Rattle.grid_base.specs.declared.TheConstants.{VERTICES_MAX}
use Rattle.grid_base.specs.declared.Positions.{Positions}
use Rattle.grid_base.specs.SeparationTests.{IsExact}
use Rattle.grid_decided.specs.Decided.{meets_exactly, meets_exactly-is_exact}
use Rattle.mesh_base.specs.declared.ids.PairName.{PairName}
use Rattle.mesh_base.specs.Failing.{failing}
use Rattle.mesh_base.specs.Mesh.{Mesh, IsSound, is_solid}
use Rattle.mesh_base.specs.Pairs.{Pair, five_ids}
use Rattle.mesh_base.specs.Placements.{origin, IsClearMesh}
use Rattle.mesh_base.specs.Shifts.{Shifts, NameLive, end_in_box, shift_at}
use Rattle.mesh_base.proofs.ListedPairs.{all_weaker}
use Rattle.pair_scan.specs.Named.{pairs_named, failing_pairs}
use Rattle.pair_scan.proofs.PairNames.{failing_named}
use Rattle.pair_scan.proofs.Paths.{ids_sorted}
use Rattle.step_zones.specs.Chains.{is_one_of}
use Rattle.step_zones.specs.Ranks.{joined_all, AreNamed}
use Rattle.step_zones.specs.Totals.{labelled_shifts, labelled_blocks}
use Rattle.step_zones.specs.Zones.{Labels, joined, blocks, zone_shift, zone_shifts}
use Rattle.step_zones.specs.Rounds.{hits_before, round_labels, round_shifts, round_hits, serves, round_taken, IsFirstToServe, SomeRoundLeaves}
use Rattle.step_zones.proofs.Labelled.{joined_on, AreGood, AreLiveFive, first_of, later_of}
use Rattle.step_zones.proofs.Linked.{listed, AreNamedFive, all_joined_listed, shifts_listed, blocks_listed}
use Rattle.step_zones.proofs.Moved.{failing_live}
use Rattle.step_zones.proofs.Solid.{solid_stay}
use Rattle.step_zones.specs.Zones.{alone}
use Rattle.step_zones.proofs.Rounds.{blocks_left, round_good}
use Rattle.mesh_base.proofs.MeshLaws.{few_live_vertices}

-- ---- a number that is sought among numbers, one after another
pub found_first : (test : ℕ → Bool) (from len n : ℕ) → from ≤ n → n < from + len → test n ≡ true → ((k : ℕ) → from ≤ k → k < n → test k ≡ false) → find test (range_with_len from len) ≡ Some n
found_first test from zero n low high on off = absurd (omega arith)
found_first test from (suc len) n low high on off = ⊎_elim
    (λ same. ap (λ b. cond b (Some from) (find test (range_with_len (from + 1) len))) (ap test same ∙ on) ∙ ap Some same)
    (λ apart. ap (λ b. cond b (Some from) (find test (range_with_len (from + 1) len))) (off from (omega arith) (omega (arith, apart)))
    ∙ found_first test (from + 1) len n (omega (arith, apart)) (omega arith) on (λ k h h'. off k (omega arith) h'))
    (cases_eq from n)

pub found_none : (test : ℕ → Bool) (from len : ℕ) → ((k : ℕ) → from ≤ k → k < from + len → test k ≡ false) → find test (range_with_len from len) ≡ None
found_none test from zero off = refl
found_none test from (suc len) off =
    ap (λ b. cond b (Some from) (find test (range_with_len (from + 1) len))) (off from (omega arith) (omega arith))
    ∙ found_none test (from + 1) len (λ k h h'. off k (omega arith) (omega arith))

pub all_range : (test : ℕ → Bool) (from len : ℕ) → ((k : ℕ) → from ≤ k → k < from + len → test k ≡ true) → list_all test (range_with_len from len) ≡ true
all_range test from zero on = refl
all_range test from (suc len) on =
    ap (λ b. b && list_all test (range_with_len (from + 1) len)) (on from (omega arith) (omega arith))
    ∙ all_range test (from + 1) len (λ k h h'. on k (omega arith) (omega arith))

pub not_all : (test : ℕ → Bool) (from len n : ℕ) → from ≤ n → n < from + len → test n ≡ false → list_all test (range_with_len from len) ≡ false
not_all test from zero n low high off = absurd (omega arith)
not_all test from (suc len) n low high off = ⊎_elim
    (λ same. ap (λ b. b && list_all test (range_with_len (from + 1) len)) (ap test same ∙ off))
    (λ apart. ap (λ b. test from && b) (not_all test (from + 1) len n (omega (arith, apart)) (omega arith) off) ∙ and_false (test from))
    (cases_eq from n)
  where
    and_false : (b : Bool) → (b && false) ≡ false
    and_false true = refl
    and_false false = refl

some_length : {X : Type 0} (xs : List X) → xs ≢ [] → (length xs == 0) ≡ false
some_length [] some = absurd (some refl)
some_length (x ∷ xs) some = ne_eqb (suc (length xs)) 0 (λ e. none e)
  where
    none : suc (length xs) ≡ 0 → ⊥
    none e = omega arith

pub no_length : {X : Type 0} (xs : List X) → length xs ≡ 0 → xs ≡ []
no_length [] e = refl
no_length (x ∷ xs) e = absurd (omega arith)

-- ---- one round more
module _ (meets : Positions → Bool) (m : Mesh) (asked : Shifts) (depth : ℕ) where
  -- the labels of the next round
  pub next_labels : (round : ℕ) → round_labels meets m asked depth (round + 1) ≡ fold joined (round_labels meets m asked depth round) (round_hits meets m asked depth round)
  unfolding hits_before round_labels round_shifts round_hits
  next_labels round = ap (round_labels meets m asked depth) (add-one round) ∙ joined_on alone (hits_before meets m asked depth round) (round_hits meets m asked depth round)

  pub one_more_fails : (round : ℕ) → ((q : ℕ) → q < round → round_hits meets m asked depth q ≢ []) → round_hits meets m asked depth round ≢ [] → (q : ℕ) → q < round + 1 → round_hits meets m asked depth q ≢ []
  one_more_fails round before here = below_more (λ k. round_hits meets m asked depth k ≢ []) round before here

  pub one_more_ends : (round : ℕ) → ((q : ℕ) → q < round → end_in_box m (round_shifts meets m asked depth q) ≡ true) → end_in_box m (round_shifts meets m asked depth round) ≡ true
      → (q : ℕ) → q < round + 1 → end_in_box m (round_shifts meets m asked depth q) ≡ true
  one_more_ends round before here = below_more (λ k. end_in_box m (round_shifts meets m asked depth k) ≡ true) round before here

  -- the first round that serves is found
  pub first_is_taken : (round : ℕ) → round ≤ length (finite.keys m.points) → IsFirstToServe meets m asked depth round → round_taken meets m asked depth ≡ Some round
  unfolding serves round_taken
  first_is_taken round few first =
      found_first (serves meets m asked depth) 0 (suc (length (finite.keys m.points))) round (omega arith) (omega arith)
      ((λ i. (eq-eqb (length (round_hits meets m asked depth round)) 0 (ap length first.none_fails) i) && (all_range (λ q. end_in_box m (round_shifts meets m asked depth q)) 0 (suc round) (λ q h h'. first.in_box q (omega arith)) i)))
      (λ q h h'. ap (λ b. b && list_all (λ k. end_in_box m (round_shifts meets m asked depth k)) (range_with_len 0 (suc q))) (some_length (round_hits meets m asked depth q) (first.each_fails q h')))

  -- none is found where a round leaves the box first
  pub none_is_taken : SomeRoundLeaves meets m asked depth → round_taken meets m asked depth ≡ None
  unfolding serves round_taken
  none_is_taken some = found_none (serves meets m asked depth) 0 (suc (length (finite.keys m.points))) (λ q h h'. ⊎_elim (λ less. fails q less) (λ more. leaves q more) (before_or_after q some.0))
    where
      before_or_after : (a b : ℕ) → (a < b) ⊎ (b ≤ a)
      before_or_after a b = cases_lt a b

      and_false : (b : Bool) → (b && false) ≡ false
      and_false true = refl
      and_false false = refl

      fails : (q : ℕ) → q < some.0 → serves meets m asked depth q ≡ false
      fails q less = ap (λ b. b && list_all (λ k. end_in_box m (round_shifts meets m asked depth k)) (range_with_len 0 (suc q))) (some_length (round_hits meets m asked depth q) (some.1.each_fails q less))

      leaves : (q : ℕ) → some.0 ≤ q → serves meets m asked depth q ≡ false
      leaves q more =
          ap (λ b. (length (round_hits meets m asked depth q) == 0) && b) (not_all (λ k. end_in_box m (round_shifts meets m asked depth k)) 0 (suc q) some.0 (omega arith) (omega arith) some.1.leaves)
          ∙ and_false (length (round_hits meets m asked depth q) == 0)

  -- there are no more rounds than live vertices
  pub rounds_left : (round : ℕ) → IsExact meets → IsSound m → IsClearMesh m → NameLive m asked → ((q : ℕ) → q < round → round_hits meets m asked depth q ≢ []) → round ≤ length (finite.keys m.points)
  rounds_left round exact sound clear named each = let left = blocks_left meets m asked depth round exact sound clear named each in omega arith

-- ---- sizes and names
pub vertices_are_few : (m : Mesh) → IsSound m → length (finite.keys m.points) ≤ VERTICES_MAX
vertices_are_few m sound = let few = few_live_vertices m sound in let size = len-entries m.points in let same : length (finite.keys m.points) ≡ length (finite.entries m.points) = length-keys_of (finite.entries m.points) in omega arith

pub names_zoned : (m : Mesh) (asked : Shifts) (at : Labels) → map (λ s. s.v) (zone_shifts m asked at) ≡ map (λ s. s.v) asked
names_zoned m asked at = each asked
  where
    each : (xs : Shifts) → map (λ s. s.v) (map (zone_shift m asked at) xs) ≡ map (λ s. s.v) xs
    each [] = refl
    each (s ∷ rest) = ap (λ ids. s.v ∷ ids) (each rest)

pub length_ids : (xs : Shifts) → length (map (λ s. s.v) xs) ≡ length xs
length_ids [] = refl
length_ids (s ∷ rest) = ap suc (length_ids rest)

-- ---- a round, as it is computed
-- what the steps of a round ask of the lists
pub record AreReady (m : Mesh) (asked : Shifts) (labels : List ℕ) : Type 0 where
  pub rising : IsStrictlySortedBy nat_cmp (map (λ s. s.v) asked)
  pub each : length labels ≡ length asked
  pub few : length asked ≤ VERTICES_MAX
  pub named : AreNamed asked labels

module _ (m : Mesh) (asked : Shifts) (depth round : ℕ) (sound : IsSound m) (named : NameLive m asked) where
  abbrev at : Labels
  at = round_labels meets_exactly m asked depth round

  length_listed : (xs : Shifts) → length (listed at xs) ≡ length xs
  length_listed [] = refl
  length_listed (s ∷ rest) = ap suc (length_listed rest)

  all_named : AreNamed asked (listed at asked)
  all_named = each asked (λ v is. is)
    where
      good : AreGood m at
      good = round_good meets_exactly m asked depth round sound

      live : (v : ℕ) → is_one_of (map (λ s. s.v) asked) v ≡ true → is_one_of (map (λ s. s.v) asked) (at v) ≡ true
      live v is = subst (λ ids. is_one_of ids (at v) ≡ true) (sym named) (good.live v (subst (λ ids. is_one_of ids v ≡ true) named is))

      each : (xs : Shifts) → ((v : ℕ) → is_one_of (map (λ s. s.v) xs) v ≡ true → is_one_of (map (λ s. s.v) asked) v ≡ true) → AllByRecursion (λ l. IsTrue (is_one_of (map (λ s. s.v) asked) l)) (listed at xs)
      each [] h = tt
      each (s ∷ rest) h = (live s.v (h s.v (first_of s.v (map (λ u. u.v) rest))), each rest (λ v is. h v (later_of s.v v (map (λ u. u.v) rest) is)))

  ready : AreReady m asked (listed at asked)
  ready = record {
    rising = ids_sorted m asked named;
    each = length_listed asked;
    few = (let few = vertices_are_few m sound in let same = length_ids asked in let live : length (map (λ s. s.v) asked) ≡ length (finite.keys m.points) = ap length named in omega arith);
    named = all_named;
  }

  pub ready_as : (asked' : Shifts) (labels' : List ℕ) → asked' ≡ asked → labels' ≡ listed at asked → AreReady m asked' labels'
  ready_as asked' labels' e f = subst (λ ls. AreReady m asked' ls) (sym f) (subst (λ xs. AreReady m xs (listed at asked)) (sym e) ready)

  -- the shifts of the round
  pub shifts_as : (asked' : Shifts) (labels' : List ℕ) (taken : Shifts) → asked' ≡ asked → labels' ≡ listed at asked → taken ≡ labelled_shifts m asked' labels' → taken ≡ round_shifts meets_exactly m asked depth round
  unfolding round_shifts
  shifts_as asked' labels' taken e f made = made ∙ (λ i. labelled_shifts m (e i) (f i)) ∙ shifts_listed m asked at named (ids_sorted m asked named)

  pub shifts_named : NameLive m (round_shifts meets_exactly m asked depth round)
  unfolding round_shifts
  shifts_named = names_zoned m asked at ∙ named

  pub solids_stay : (v : ℕ) → is_solid m v ≡ true → shift_at asked v ≡ origin → shift_at (round_shifts meets_exactly m asked depth round) v ≡ origin
  unfolding round_shifts
  solids_stay v solid none = solid_stay m asked at v (sound.is_mesh.solid_ids v solid) solid none

  -- its blocks
  pub blocks_as : (asked' : Shifts) (labels' : List ℕ) (made : List (List ℕ)) → asked' ≡ asked → labels' ≡ listed at asked → made ≡ labelled_blocks m asked' labels' → made ≡ blocks m at
  blocks_as asked' labels' made e f is = is ∙ (λ i. labelled_blocks m (e i) (f i)) ∙ blocks_listed m asked at named (ids_sorted m asked named)

  -- its failing pairs
  pub hits_as : (taken : Shifts) (names : List PairName) → taken ≡ round_shifts meets_exactly m asked depth round → names ≡ failing meets_exactly m taken depth → pairs_named m names ≡ round_hits meets_exactly m asked depth round
  unfolding round_hits
  hits_as taken names e is = ap (pairs_named m) (is ∙ ap (λ by. failing meets_exactly m by depth) e) ∙ failing_named meets_exactly m (round_shifts meets_exactly m asked depth round) depth

  pub none_as : (names : List PairName) → pairs_named m names ≡ round_hits meets_exactly m asked depth round → length names ≡ 0 → round_hits meets_exactly m asked depth round ≡ []
  none_as names e none = sym e ∙ ap (pairs_named m) (no_length names none)

  pub some_as : (names : List PairName) → pairs_named m names ≡ round_hits meets_exactly m asked depth round → (length names ≡ 0 → ⊥) → round_hits meets_exactly m asked depth round ≢ []
  some_as names e some none = some (sym (length_pairs names) ∙ ap length (e ∙ none))
    where
      length_pairs : (ns : List PairName) → length (pairs_named m ns) ≡ length ns
      length_pairs [] = refl
      length_pairs (n ∷ ns) = ap suc (length_pairs ns)

  five_named : AllByRecursion (AreNamedFive asked) (round_hits meets_exactly m asked depth round)
  unfolding round_hits
  five_named = all_weaker (AreLiveFive m) (AreNamedFive asked) (failing_pairs meets_exactly m (round_shifts meets_exactly m asked depth round) depth)
      (λ p live. subst (λ ids. AllByRecursion (λ u. is_one_of ids u ≡ true) (five_ids p)) (sym named) live)
      (failing_live meets_exactly m (round_shifts meets_exactly m asked depth round) depth sound)

  -- the labels of the next round
  pub labels_as : (asked' : Shifts) (labels after : List ℕ) (names : List PairName) → asked' ≡ asked → labels ≡ listed at asked → pairs_named m names ≡ round_hits meets_exactly m asked depth round
      → after ≡ joined_all m asked' labels names → after ≡ listed (round_labels meets_exactly m asked depth (round + 1)) asked
  labels_as asked' labels after names e f hits made =
      made
      ∙ (λ i. joined_all m (e i) (f i) names)
      ∙ all_joined_listed m at asked names (subst (AllByRecursion (AreNamedFive asked)) (sym hits) five_named)
      ∙ ap (λ ps. listed (fold joined at ps) asked) hits
      ∙ ap (λ (ls : Labels). listed ls asked) (sym (next_labels meets_exactly m asked depth round))

-- the labels of the first round
pub first_labels : (m : Mesh) (asked : Shifts) (depth : ℕ) → map (λ s. s.v) asked ≡ listed (round_labels meets_exactly m asked depth 0) asked
unfolding hits_before round_labels
first_labels m asked depth = refl

-- ---- a round serves, or one leaves the box first
module _ (m : Mesh) (asked : Shifts) (depth : ℕ) (sound : IsSound m) (clear : IsClearMesh m) (named : NameLive m asked) where
  abbrev FailsBefore : ℕ → Type 0
  FailsBefore round = (q : ℕ) → q < round → round_hits meets_exactly m asked depth q ≢ []

  abbrev EndsBefore : ℕ → Type 0
  EndsBefore round = (q : ℕ) → q < round → end_in_box m (round_shifts meets_exactly m asked depth q) ≡ true

  abbrev Decided : Type 0
  Decided = ((round : ℕ) × IsFirstToServe meets_exactly m asked depth round) ⊎ SomeRoundLeaves meets_exactly m asked depth

  -- a round, where the next ones are decided
  decided_at : (round : ℕ) → FailsBefore round → EndsBefore round → (end_in_box m (round_shifts meets_exactly m asked depth round) ≡ true → round_hits meets_exactly m asked depth round ≢ [] → Decided) → Decided
  decided_at round fails ends later = by_ends (end_in_box m (round_shifts meets_exactly m asked depth round)) refl
    where
      serves_here : (end_in_box m (round_shifts meets_exactly m asked depth round) ≡ true) → round_hits meets_exactly m asked depth round ≡ [] → Decided
      serves_here here none = inl (round, record { none_fails = none; in_box = λ q h. one_more_ends meets_exactly m asked depth round ends here q (omega arith); each_fails = fails })

      filled : (p : Pair) (hits : List Pair) → p ∷ hits ≡ [] → ⊥
      filled p hits x = cc

      by_hits : (end_in_box m (round_shifts meets_exactly m asked depth round) ≡ true) → (hits : List Pair) → round_hits meets_exactly m asked depth round ≡ hits → Decided
      by_hits here [] e = serves_here here e
      by_hits here (p ∷ hits) e = later here (λ none. filled p hits (sym e ∙ none))

      by_ends : (b : Bool) → end_in_box m (round_shifts meets_exactly m asked depth round) ≡ b → Decided
      by_ends true e = by_hits e (round_hits meets_exactly m asked depth round) refl
      by_ends false e = inr (round, record { leaves = e; each_fails = fails })

  decided_from : (left round : ℕ) → length (finite.keys m.points) < round + left → FailsBefore round → EndsBefore round → Decided
  decided_from zero round enough fails ends = absurd (let most = rounds_left meets_exactly m asked depth round meets_exactly-is_exact sound clear named fails in omega arith)
  decided_from (suc left) round enough fails ends =
      decided_at round fails ends (λ here some. decided_from left (round + 1) (omega arith) (one_more_fails meets_exactly m asked depth round fails some) (one_more_ends meets_exactly m asked depth round ends here))

  decided : Decided
  decided = decided_from (suc (length (finite.keys m.points))) 0 (omega arith) (λ q h. absurd (omega arith)) (λ q h. absurd (omega arith))

  few_first : (round : ℕ) → IsFirstToServe meets_exactly m asked depth round → round_taken meets_exactly m asked depth ≡ Some round
  few_first round first = first_is_taken meets_exactly m asked depth round (rounds_left meets_exactly m asked depth round meets_exactly-is_exact sound clear named first.each_fails) first

  -- the round taken is the first that serves
  pub taken_serves : (round : ℕ) → round_taken meets_exactly m asked depth ≡ Some round → IsFirstToServe meets_exactly m asked depth round
  taken_serves round e = ⊎_elim
      (λ found. subst (IsFirstToServe meets_exactly m asked depth) (same found.0 (few_first found.0 found.1)) found.1)
      (λ leaves. absurd (none (none_is_taken meets_exactly m asked depth leaves)))
      decided
    where
      same : (r : ℕ) → round_taken meets_exactly m asked depth ≡ Some r → r ≡ round
      same r h = some_same r round (sym h ∙ e)
        where
          some_same : (a b : ℕ) → Some a ≡ Some b → a ≡ b
          some_same a b x = cc

      none : round_taken meets_exactly m asked depth ≡ None → ⊥
      none h = apart round (sym h ∙ e)
        where
          apart : (a : ℕ) → None ≡ Some a → ⊥
          apart a x = cc

  -- where none is taken a round leaves the box first
  pub none_taken_leaves : round_taken meets_exactly m asked depth ≡ None → SomeRoundLeaves meets_exactly m asked depth
  none_taken_leaves e = ⊎_elim (λ found. absurd (apart found.0 (sym e ∙ few_first found.0 found.1))) (λ leaves. leaves) decided
    where
      apart : (a : ℕ) → None ≡ Some a → ⊥
      apart a x = cc
