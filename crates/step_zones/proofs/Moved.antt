-- A pair that lies in one block moves as one, and passes where it does not meet at the start.
use Rattle.std.proofs.Common.{◌≡◌, ◌≢◌, ℕ, ◌+◌, ◌<◌, ◌==◌, ◌||◌, ◌&&◌, not, Bool, true, false, cond, nat_lt, IsTrue, List, [], ◌∷◌, map, length, ℤ, pos, ◌-ℤ◌, refl, sym, ap, subst, ◌∙◌, ⊎_elim, arith}
use Rattle.std.specs.Option.{option_map, unwrap_or}
use Rattle.std.proofs.Common.{Some}
use Rattle.std.specs.List.{filter, find, list_all, AllByRecursion}
use Rattle.std.specs.FinMap as finite
use Rattle.std.proofs.lemmas.Int.{ints}
use Rattle.std.proofs.lemmas.Bool.{false≢true, eqb-true}
use Rattle.std.proofs.lemmas.Bool.Decides.{nat_tests}
use Rattle.grid_base.specs.declared.Positions.{Positions}
use Rattle.grid_base.specs.Triples.{Triple, plus, minus}
use Rattle.grid_base.specs.Points.{displacement_of, shift_by}
use Rattle.grid_base.specs.SeparationTests.{IsExact, are_separated, is_zero, same_triple, move_together, passes}
use Rattle.mesh_base.specs.declared.steps.ShiftOf.{ShiftOf}
use Rattle.mesh_base.specs.Mesh.{Mesh, IsSound, IsLiveVertex}
use Rattle.mesh_base.specs.Pairs.{Pair, IsPair, five_ids, pairs}
use Rattle.mesh_base.specs.Placements.{origin, rest_positions, positions, IsClearMesh}
use Rattle.mesh_base.specs.Shifts.{Shifts, NameLive, shift_at, moved_by}
use Rattle.mesh_base.specs.Failing.{pair_passes}
use Rattle.mesh_base.proofs.Tests.{or_either, or_second, and_first, and_second}
use Rattle.mesh_base.proofs.Listed.{at_live, edge_live}
use Rattle.mesh_base.proofs.ListedPairs.{listed_pairs, all_filtered, all_weaker}
use Rattle.mesh_base.proofs.Moves.{minus-plus}
use Rattle.step_zones.specs.Zones.{Labels, is_in_one, block_at, block_shift, zone_by, zone_shift, zone_shifts}
use Rattle.step_zones.specs.Chains.{is_one_of}
use Rattle.pair_scan.specs.Named.{failing_pairs}
use Rattle.step_zones.proofs.Labelled.{each_is, AreLiveFive}

-- ---- the five of a pair are live
pub live_five : (m : Mesh) → IsSound m → (p : Pair) → IsPair m p → AreLiveFive m p
live_five m sound p is =
    let ends = edge_live m p.name.a p.name.b sound is.edge in
    let corners = sound.is_mesh.live_corners p.name.face p.corners is.face in
    let listed : (v : ℕ) → IsLiveVertex m v → is_one_of (finite.keys m.points) v ≡ true = λ v live. at_live (λ u. is_one_of (finite.keys m.points) u ≡ true) m.points v (each_is (finite.keys m.points)) live in
    (listed p.name.a ends.0, (listed p.name.b ends.1, (listed p.corners.first corners.0, (listed p.corners.second corners.1, (listed p.corners.third corners.2, tt)))))

-- ---- the shift of a vertex, among shifts each of which is changed
shift_changed : (f : ShiftOf → ShiftOf) (v : ℕ) (t : Triple) (shifts : Shifts) → ((s : ShiftOf) → (f s).v ≡ s.v) → ((s : ShiftOf) → s.v ≡ v → displacement_of (f s).by ≡ t)
    → is_one_of (map (λ s. s.v) shifts) v ≡ true → shift_at (map f shifts) v ≡ t
shift_changed f v t [] same gets is = absurd (false≢true is)
shift_changed f v t (s ∷ rest) same gets is = by_test (s.v == v) refl (λ k. shift_changed f v t rest same gets k)
  where
    later : (b : Bool) → (s.v == v) ≡ b → b ≡ false → is_one_of (map (λ x. x.v) rest) v ≡ true
    later b e no_match = subst (λ c. (c || is_one_of (map (λ x. x.v) rest) v) ≡ true) (e ∙ no_match) is

    at_test : (b : Bool) → ((f s).v == v) ≡ b → shift_at (map f (s ∷ rest)) v ≡ unwrap_or (option_map (λ x. displacement_of x.by) (cond b (Some (f s)) (find (λ x. x.v == v) (map f rest)))) origin
    at_test b e = ap (λ c. unwrap_or (option_map (λ x. displacement_of x.by) (cond c (Some (f s)) (find (λ x. x.v == v) (map f rest)))) origin) e

    by_test : (b : Bool) → (s.v == v) ≡ b → (is_one_of (map (λ x. x.v) rest) v ≡ true → shift_at (map f rest) v ≡ t) → shift_at (map f (s ∷ rest)) v ≡ t
    by_test true e after = at_test true (ap (λ u. u == v) (same s) ∙ e) ∙ gets s (eqb-true s.v v e)
    by_test false e after = at_test false (ap (λ u. u == v) (same s) ∙ e) ∙ after (later false e refl)

-- ---- a block with two vertices that differ
one_passes : (test : ℕ → Bool) (xs : List ℕ) (u : ℕ) → is_one_of xs u ≡ true → test u ≡ true → 0 < length (filter test xs)
one_passes test [] u is t = absurd (false≢true is)
one_passes test (x ∷ xs) u is t = by_test (test x) refl (λ k. one_passes test xs u k t)
  where
    by_test : (b : Bool) → test x ≡ b → (is_one_of xs u ≡ true → 0 < length (filter test xs)) → 0 < length (cond b (x ∷ filter test xs) (filter test xs))
    by_test true e after = omega arith
    by_test false e after = ⊎_elim (λ s. absurd (false≢true (sym e ∙ subst (λ w. test w ≡ true) (sym (eqb-true x u s)) t))) after (or_either (x == u) (is_one_of xs u) is)

two_pass : (test : ℕ → Bool) (xs : List ℕ) (u v : ℕ) → u ≢ v → is_one_of xs u ≡ true → is_one_of xs v ≡ true → test u ≡ true → test v ≡ true → 1 < length (filter test xs)
two_pass test [] u v apart iu iv tu tv = absurd (false≢true iu)
two_pass test (x ∷ xs) u v apart iu iv tu tv = by_test (test x) refl (λ j k. two_pass test xs u v apart j k tu tv)
  where
    differ : (x == u) ≡ true → (x == v) ≡ true → ⊥
    differ j k = apart (sym (eqb-true x u j) ∙ eqb-true x v k)

    more : (n : ℕ) → 0 < n → 1 < 1 + n
    more n h = omega arith

    by_test : (b : Bool) → test x ≡ b → (is_one_of xs u ≡ true → is_one_of xs v ≡ true → 1 < length (filter test xs)) → 1 < length (cond b (x ∷ filter test xs) (filter test xs))
    by_test true e after =
        let some : 0 < length (filter test xs) = ⊎_elim
        (λ j. ⊎_elim (λ k. absurd (differ j k)) (λ k. one_passes test xs v k tv) (or_either (x == v) (is_one_of xs v) iv))
        (λ j. one_passes test xs u j tu)
        (or_either (x == u) (is_one_of xs u) iu) in
        omega arith
    by_test false e after =
        let no_u : (x == u) ≡ true → ⊥ = λ s. false≢true (sym e ∙ subst (λ w. test w ≡ true) (sym (eqb-true x u s)) tu) in
        let no_v : (x == v) ≡ true → ⊥ = λ s. false≢true (sym e ∙ subst (λ w. test w ≡ true) (sym (eqb-true x v s)) tv) in
        after
        (⊎_elim (λ s. absurd (no_u s)) (λ k. k) (or_either (x == u) (is_one_of xs u) iu))
        (⊎_elim (λ s. absurd (no_v s)) (λ k. k) (or_either (x == v) (is_one_of xs v) iv))

less_test : (n : ℕ) → 1 < n → nat_lt 1 n ≡ true
less_test n h = grind (arith, nat_tests)

-- ---- what moves by one shift passes
zero_difference : (z : ℤ) → is_zero (z -ℤ z) ≡ true
zero_difference z = ap is_zero (none z)
  where
    none : (x : ℤ) → x -ℤ x ≡ pos 0
    none x = omega (arith, ints)

and_both : (a b : Bool) → a ≡ true → b ≡ true → (a && b) ≡ true
and_both a b h k = (λ i. h i && k i)

same_as_itself : (t : Triple) → same_triple t t ≡ true
same_as_itself t = and_both (is_zero (t.x -ℤ t.x) && is_zero (t.y -ℤ t.y)) (is_zero (t.z -ℤ t.z)) (and_both (is_zero (t.x -ℤ t.x)) (is_zero (t.y -ℤ t.y)) (zero_difference t.x) (zero_difference t.y)) (zero_difference t.z)

same_move : (s s' e e' t : Triple) → e ≡ plus s t → e' ≡ plus s' t → same_triple (minus e s) (minus e' s') ≡ true
same_move s s' e e' t h k = (λ i. same_triple (minus (h i) s) (minus (k i) s')) ∙ (λ i. same_triple (minus-plus s t i) (minus-plus s' t i)) ∙ same_as_itself t

false_where_not : (b : Bool) → ¬ (IsTrue b) → b ≡ false
false_where_not true h = absurd (h refl)
false_where_not false h = refl

as_one : (meets : Positions → Bool) (depth : ℕ) (s e : Positions) (t : Triple) → meets s ≡ false
    → e.a ≡ plus s.a t → e.b ≡ plus s.b t → e.c ≡ plus s.c t → e.d ≡ plus s.d t → e.e ≡ plus s.e t → passes meets depth s e ≡ true
as_one meets depth s e t apart a b c d f =
    or_second (are_separated depth s e) (move_together s e && not (meets s))
    (and_both (move_together s e) (not (meets s)) together (ap not apart))
  where
    together : move_together s e ≡ true
    together =
        let hb = same_move s.b s.a e.b e.a t b a in
        let hc = same_move s.c s.a e.c e.a t c a in
        let hd = same_move s.d s.a e.d e.a t d a in
        let he = same_move s.e s.a e.e e.a t f a in
        (λ i. hb i && hc i && hd i && he i)

-- ---- the five in one block
pub block_moves_as_one : (meets : Positions → Bool) (m : Mesh) (asked : Shifts) (depth : ℕ) (at : Labels) → IsExact meets → IsSound m → IsClearMesh m → NameLive m asked
    → (p : Pair) → IsPair m p → is_in_one at p ≡ true → pair_passes meets depth (moved_by m (zone_shifts m asked at)) p ≡ true
block_moves_as_one meets m asked depth at exact sound clear named p is one =
    as_one meets depth (positions (rest_positions m) p) (positions (λ v. plus (rest_positions m v) (shift_at (zone_shifts m asked at) v)) p) by
    (false_where_not (meets (positions (rest_positions m) p)) (λ t. clear p is ((exact (positions (rest_positions m) p)).0 t)))
    (ends p.name.a live.0 refl)
    (ends p.name.b live.1.0 (eqb-true (at p.name.b) l parts.1.0))
    (ends p.corners.first live.1.1.0 (eqb-true (at p.corners.first) l parts.1.1.0))
    (ends p.corners.second live.1.1.1.0 (eqb-true (at p.corners.second) l parts.1.1.1.0))
    (ends p.corners.third live.1.1.1.1.0 (eqb-true (at p.corners.third) l parts.1.1.1.1.0))
  where
    l : ℕ
    l = at p.name.a

    keys : List ℕ
    keys = finite.keys m.points

    live : AreLiveFive m p
    live = live_five m sound p is

    all_of : (us : List ℕ) → list_all (λ u. at u == at p.name.a) us ≡ true → AllByRecursion (λ u. (at u == at p.name.a) ≡ true) us
    all_of [] h = tt
    all_of (x ∷ us) h = (and_first (at x == at p.name.a) (list_all (λ u. at u == at p.name.a) us) h, all_of us (and_second (at x == at p.name.a) (list_all (λ u. at u == at p.name.a) us) h))

    parts : AllByRecursion (λ u. (at u == at p.name.a) ≡ true) (five_ids p)
    parts = all_of (five_ids p) one

    by : Triple
    by = displacement_of (shift_by (block_shift m asked (block_at m at (at p.name.a))))

    differ : p.name.a ≢ p.name.b
    differ e = let less = is.ordered in omega arith

    large : nat_lt 1 (length (block_at m at (at p.name.a))) ≡ true
    large = less_test (length (block_at m at (at p.name.a))) (two_pass (λ u. at u == at p.name.a) (finite.keys m.points) p.name.a p.name.b differ live.0 live.1.0 parts.0 parts.1.0)

    gets : (v : ℕ) → at v ≡ at p.name.a → (s : ShiftOf) → s.v ≡ v → displacement_of (zone_by m asked at s) ≡ by
    gets v e s same =
        ap (λ k. displacement_of (cond (nat_lt 1 (length (block_at m at k))) (shift_by (block_shift m asked (block_at m at k))) s.by)) (ap at same ∙ e)
        ∙ ap (λ t. displacement_of (cond t (shift_by (block_shift m asked (block_at m at (at p.name.a)))) s.by)) large

    ends : (v : ℕ) → is_one_of (finite.keys m.points) v ≡ true → at v ≡ at p.name.a → plus (rest_positions m v) (shift_at (zone_shifts m asked at) v) ≡ plus (rest_positions m v) by
    ends v there e = ap (plus (rest_positions m v)) (shift_changed (zone_shift m asked at) v by asked (λ s. refl) (gets v e) (subst (λ ids. is_one_of ids v ≡ true) (sym named) there))

-- a failing pair is a pair that does not pass
failing_are : (meets : Positions → Bool) (m : Mesh) (shifts : Shifts) (depth : ℕ) → AllByRecursion (λ p. IsPair m p × (pair_passes meets depth (moved_by m shifts) p ≡ false)) (failing_pairs meets m shifts depth)
failing_are meets m shifts depth =
    all_filtered (λ p. IsPair m p × (pair_passes meets depth (moved_by m shifts) p ≡ false)) (λ p. not (pair_passes meets depth (moved_by m shifts) p)) (pairs m)
    (all_weaker (IsPair m) (λ p. not (pair_passes meets depth (moved_by m shifts) p) ≡ true → IsPair m p × (pair_passes meets depth (moved_by m shifts) p ≡ false)) (pairs m)
    (λ p is fails. (is, turned (pair_passes meets depth (moved_by m shifts) p) fails)) (listed_pairs m))
  where
    turned : (b : Bool) → not b ≡ true → b ≡ false
    turned true h = absurd (false≢true h)
    turned false h = refl

pub failing_live : (meets : Positions → Bool) (m : Mesh) (shifts : Shifts) (depth : ℕ) → IsSound m → AllByRecursion (AreLiveFive m) (failing_pairs meets m shifts depth)
failing_live meets m shifts depth sound =
    all_weaker (λ p. IsPair m p × (pair_passes meets depth (moved_by m shifts) p ≡ false)) (AreLiveFive m) (failing_pairs meets m shifts depth) (λ p h. live_five m sound p h.0) (failing_are meets m shifts depth)

pub in_two_blocks : (meets : Positions → Bool) (m : Mesh) (asked : Shifts) (depth : ℕ) (at : Labels) → IsExact meets → IsSound m → IsClearMesh m → NameLive m asked
    → AllByRecursion (λ p. is_in_one at p ≡ false) (failing_pairs meets m (zone_shifts m asked at) depth)
in_two_blocks meets m asked depth at exact sound clear named =
    all_weaker (λ p. IsPair m p × (pair_passes meets depth (moved_by m (zone_shifts m asked at)) p ≡ false)) (λ p. is_in_one at p ≡ false) (failing_pairs meets m (zone_shifts m asked at) depth)
    (λ p h. by_test p h (is_in_one at p) refl) (failing_are meets m (zone_shifts m asked at) depth)
  where
    by_test : (p : Pair) → IsPair m p × (pair_passes meets depth (moved_by m (zone_shifts m asked at)) p ≡ false) → (t : Bool) → is_in_one at p ≡ t → t ≡ false
    by_test p h true e = absurd (false≢true (sym h.1 ∙ block_moves_as_one meets m asked depth at exact sound clear named p h.0 e))
    by_test p h false e = refl
