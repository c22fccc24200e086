-- Vertices that are in a block of their own keep their label, so only the places of others are looked at.
use Rattle.std.proofs.Common.{◌≡◌, ◌≢◌, ℕ, zero, suc, ◌+◌, ◌<◌, ◌==◌, ◌||◌, min, Bool, true, false, cond, List, [], ◌∷◌, ◌++◌, length, map, Option, Some, None, refl, sym, ap, subst, ◌∙◌, ◌⊎◌, inl, inr, ⊎_elim, arith}
use Rattle.std.specs.Prelude.{slice_get, slice_set}
use Rattle.std.specs.List.{find}
use Rattle.std.specs.List.Sorted.{IsStrictlySortedBy}
use Rattle.std.specs.Ordering.{nat_cmp}
use Rattle.std.proofs.lemmas.Bool.{false≢true, eqb-true, eq-eqb, cases_lt}
use Rattle.std.proofs.lemmas.Bool.Decides.{nat_tests}
use Rattle.std.proofs.lemmas.List.Folds.{list_any-append}
use Rattle.std.proofs.lemmas.Map.Keys.{sorted_head, sorted_tail}
use Rattle.mesh_base.specs.declared.steps.ShiftOf.{ShiftOf}
use Rattle.mesh_base.specs.Shifts.{Shifts}
use Rattle.mesh_base.proofs.Tests.{or_first, or_second, not_both}
use Rattle.step_zones.specs.Chains.{is_one_of}
use Rattle.step_zones.specs.Ranks.{label_by, least_of, relabelled, relabelled_at, AreAlone, HasPlaces}
use Rattle.step_zones.proofs.Ranked.{below_at}

-- ---- the least of labels is one of them, so to join twice is to join once
min_is : (a b : ℕ) → (min a b ≡ a) ⊎ (min a b ≡ b)
min_is a b = ⊎_elim (λ h. inl (omega (arith, h))) (λ h. inr (omega (arith, h))) (cases_lt a b)

least_is_one : (l : ℕ) (touched : List ℕ) → is_one_of (l ∷ touched) (least_of (l ∷ touched)) ≡ true
least_is_one l [] = or_first (l == l) false (eq-eqb l l refl)
least_is_one l (k ∷ touched) = ⊎_elim
    (λ e. or_first (l == least_of (l ∷ k ∷ touched)) (is_one_of (k ∷ touched) (least_of (l ∷ k ∷ touched))) (eq-eqb l (least_of (l ∷ k ∷ touched)) (sym e)))
    (λ e. or_second (l == least_of (l ∷ k ∷ touched)) (is_one_of (k ∷ touched) (least_of (l ∷ k ∷ touched))) (subst (λ n. is_one_of (k ∷ touched) n ≡ true) (sym e) (least_is_one k touched)))
    (min_is l (least_of (k ∷ touched)))

least_among : (touched : List ℕ) (l : ℕ) → is_one_of touched l ≡ true → is_one_of touched (least_of touched) ≡ true
least_among [] l h = absurd (false≢true h)
least_among (k ∷ touched) l h = least_is_one k touched

joined_once : (touched : List ℕ) (l : ℕ) → relabelled touched (relabelled touched l) ≡ relabelled touched l
joined_once touched l = by_test (is_one_of touched l) refl
  where
    by_test : (b : Bool) → is_one_of touched l ≡ b → relabelled touched (cond b (least_of touched) l) ≡ cond b (least_of touched) l
    by_test true e = ap (λ b. cond b (least_of touched) (least_of touched)) (least_among touched l e)
    by_test false e = ap (λ b. cond b (least_of touched) l) e

-- ---- one place more
one_of_more : (places : List ℕ) (p i : ℕ) → is_one_of (places ++ p ∷ []) i ≡ (is_one_of places i || (p == i || false))
one_of_more places p i = list_any-append (λ u. u == i) places (p ∷ [])

pub none_joined : (touched : List ℕ) (i : ℕ) (labels : List ℕ) → labels ≡ relabelled_at touched [] i labels
none_joined touched i [] = refl
none_joined touched i (l ∷ labels) = ap (λ ls. l ∷ ls) (none_joined touched (i + 1) labels)

-- what a place that is not in the list has is as it was
not_here : (places : List ℕ) (p i : ℕ) → p ≢ i → is_one_of (places ++ p ∷ []) i ≡ is_one_of places i
not_here places p i apart = one_of_more places p i ∙ same (is_one_of places i) (p == i) (differ p i apart)
  where
    differ : (p i : ℕ) → p ≢ i → (p == i) ≡ false
    differ p i apart = grind (arith, nat_tests)

    same : (a b : Bool) → b ≡ false → (a || (b || false)) ≡ a
    same true b e = refl
    same false b e = ap (λ t. t || false) e

later_same : (touched places : List ℕ) (p i : ℕ) (labels : List ℕ) → p < i → relabelled_at touched (places ++ p ∷ []) i labels ≡ relabelled_at touched places i labels
later_same touched places p i [] h = refl
later_same touched places p i (l ∷ labels) h =
    (λ k. cond (not_here places p i (λ e. omega (arith, e, h)) k) (relabelled touched l) l ∷ later_same touched places p (i + 1) labels (omega arith) k)

set_one : (touched places : List ℕ) (i j x : ℕ) (labels : List ℕ) → slice_get (relabelled_at touched places i labels) j ≡ Some x
    → slice_set (relabelled_at touched places i labels) j (relabelled touched x) ≡ relabelled_at touched (places ++ (i + j) ∷ []) i labels
set_one touched places i j x [] e = cc
set_one touched places i zero x (l ∷ labels) e = by_test (is_one_of places i) refl
  where
    rest : relabelled_at touched places (i + 1) labels ≡ relabelled_at touched (places ++ (i + 0) ∷ []) (i + 1) labels
    rest = sym (later_same touched places (i + 0) (i + 1) labels (omega arith))

    here : is_one_of (places ++ (i + 0) ∷ []) i ≡ true
    here = one_of_more places (i + 0) i ∙ or_second (is_one_of places i) ((i + 0) == i || false) (or_first ((i + 0) == i) false (eq-eqb (i + 0) i (omega arith)))

    by_test : (b : Bool) → is_one_of places i ≡ b → relabelled touched x ∷ relabelled_at touched places (i + 1) labels ≡ relabelled_at touched (places ++ (i + 0) ∷ []) i (l ∷ labels)
    by_test b is = let stood : cond (is_one_of places i) (relabelled touched l) l ≡ x = cc in
        λ k. (ap (relabelled touched) (sym stood) ∙ both (is_one_of places i) ∙ sym (ap (λ t. cond t (relabelled touched l) l) here)) k ∷ rest k
      where
        both : (t : Bool) → relabelled touched (cond t (relabelled touched l) l) ≡ relabelled touched l
        both true = joined_once touched l
        both false = refl
set_one touched places i (suc j) x (l ∷ labels) e =
    let next : (i + 1) + j ≡ i + suc j = omega arith in
    (λ k. cond (sym (not_here places (i + suc j) i (λ same. omega (arith, same))) k) (relabelled touched l) l ∷ (set_one touched places (i + 1) j x labels e ∙ ap (λ p. relabelled_at touched (places ++ p ∷ []) (i + 1) labels) next) k)

pub one_more : (touched places : List ℕ) (labels now after : List ℕ) (p x : ℕ) → now ≡ relabelled_at touched places 0 labels → slice_get now p ≡ Some x → after ≡ slice_set now p (relabelled touched x) → after ≡ relabelled_at touched (places ++ p ∷ []) 0 labels
one_more touched places labels now after p x is at made =
    made ∙ ap (λ ls. slice_set ls p (relabelled touched x)) is
    ∙ set_one touched places 0 p x labels (ap (λ ls. slice_get ls p) (sym is) ∙ at)
    ∙ ap (λ q. relabelled_at touched (places ++ q ∷ []) 0 labels) (omega arith)

none_there : (touched places : List ℕ) (i j : ℕ) (labels : List ℕ) → slice_get (relabelled_at touched places i labels) j ≡ None → relabelled_at touched places i labels ≡ relabelled_at touched (places ++ (i + j) ∷ []) i labels
none_there touched places i j [] e = refl
none_there touched places i zero (l ∷ labels) e = cc
none_there touched places i (suc j) (l ∷ labels) e =
    let next : (i + 1) + j ≡ i + suc j = omega arith in
    (λ k. cond (sym (not_here places (i + suc j) i (λ same. omega (arith, same))) k) (relabelled touched l) l ∷ (none_there touched places (i + 1) j labels e ∙ ap (λ p. relabelled_at touched (places ++ p ∷ []) (i + 1) labels) next) k)

pub none_more : (touched places : List ℕ) (labels now : List ℕ) (p : ℕ) → now ≡ relabelled_at touched places 0 labels → slice_get now p ≡ None → now ≡ relabelled_at touched (places ++ p ∷ []) 0 labels
none_more touched places labels now p is at =
    is ∙ none_there touched places 0 p labels (ap (λ ls. slice_get ls p) (sym is) ∙ at)
    ∙ ap (λ q. relabelled_at touched (places ++ q ∷ []) 0 labels) (omega arith)

-- ---- where no other place has a label that is joined, all are joined
pub all_joined : (touched places : List ℕ) (i : ℕ) (labels : List ℕ) → ((j l : ℕ) → slice_get labels j ≡ Some l → is_one_of places (i + j) ≡ false → is_one_of touched l ≡ false) → relabelled_at touched places i labels ≡ map (relabelled touched) labels
all_joined touched places i [] others = refl
all_joined touched places i (l ∷ labels) others =
    (λ k. by_test (is_one_of places i) refl k ∷ all_joined touched places (i + 1) labels (λ j x at away. others (suc j) x at (subst (λ n. is_one_of places n ≡ false) (omega arith) away)) k)
  where
    by_test : (b : Bool) → is_one_of places i ≡ b → cond b (relabelled touched l) l ≡ relabelled touched l
    by_test true e = refl
    by_test false e = sym (ap (λ t. cond t (least_of touched) l) (others 0 l refl (subst (λ n. is_one_of places n ≡ false) (omega arith) e)))

-- ---- labels of vertices whose block is not their own
label_is : (asked : Shifts) (labels : List ℕ) (w : ℕ) → (label_by asked labels w ≡ w) ⊎ ((j : ℕ) × (t : ShiftOf) × (slice_get asked j ≡ Some t) × (t.v ≡ w) × (slice_get labels j ≡ Some (label_by asked labels w)))
label_is [] labels w = inl refl
label_is (s ∷ asked) [] w = inl refl
label_is (s ∷ asked) (l ∷ labels) w = by_test (label_is asked labels w) (s.v == w) refl
  where
    by_test : (label_by asked labels w ≡ w) ⊎ ((j : ℕ) × (t : ShiftOf) × (slice_get asked j ≡ Some t) × (t.v ≡ w) × (slice_get labels j ≡ Some (label_by asked labels w))) → (b : Bool) → (s.v == w) ≡ b → (cond b l (label_by asked labels w) ≡ w) ⊎ ((j : ℕ) × (t : ShiftOf) × (slice_get (s ∷ asked) j ≡ Some t) × (t.v ≡ w) × (slice_get (l ∷ labels) j ≡ Some (cond b l (label_by asked labels w))))
    by_test others true e = inr (0, s, refl, eqb-true s.v w e, refl)
    by_test others false e = ⊎_elim (λ own. inl own) (λ at. inr (suc at.0, at.1, at.2, at.3, at.4)) others

module _ (asked : Shifts) (labels places : List ℕ) (alone : AreAlone asked places labels) where
  apart_from : (i w : ℕ) (s : ShiftOf) → slice_get asked i ≡ Some s → is_one_of places i ≡ false → (w == s.v) ≡ false → (label_by asked labels w == s.v) ≡ false
  apart_from i w s at away other = by_test (label_by asked labels w == s.v) refl
    where
      differ : w ≢ s.v
      differ e = not_both (eq-eqb w s.v e) other

      by_test : (b : Bool) → (label_by asked labels w == s.v) ≡ b → b ≡ false
      by_test false e = refl
      by_test true e =
          let is = eqb-true (label_by asked labels w) s.v e in
          absurd (⊎_elim (λ own. differ (sym own ∙ is))
          (λ found.
          let same : found.0 ≡ i = (alone i s at away).1 found.0 (found.4 ∙ ap Some is) in
          let this : found.1 ≡ s = cc in
          differ (sym found.3 ∙ ap (λ (t : ShiftOf). t.v) this))
          (label_is asked labels w))

  none_of_five : (i : ℕ) (s : ShiftOf) (five : List ℕ) → slice_get asked i ≡ Some s → is_one_of places i ≡ false → is_one_of five s.v ≡ false → is_one_of (map (label_by asked labels) five) s.v ≡ false
  none_of_five i s [] at away none = refl
  none_of_five i s (w ∷ five) at away none = both (w == s.v) (label_by asked labels w == s.v) (is_one_of five s.v) (is_one_of (map (label_by asked labels) five) s.v) (apart_from i w s at away) (none_of_five i s five at away) none
    where
      both : (a b c d : Bool) → (a ≡ false → b ≡ false) → (c ≡ false → d ≡ false) → (a || c) ≡ false → (b || d) ≡ false
      both true b c d f g h = absurd (false≢true (sym h))
      both false b c d f g h = ap (λ t. t || d) (f refl) ∙ g h

-- the labels of five vertices are at places of the list alone
pub others_keep : (asked : Shifts) (labels before places five : List ℕ) → length labels ≡ length asked → AreAlone asked before labels → HasPlaces asked five before places
    → (j l : ℕ) → slice_get labels j ≡ Some l → is_one_of places (0 + j) ≡ false → is_one_of (map (label_by asked labels) five) l ≡ false
others_keep asked labels before places five long alone has j l at away = by_shift (slice_get asked j) refl
  where
    by_shift : (o : Option ShiftOf) → slice_get asked j ≡ o → is_one_of (map (label_by asked labels) five) l ≡ false
    by_shift None e = absurd (longer asked labels j l long e at)
      where
        longer : (xs : Shifts) (ys : List ℕ) (i y : ℕ) → length ys ≡ length xs → slice_get xs i ≡ None → slice_get ys i ≡ Some y → ⊥
        longer [] [] i y n e h = cc
        longer [] (z ∷ ys) i y n e h = omega (arith, n)
        longer (x ∷ xs) [] i y n e h = omega (arith, n)
        longer (x ∷ xs) (z ∷ ys) zero y n e h = cc
        longer (x ∷ xs) (z ∷ ys) (suc i) y n e h = longer xs ys i y (omega (arith, n)) e h
    by_shift (Some s) e =
        let far : is_one_of places j ≡ false = subst (λ n. is_one_of places n ≡ false) (omega arith) away in
        let both = has j s e far in
        let own = (alone j s e both.0).0 in
        let this : s.v ≡ l = cc in
        subst (λ n. is_one_of (map (label_by asked labels) five) n ≡ false) this (none_of_five asked labels before alone j s five e both.0 both.1)

got_mapped : (f : ℕ → ℕ) (ls : List ℕ) (j x : ℕ) → slice_get (map f ls) j ≡ Some x → (l : ℕ) × (slice_get ls j ≡ Some l) × (f l ≡ x)
got_mapped f [] j x e = cc
got_mapped f (l ∷ ls) zero x e = (l, refl, cc)
got_mapped f (l ∷ ls) (suc j) x e = got_mapped f ls j x e

map_got : (f : ℕ → ℕ) (ls : List ℕ) (j l : ℕ) → slice_get ls j ≡ Some l → slice_get (map f ls) j ≡ Some (f l)
map_got f [] j l e = cc
map_got f (k ∷ ls) zero l e = ap (λ o. (elim o as (λ _. Option ℕ) [ None ↦ None | Some y ↦ Some (f y) ])) e
map_got f (k ∷ ls) (suc j) l e = map_got f ls j l e

-- those that are not at these places are alone, once the blocks of five are joined
pub still_alone : (asked : Shifts) (labels before places five : List ℕ) → AreAlone asked before labels → HasPlaces asked five before places
    → AreAlone asked places (map (relabelled (map (label_by asked labels) five)) labels)
still_alone asked labels before places five alone has i s at away = (own, λ j e. only j e)
  where
    touched : List ℕ
    touched = map (label_by asked labels) five

    far : is_one_of before i ≡ false
    far = (has i s at away).0

    not_touched : is_one_of touched s.v ≡ false
    not_touched = none_of_five asked labels before alone i s five at far (has i s at away).1

    own : slice_get (map (relabelled touched) labels) i ≡ Some s.v
    own = map_got (relabelled touched) labels i s.v (alone i s at far).0 ∙ ap (λ b. Some (cond b (least_of touched) s.v)) not_touched

    only : (j : ℕ) → slice_get (map (relabelled touched) labels) j ≡ Some s.v → j ≡ i
    only j e =
        let from = got_mapped (relabelled touched) labels j s.v e in
        by_test from.0 from.1 (is_one_of touched from.0) refl from.2
      where
        by_test : (l : ℕ) → slice_get labels j ≡ Some l → (b : Bool) → is_one_of touched l ≡ b → cond b (least_of touched) l ≡ s.v → j ≡ i
        by_test l stood true is same = absurd (not_both (subst (λ n. is_one_of touched n ≡ true) same (least_among touched l is)) not_touched)
        by_test l stood false is same = (alone i s at far).1 j (stood ∙ ap Some same)

-- ---- at first each is alone
pub alone_first : (asked : Shifts) → IsStrictlySortedBy nat_cmp (map (λ s. s.v) asked) → AreAlone asked [] (map (λ s. s.v) asked)
alone_first asked sorted i s at away = (got asked i s at, λ j e. one asked i j s sorted at e)
  where
    got : (xs : Shifts) (i : ℕ) (s : ShiftOf) → slice_get xs i ≡ Some s → slice_get (map (λ t. t.v) xs) i ≡ Some s.v
    got [] i s e = cc
    got (x ∷ xs) zero s e = let this : x ≡ s = cc in ap (λ (t : ShiftOf). Some t.v) this
    got (x ∷ xs) (suc i) s e = got xs i s e

    less : (k v : ℕ) → nat_cmp k v ≡ nat_cmp 0 1 → k < v
    less k v e = grind (arith, nat_tests)

    there : (xs : Shifts) (j v : ℕ) → slice_get (map (λ t. t.v) xs) j ≡ Some v → (t : ShiftOf) × (slice_get xs j ≡ Some t) × (t.v ≡ v)
    there [] j v e = cc
    there (x ∷ xs) zero v e = (x, refl, cc)
    there (x ∷ xs) (suc j) v e = there xs j v e

    one : (xs : Shifts) (i j : ℕ) (s : ShiftOf) → IsStrictlySortedBy nat_cmp (map (λ t. t.v) xs) → slice_get xs i ≡ Some s → slice_get (map (λ t. t.v) xs) j ≡ Some s.v → j ≡ i
    one [] i j s up at e = cc
    one (x ∷ xs) zero zero s up at e = refl
    one (x ∷ xs) zero (suc j) s up at e =
        let other = there xs j s.v e in
        let this : x ≡ s = cc in
        absurd (let below = less x.v other.0.v (below_at x.v xs j other.0 (sorted_head nat_cmp x.v (map (λ t. t.v) xs) up) other.1) in omega (arith, below, other.2, ap (λ (t : ShiftOf). t.v) this))
    one (x ∷ xs) (suc i) zero s up at e =
        let this : x.v ≡ s.v = cc in
        absurd (let below = less x.v s.v (below_at x.v xs i s (sorted_head nat_cmp x.v (map (λ t. t.v) xs) up) at) in omega (arith, below, this))
    one (x ∷ xs) (suc i) (suc j) s up at e = ap suc (one xs i j s (sorted_tail nat_cmp x.v (map (λ t. t.v) xs) up) at e)

-- ---- places that are put at the end
pub places_more : (asked : Shifts) (vs before places after : List ℕ) (v : ℕ) → HasPlaces asked vs before places → HasPlaces asked (v ∷ []) places after → HasPlaces asked (vs ++ v ∷ []) before after
places_more asked vs before places after v has one i s at away =
    let last = one i s at away in
    let all = has i s at last.0 in
    (all.0, list_any-append (λ u. u == s.v) vs (v ∷ []) ∙ ap (λ b. b || is_one_of (v ∷ []) s.v) all.1 ∙ last.1)

pub no_places : (asked : Shifts) (places : List ℕ) → HasPlaces asked [] places places
no_places asked places i s at away = (away, refl)

-- ---- the place of one vertex
none_passes : (v : ℕ) (asked : Shifts) (i : ℕ) (s : ShiftOf) → find (λ t. t.v == v) asked ≡ None → slice_get asked i ≡ Some s → (s.v == v) ≡ false
none_passes v [] i s none at = cc
none_passes v (t ∷ asked) i s none at = by_test (none_passes v asked) (t.v == v) refl none i at
  where
    by_test : ((i : ℕ) (s : ShiftOf) → find (λ u. u.v == v) asked ≡ None → slice_get asked i ≡ Some s → (s.v == v) ≡ false) → (b : Bool) → (t.v == v) ≡ b → cond b (Some t) (find (λ u. u.v == v) asked) ≡ None → (i : ℕ) → slice_get (t ∷ asked) i ≡ Some s → (s.v == v) ≡ false
    by_test others true e h i at = cc
    by_test others false e h zero at = let this : t ≡ s = cc in subst (λ (u : ShiftOf). (u.v == v) ≡ false) this e
    by_test others false e h (suc i) at = others i s h at

other_way : (a b : ℕ) → (a == b) ≡ false → (b == a || false) ≡ false
other_way a b h = grind (arith, nat_tests)

pub place_none : (asked : Shifts) (places : List ℕ) (v : ℕ) → find (λ s. s.v == v) asked ≡ None → HasPlaces asked (v ∷ []) places places
place_none asked places v none i s at away = (away, other_way s.v v (none_passes v asked i s none at))

pub place_found : (asked : Shifts) (places after : List ℕ) (v p : ℕ) (own : ShiftOf) → IsStrictlySortedBy nat_cmp (map (λ s. s.v) asked) → slice_get asked p ≡ Some own → own.v ≡ v → after ≡ places ++ p ∷ [] → HasPlaces asked (v ∷ []) places after
place_found asked places after v p own up at is made i s here away = (parts.0, by_test (v == s.v) refl)
  where
    split : (a b : Bool) → (a || (b || false)) ≡ false → (a ≡ false) × (b ≡ false)
    split true b h = absurd (false≢true (sym h))
    split false true h = absurd (false≢true (sym h))
    split false false h = (refl, refl)

    parts : (is_one_of places i ≡ false) × ((p == i) ≡ false)
    parts = split (is_one_of places i) (p == i) (sym (one_of_more places p i) ∙ ap (λ l. is_one_of l i) (sym made) ∙ away)

    named : (xs : Shifts) (j : ℕ) (t : ShiftOf) → slice_get xs j ≡ Some t → slice_get (map (λ u. u.v) xs) j ≡ Some t.v
    named [] j t e = cc
    named (x ∷ xs) zero t e = let this : x ≡ t = cc in ap (λ (u : ShiftOf). Some u.v) this
    named (x ∷ xs) (suc j) t e = named xs j t e

    by_test : (b : Bool) → (v == s.v) ≡ b → (b || false) ≡ false
    by_test false e = refl
    by_test true e =
        let same : p ≡ i = (alone_first asked up i s here refl).1 p (named asked p own at ∙ ap Some (is ∙ eqb-true v s.v e)) in
        absurd (not_both (eq-eqb p i same) parts.1)
