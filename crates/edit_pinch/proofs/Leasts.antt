-- A number of a list begins a class where no class that begins before has it.
use Rattle.std.proofs.Common.{◌≡◌, ◌⊎◌, ℕ, ◌+◌, ◌<◌, Bool, true, false, cond, not, ◌||◌, ◌==◌, List, [], ◌∷◌, ◌++◌, map, take, drop, length, get_or, slice_index, ⊎_elim, inl, inr, refl, sym, ap, subst, ◌∙◌, add-one}
use Rattle.std.proofs.lemmas.Bool.{false≢true, eqb-true, not-true}
use Rattle.std.proofs.lemmas.List.{take-append-drop, map-append, append-nil, get_or_default}
use Rattle.std.proofs.lemmas.List.Elements.{filter-append}
use Rattle.std.proofs.Math.Seq.{take-suc}
use Rattle.std.specs.List.{filter, list_any}
use Rattle.mesh_base.proofs.Listed.{or_either}
use Rattle.pair_scan.proofs.Lists.{rest_at}
use Rattle.edit_base.specs.Classes.{is_one_of, Linked, class_of}
use Rattle.edit_base.proofs.Chains.{Has, either_first, either_second, equal_itself, passed, passes, near_is, test_at, linked_has}
use Rattle.edit_pinch.proofs.FansApart.{IsSymmetric, Differ, classes_same}
use Rattle.edit_pinch.proofs.Growing.{had_first, had_second, had_either, test_of}

not_before : (before after : List ℕ) (x : ℕ) → Differ (before ++ x ∷ after) → Has before x → ⊥
not_before [] after x differ has = false≢true has
not_before (y ∷ ys) after x differ has = ⊎_elim
    (λ here. differ.0 (had_second ys (x ∷ after) y (either_first (x == y) (is_one_of after y) (subst (λ z. (x == z) ≡ true) (sym (eqb-true y x here)) (equal_itself x)))))
    (λ behind. not_before ys after x differ.1 behind)
    (or_either (y == x) (is_one_of ys x) has)

-- the first that passes is not after one that passes
first_passes : (test : ℕ → Bool) (before after : List ℕ) (x : ℕ) → test x ≡ true → Has (before ++ x ∷ []) (slice_index (filter test (before ++ x ∷ after)) 0) × (test (slice_index (filter test (before ++ x ∷ after)) 0) ≡ true)
first_passes test [] after x t = by_test (test x) t
  where
    by_test : (b : Bool) → b ≡ true → Has (x ∷ []) (slice_index (cond b (x ∷ filter test after) (filter test after)) 0) × (test (slice_index (cond b (x ∷ filter test after) (filter test after)) 0) ≡ true)
    by_test true e = (either_first (x == x) false (equal_itself x), t)
    by_test false e = absurd (false≢true e)
first_passes test (y ∷ ys) after x t = by_test (filter test (ys ++ x ∷ after)) (test y) refl (first_passes test ys after x t)
  where
    by_test : (rest : List ℕ) (b : Bool) → test y ≡ b → Has (ys ++ x ∷ []) (slice_index rest 0) × (test (slice_index rest 0) ≡ true) → Has (y ∷ (ys ++ x ∷ [])) (slice_index (cond b (y ∷ rest) rest) 0) × (test (slice_index (cond b (y ∷ rest) rest) 0) ≡ true)
    by_test rest true e h = (either_first (y == y) (is_one_of (ys ++ x ∷ []) y) (equal_itself y), e)
    by_test rest false e h = (either_second (y == slice_index rest 0) (is_one_of (ys ++ x ∷ []) (slice_index rest 0)) h.0, h.1)

-- one of the lists has it
any_mapped : (f : ℕ → List ℕ) (xs : List ℕ) (x y : ℕ) → Has xs y → Has (f y) x → list_any (λ c. is_one_of c x) (map f xs) ≡ true
any_mapped f [] x y has in_it = absurd (false≢true has)
any_mapped f (z ∷ zs) x y has in_it = ⊎_elim
    (λ here. either_first (is_one_of (f z) x) (list_any (λ c. is_one_of c x) (map f zs)) (subst (λ u. Has (f u) x) (sym (eqb-true z y here)) in_it))
    (λ behind. either_second (is_one_of (f z) x) (list_any (λ c. is_one_of c x) (map f zs)) (any_mapped f zs x y behind in_it))
    (or_either (z == y) (is_one_of zs y) has)

mapped_any : (f : ℕ → List ℕ) (xs : List ℕ) (x : ℕ) → list_any (λ c. is_one_of c x) (map f xs) ≡ true → (y : ℕ) × Has xs y × Has (f y) x
mapped_any f [] x e = absurd (false≢true e)
mapped_any f (z ∷ zs) x e = ⊎_elim
    (λ here. (z, either_first (z == z) (is_one_of zs z) (equal_itself z), here))
    (λ behind. let found = mapped_any f zs x behind in (found.0, either_second (z == found.0) (is_one_of zs found.0) found.1, found.2))
    (or_either (is_one_of (f z) x) (list_any (λ c. is_one_of c x) (map f zs)) e)

module _ (touch : ℕ → ℕ → Bool) (all : List ℕ) (both : IsSymmetric touch) (differ : Differ all) where
  abbrev of : ℕ → List ℕ
  of x = class_of touch all x

  abbrev pub is_least : ℕ → Bool
  is_least x = slice_index (of x) 0 == x

  has_itself : (x : ℕ) → Has all x → Has (of x) x
  has_itself x has = linked_has touch all x x has Linked.itself

  module _ (before after : List ℕ) (x : ℕ) (parts : before ++ x ∷ after ≡ all) where
    x_there : Has all x
    x_there = subst (λ l. Has l x) parts (had_second before (x ∷ after) x (either_first (x == x) (is_one_of after x) (equal_itself x)))

    there : (y : ℕ) → Has before y → Has all y
    there y has = subst (λ l. Has l y) parts (had_first before (x ∷ after) y has)

    abbrev head : ℕ
    head = slice_index (of x) 0

    head_there : Has (before ++ x ∷ []) head × Has (of x) head
    head_there =
        let is = near_is touch all x (length all) in
        let t = (passed (test_at touch all x (length all)) all x (subst (λ l. Has l x) is (has_itself x x_there))).1 in
        let found = first_passes (test_at touch all x (length all)) before after x t in
        let at : slice_index (filter (test_at touch all x (length all)) (before ++ x ∷ after)) 0 ≡ head = ap (λ l. slice_index (filter (test_at touch all x (length all)) l) 0) parts ∙ ap (λ l. slice_index l 0) (sym is) in
        let h = subst (λ k. Has (before ++ x ∷ []) k × (test_at touch all x (length all) k ≡ true)) at found in
        let in_all : Has all head = ⊎_elim (λ early. there head early) (λ here. subst (Has all) (eqb-true x head (only here)) x_there) (had_either before (x ∷ []) head h.0) in
        (h.0, subst (λ l. Has l head) (sym is) (passes (test_at touch all x (length all)) all head in_all h.1))
      where
        only : (x == head || false) ≡ true → (x == head) ≡ true
        only e = ⊎_elim (λ h. h) (λ h. absurd (false≢true h)) (or_either (x == head) false e)

    -- a class that begins before has it: then it is not the least of its own
    was_met : list_any (λ c. is_one_of c x) (map of (filter is_least before)) ≡ true → is_least x ≡ true → ⊥
    was_met e least =
        let found = mapped_any of (filter is_least before) x e in
        let y = found.0 in
        let at = passed is_least before y found.1 in
        let same : of x ≡ of y = classes_same touch all both x y x x_there (there y at.0) (has_itself x x_there) found.2 in
        let equal : x ≡ y = sym (eqb-true head x least) ∙ ap (λ l. slice_index l 0) same ∙ eqb-true (slice_index (of y) 0) y at.1 in
        not_before before after x (subst Differ (sym parts) differ) (subst (Has before) (sym equal) at.0)

    -- where it is not the least, the least of its class begins one before
    is_met : is_least x ≡ false → list_any (λ c. is_one_of c x) (map of (filter is_least before)) ≡ true
    is_met e =
        let found = head_there in
        ⊎_elim
        (λ early.
        let same : of head ≡ of x = classes_same touch all both head x head (there head early) x_there (has_itself head (there head early)) found.1 in
        let least : is_least head ≡ true = ap (λ l. slice_index l 0 == head) same ∙ equal_itself head in
        any_mapped of (filter is_least before) x head (passes is_least before head early least) (subst (λ l. Has l x) (sym same) (has_itself x x_there)))
        (λ here. ⊎_elim (λ k. absurd (false≢true (sym e ∙ subst (λ z. (head == z) ≡ true) (sym (eqb-true x head k)) (equal_itself head)))) (λ k. absurd (false≢true k)) (or_either (x == head) false here))
        (had_either before (x ∷ []) head found.0)

    pub met_is : list_any (λ c. is_one_of c x) (map of (filter is_least before)) ≡ not (is_least x)
    met_is = by_test (test_of (is_least x))
      where
        by_test : (is_least x ≡ true) ⊎ (is_least x ≡ false) → list_any (λ c. is_one_of c x) (map of (filter is_least before)) ≡ not (is_least x)
        by_test (inl e) = false_of _ (λ met. was_met met e) ∙ sym (ap not e)
          where
            false_of : (b : Bool) → (b ≡ true → ⊥) → b ≡ false
            false_of true h = absurd (h refl)
            false_of false h = refl
        by_test (inr e) = is_met e ∙ sym (ap not e)

  -- ---- in a loop over the list
  abbrev pub begun : ℕ → List (List ℕ)
  begun i = map of (filter is_least (take i all))

  module _ (i : ℕ) (below : i < length all) where
    abbrev here : ℕ
    here = get_or all i 0

    split_here : take i all ++ here ∷ drop (i + 1) all ≡ all
    split_here = ap (λ l. take i all ++ l) (sym (rest_at all i 0 below)) ∙ take-append-drop i all

    more_here : begun (i + 1) ≡ begun i ++ map of (filter is_least (here ∷ []))
    more_here =
        rw add-one
        (ap (λ l. map of (filter is_least l)) (take-suc all i 0 below)
        ∙ ap (map of) (filter-append is_least (take i all) (here ∷ []))
        ∙ map-append of (filter is_least (take i all)) (filter is_least (here ∷ [])))

    pub if_met : list_any (λ c. is_one_of c here) (begun i) ≡ true → begun (i + 1) ≡ begun i
    if_met met = more_here ∙ none (is_least here) (not_true_is (is_least here) (sym (met_is (take i all) (drop (i + 1) all) here split_here) ∙ met))
      where
        not_true_is : (b : Bool) → not b ≡ true → b ≡ false
        not_true_is b e = not-true b e

        none : (b : Bool) → b ≡ false → begun i ++ map of (cond b (here ∷ []) []) ≡ begun i
        none true e = absurd (false≢true (sym e))
        none false e = append-nil (begun i)

    pub if_new : list_any (λ c. is_one_of c here) (begun i) ≡ false → begun (i + 1) ≡ begun i ++ of here ∷ []
    if_new new = more_here ∙ one (is_least here) (not_false_is (is_least here) (sym (met_is (take i all) (drop (i + 1) all) here split_here) ∙ new))
      where
        not_false_is : (b : Bool) → not b ≡ false → b ≡ true
        not_false_is true e = refl
        not_false_is false e = absurd (false≢true (sym e))

        one : (b : Bool) → b ≡ true → begun i ++ map of (cond b (here ∷ []) []) ≡ begun i ++ of here ∷ []
        one true e = refl
        one false e = absurd (false≢true e)

  -- a step of the loop, by equations
  module _ (items : List ℕ) (fans : List (List ℕ)) (i x : ℕ) (is : items ≡ all) (low : i < length items) (item : x ≡ get_or items i x) (so_far : fans ≡ begun i) where
    below_all : i < length all
    below_all = subst (λ l. i < length l) is low

    x_is : x ≡ get_or all i 0
    x_is = item ∙ ap (λ l. get_or l i x) is ∙ get_or_default all i x 0 below_all

    any_is : list_any (λ c. is_one_of c (get_or all i 0)) (begun i) ≡ list_any (λ c. is_one_of c x) fans
    any_is = sym (λ j. list_any (λ c. is_one_of c (x_is j)) (so_far j))

    met_on : list_any (λ c. is_one_of c x) fans ≡ true → fans ≡ begun (i + 1)
    met_on met = so_far ∙ sym (if_met i below_all (any_is ∙ met))

    new_on : (given : List ℕ) (fan : List ℕ) (more : List (List ℕ)) → given ≡ all → fan ≡ class_of touch given x → more ≡ fans ++ fan ∷ [] → list_any (λ c. is_one_of c x) fans ≡ false → more ≡ begun (i + 1)
    new_on given fan more same fan_is more_is new =
        more_is
        ∙ (λ j. so_far j ++ fan_is j ∷ [])
        ∙ (λ j. begun i ++ class_of touch (same j) (x_is j) ∷ [])
        ∙ sym (if_new i below_all (any_is ∙ new))

    pub step_on : (given : List ℕ) (more : List (List ℕ)) → given ≡ all → more ≡ cond (list_any (λ c. is_one_of c x) fans) fans (fans ++ class_of touch given x ∷ []) → more ≡ begun (i + 1)
    step_on given more same put = by_test (list_any (λ c. is_one_of c x) fans) refl put
      where
        by_test : (t : Bool) → list_any (λ c. is_one_of c x) fans ≡ t → more ≡ cond t fans (fans ++ class_of touch given x ∷ []) → more ≡ begun (i + 1)
        by_test true is e = e ∙ met_on is
        by_test false is e = new_on given (class_of touch given x) more same refl e is
