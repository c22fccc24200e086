-- Faces with their corners in a list: filters, and the third act on the list.
use Rattle.std.proofs.Common.{◌≡◌, ⊎_elim, ℕ, zero, suc, ◌+◌, ◌<◌, ◌≤◌, Bool, true, false, cond, ◌&&◌, ◌||◌, ◌==◌, not, T, List, [], ◌∷◌, ◌++◌, length, map, slice_get, Option, Some, None, refl, sym, ap, subst, ◌∙◌, get_or, drop, take, add-one, length-drop, ◌-◌, arith}
use Rattle.std.proofs.Math.Seq.{drop-cons}
use Rattle.std.proofs.lemmas.Bool.{false≢true, eqb-true}
use Rattle.std.proofs.lemmas.Bool.Decides.{nat_tests}
use Rattle.std.specs.Option.{option_map, option_map_or}
use Rattle.std.specs.List.{filter, fold, filter_map, cons_option, find, list_any, AllByRecursion}
use Rattle.std.specs.Ordering.{nat_cmp, is_lt}
use Rattle.std.specs.declared.cmp.Ordering.TheVariants.{Greater}
use Rattle.std.specs.Cmp.{nat_cmp_is}
use Rattle.std.specs.FinMap.Entries.{put, by_order, is_sorted, below_all}
use Rattle.mesh_base.specs.declared.ids.Corners.{Corners}
use Rattle.mesh_base.proofs.WalkSteps.{both_of}
use Rattle.mesh_base.proofs.Tests.{or_first, or_second, or_either}
use Rattle.mesh_base.proofs.ListedPairs.{all_weaker}
use Rattle.mesh_base.specs.Mesh.{equal_up_to_rotation}
use Rattle.edit_base.specs.Edges.{has_equal}
use Rattle.edit_collapse.specs.Collapse.{are_opposite}
use Rattle.edit_collapse.specs.Tried.{opposite_in, two_in, without_two, one_cancelled_in, cancelled_in, has_id_in}

-- ---- filters
pub filter_same : {X : Type 0} (p q : X → Bool) (xs : List X) → AllByRecursion (λ x. p x ≡ q x) xs → filter p xs ≡ filter q xs
filter_same p q [] h = refl
filter_same p q (x ∷ xs) h = let rest = filter_same p q xs h.1 in λ i. cond (h.0 i) (x ∷ rest i) (rest i)

pub filter_twice : {X : Type 0} (p q : X → Bool) (xs : List X) → filter p (filter q xs) ≡ filter (λ x. q x && p x) xs
filter_twice p q [] = refl
filter_twice {X} p q (x ∷ xs) = by_test (filter_twice p q xs) (q x)
  where
    by_test : filter p (filter q xs) ≡ filter (λ x. q x && p x) xs → (b : Bool) →
        filter p (cond b (x ∷ filter q xs) (filter q xs)) ≡ cond (b && p x) (x ∷ filter (λ x. q x && p x) xs) (filter (λ x. q x && p x) xs)
    by_test rest true = λ i. cond (p x) (x ∷ rest i) (rest i)
    by_test rest false = rest

both : (a b : Bool) → T a → T b → T (a && b)
both true b h k = k
both false b h k = h

below_filter : (k : ℕ) (p : ℕ × Corners → Bool) (es : List (ℕ × Corners)) → T (below_all nat_cmp k es) → T (below_all nat_cmp k (filter p es))
below_filter k p [] h = tt
below_filter k p (e ∷ es) h = let parts = both_of _ _ h in by_test parts.0 (below_filter k p es parts.1) (p e)
  where
    by_test : T (is_lt (nat_cmp k e.0)) → T (below_all nat_cmp k (filter p es)) → (b : Bool) → T (below_all nat_cmp k (cond b (e ∷ filter p es) (filter p es)))
    by_test first rest true = both _ _ first rest
    by_test first rest false = rest

pub sorted_filter : (p : ℕ × Corners → Bool) (es : List (ℕ × Corners)) → T (is_sorted nat_cmp es) → T (is_sorted nat_cmp (filter p es))
sorted_filter p [] h = tt
sorted_filter p (e ∷ es) h = let parts = both_of (below_all nat_cmp e.0 es) (is_sorted nat_cmp es) h in by_test (below_filter e.0 p es parts.0) (sorted_filter p es parts.1) (p e)
  where
    by_test : T (below_all nat_cmp e.0 (filter p es)) → T (is_sorted nat_cmp (filter p es)) → (b : Bool) → T (is_sorted nat_cmp (cond b (e ∷ filter p es) (filter p es)))
    by_test first rest true = both _ _ first rest
    by_test first rest false = rest

pub fewer_filtered : {X : Type 0} (p : X → Bool) (xs : List X) → length (filter p xs) ≤ length xs
fewer_filtered p [] = omega arith
fewer_filtered {X} p (x ∷ xs) = by_test (fewer_filtered p xs) (p x)
  where
    by_test : length (filter p xs) ≤ length xs → (b : Bool) → length (cond b (x ∷ filter p xs) (filter p xs)) ≤ suc (length xs)
    by_test rest true = omega arith
    by_test rest false = omega arith

-- an entry with the greatest key comes last
pub put_last : (k : ℕ) (c : Corners) (es : List (ℕ × Corners)) → AllByRecursion (λ (e : ℕ × Corners). e.0 < k) es → put nat_cmp k c es ≡ es ++ (k, c) ∷ []
put_last k c [] h = refl
put_last k c (e ∷ es) h =
    ap (λ o. by_order o ((k, c) ∷ e ∷ es) ((e.0, c) ∷ es) (e ∷ put nat_cmp k c es)) (sym (nat_cmp_is k e.0 Greater h.0))
    ∙ ap (λ xs. e ∷ xs) (put_last k c es h.1)

-- ---- ids
same_id : (k : ℕ) → (k == k) ≡ true
same_id k = grind (arith, nat_tests)

pub each_has_id : (es : List (ℕ × Corners)) → AllByRecursion (λ (e : ℕ × Corners). has_id_in es e.0 ≡ true) es
each_has_id [] = tt
each_has_id (e ∷ es) = (
  or_first (e.0 == e.0) (has_id_in es e.0) (same_id e.0),
  all_weaker (λ (x : ℕ × Corners). has_id_in es x.0 ≡ true) (λ (x : ℕ × Corners). has_id_in (e ∷ es) x.0 ≡ true) es (λ x h. or_second (e.0 == x.0) (has_id_in es x.0) h) (each_has_id es),
)

pub id_found : (P : ℕ × Corners → Type 0) (es : List (ℕ × Corners)) (k : ℕ) → AllByRecursion P es → has_id_in es k ≡ true → (x : ℕ × Corners) × P x × (x.0 ≡ k)
id_found P [] k h e = absurd (false≢true e)
id_found P (x ∷ es) k h e = ⊎_elim (λ here. (x, h.0, eqb-true x.0 k here)) (λ rest. id_found P es k h.1 rest) (or_either (x.0 == k) (has_id_in es k) e)

-- ---- the third act on a list
pub find_filtered : (test p : ℕ × Corners → Bool) (es : List (ℕ × Corners)) → AllByRecursion (λ (e : ℕ × Corners). test e ≡ true → p e ≡ true) es → find test (filter p es) ≡ find test es
find_filtered test p [] h = refl
find_filtered test p (e ∷ es) h = by_tests (find_filtered test p es h.1) (p e) (test e) refl refl
  where
    by_tests : find test (filter p es) ≡ find test es → (b t : Bool) → p e ≡ b → test e ≡ t → find test (cond b (e ∷ filter p es) (filter p es)) ≡ cond t (Some e) (find test es)
    by_tests rest true true pe te = ap (λ u. cond u (Some e) (find test (filter p es))) te
    by_tests rest true false pe te = ap (λ u. cond u (Some e) (find test (filter p es))) te ∙ rest
    by_tests rest false true pe te = absurd (false≢true (sym pe ∙ h.0 te))
    by_tests rest false false pe te = rest

pub filter_map_same : {X Y : Type 0} (f g : X → Option Y) (xs : List X) → AllByRecursion (λ x. f x ≡ g x) xs → filter_map f xs ≡ filter_map g xs
filter_map_same f g [] h = refl
filter_map_same f g (x ∷ xs) h = let rest = filter_map_same f g xs h.1 in λ i. cons_option (h.0 i) (rest i)

first_mapped : {X Y : Type 0} (P : X → Type 0) (make : X → Option Y) (xs : List X) (y : Y) → AllByRecursion P xs → slice_get (filter_map make xs) 0 ≡ Some y → (x : X) × P x × (make x ≡ Some y)
first_mapped P make [] y h e = cc
first_mapped {X} {Y} P make (x ∷ xs) y h e = by_made (first_mapped P make xs y h.1) (make x) refl e
  where
    by_made : (slice_get (filter_map make xs) 0 ≡ Some y → (x : X) × P x × (make x ≡ Some y)) → (o : Option Y) → make x ≡ o →
        slice_get (cons_option o (filter_map make xs)) 0 ≡ Some y → (x : X) × P x × (make x ≡ Some y)
    by_made rest None m e = rest e
    by_made rest (Some z) m e = let same : Some z ≡ Some y = cc in (x, h.0, m ∙ same)

first_found : (P : ℕ × Corners → Type 0) (test : ℕ × Corners → Bool) (es : List (ℕ × Corners)) (x : ℕ × Corners) → AllByRecursion P es → find test es ≡ Some x → P x × (test x ≡ true)
first_found P test [] x h e = cc
first_found P test (y ∷ es) x h e = by_test (first_found P test es x h.1) (test y) refl e
  where
    by_test : (find test es ≡ Some x → P x × (test x ≡ true)) → (t : Bool) → test y ≡ t → cond t (Some y) (find test es) ≡ Some x → P x × (test x ≡ true)
    by_test rest true t e = let same : y ≡ x = cc in (subst P same h.0, ap test (sym same) ∙ t)
    by_test rest false t e = rest e

parts_of : (k f g : ℕ) (o : Option ℕ) → option_map {U = ℕ × ℕ} (λ opposite. (k, opposite)) o ≡ Some (f, g) → (k ≡ f) × (o ≡ Some g)
parts_of k f g (Some opposite) e =
    let kept : ℕ × ℕ = (k, opposite) in
    let given : ℕ × ℕ = (f, g) in
    let same : kept ≡ given = cc in
    (ap (λ (t : ℕ × ℕ). t.0) same, ap (λ (t : ℕ × ℕ). Some t.1) same)
parts_of k f g None e = absurd cc

name_of : (g : ℕ) (o : Option (ℕ × Corners)) → option_map (λ (e : ℕ × Corners). e.0) o ≡ Some g → (x : ℕ × Corners) × (o ≡ Some x) × (x.0 ≡ g)
name_of g (Some x) e = let same : x.0 ≡ g = cc in (x, refl, same)
name_of g None e = absurd cc

-- the two that cancel are of the list
pub record AreTwo (P : ℕ × Corners → Type 0) (f g : ℕ) : Type 0 where
  pub first : ℕ × Corners
  pub second : ℕ × Corners
  pub first_holds : P first
  pub second_holds : P second
  pub first_is : first.0 ≡ f
  pub second_is : second.0 ≡ g

pub two_found : (P : ℕ × Corners → Type 0) (es : List (ℕ × Corners)) (f g : ℕ) → AllByRecursion P es → two_in es ≡ Some (f, g) → AreTwo P f g
two_found P es f g h e =
    let made = first_mapped P (λ (x : ℕ × Corners). option_map {U = ℕ × ℕ} (λ opposite. (x.0, opposite)) (opposite_in es x.1)) es (f, g) h e in
    let parts = parts_of (made.0).0 f g (opposite_in es (made.0).1) made.2 in
    let other = name_of g (find (λ (x : ℕ × Corners). are_opposite (made.0).1 x.1) es) parts.1 in
    let found = first_found P (λ (x : ℕ × Corners). are_opposite (made.0).1 x.1) es other.0 h other.1 in
    record { first = made.0; second = other.0; first_holds = made.1; second_holds = found.0; first_is = parts.0; second_is = other.2 }

-- each time there are fewer
one_fewer : (f g : ℕ) (es : List (ℕ × Corners)) → has_id_in es f ≡ true → length (without_two f g es) + 1 ≤ length es
one_fewer f g [] h = absurd (false≢true h)
one_fewer f g (e ∷ es) h = by_test (one_fewer f g es) (e.0 == f) (not (e.0 == g)) h
  where
    by_test : (has_id_in es f ≡ true → length (without_two f g es) + 1 ≤ length es) → (t u : Bool) → (t || has_id_in es f) ≡ true → length (cond (not t && u) (e ∷ without_two f g es) (without_two f g es)) + 1 ≤ suc (length es)
    by_test rest true u h = let few = fewer_filtered (λ (x : ℕ × Corners). not (x.0 == f) && not (x.0 == g)) es in omega (arith, few)
    by_test rest false true h = let few = rest h in omega (arith, few)
    by_test rest false false h = let few = rest h in omega (arith, few)

-- where none has an opposite, nothing more is done
pub still : (n : ℕ) (es : List (ℕ × Corners)) → two_in es ≡ None → cancelled_in n es ≡ es
still zero es none = refl
still (suc n) es none = ap (cancelled_in n) (ap (λ o. option_map_or (λ (two : ℕ × ℕ). without_two two.0 two.1 es) o es) none) ∙ still n es none

pub cancelled_enough : (j k : ℕ) (es : List (ℕ × Corners)) → length es ≤ j → length es ≤ k → cancelled_in j es ≡ cancelled_in k es
cancelled_enough zero k [] h h' = sym (still k [] refl)
cancelled_enough zero k (e ∷ es) h h' = absurd (omega arith)
cancelled_enough (suc j) zero [] h h' = still (suc j) [] refl
cancelled_enough (suc j) zero (e ∷ es) h h' = absurd (omega arith)
cancelled_enough (suc j) (suc k) [] h h' = still (suc j) [] refl ∙ sym (still (suc k) [] refl)
cancelled_enough (suc j) (suc k) (x ∷ xs) h h' = by_two (λ es h h'. cancelled_enough j k es h h') (two_in (x ∷ xs)) refl
  where
    by_two : ((es : List (ℕ × Corners)) → length es ≤ j → length es ≤ k → cancelled_in j es ≡ cancelled_in k es) → (o : Option (ℕ × ℕ)) → two_in (x ∷ xs) ≡ o → cancelled_in (suc j) (x ∷ xs) ≡ cancelled_in (suc k) (x ∷ xs)
    by_two rest None e = still (suc j) (x ∷ xs) e ∙ sym (still (suc k) (x ∷ xs) e)
    by_two rest (Some two) e =
        let found = two_found (λ (y : ℕ × Corners). has_id_in (x ∷ xs) y.0 ≡ true) (x ∷ xs) two.0 two.1 (each_has_id (x ∷ xs)) e in
        let less = one_fewer two.0 two.1 (x ∷ xs) (subst (λ k. has_id_in (x ∷ xs) k ≡ true) found.first_is found.first_holds) in
        let once : one_cancelled_in (x ∷ xs) ≡ without_two two.0 two.1 (x ∷ xs) = ap (λ o. option_map_or (λ (t : ℕ × ℕ). without_two t.0 t.1 (x ∷ xs)) o (x ∷ xs)) e in
        ap (cancelled_in j) once ∙ rest (without_two two.0 two.1 (x ∷ xs)) (omega (arith, less, h)) (omega (arith, less, h')) ∙ sym (ap (cancelled_in k) once)

-- ---- walks over a list
pub rest_at : {X : Type 0} (xs : List X) (i : ℕ) (d : X) → i < length xs → drop i xs ≡ get_or xs i d ∷ drop (i + 1) xs
rest_at xs i d h = rw add-one (drop-cons xs i d h)

pub ended : {X : Type 0} (xs : List X) (i : ℕ) → length xs ≤ i → drop i xs ≡ []
ended [] zero h = refl
ended [] (suc i) h = refl
ended (x ∷ xs) zero h = absurd (omega arith)
ended (x ∷ xs) (suc i) h = ended xs i (omega arith)

pub nothing_more : {X : Type 0} (xs : List X) → xs ++ [] ≡ xs
nothing_more [] = refl
nothing_more (x ∷ xs) = ap (λ ys. x ∷ ys) (nothing_more xs)

-- ---- faces that are equal to a later one
taken_all : {X : Type 0} (xs : List X) (n : ℕ) → length xs ≤ n → take n xs ≡ xs
taken_all [] zero h = refl
taken_all [] (suc n) h = refl
taken_all (x ∷ xs) zero h = absurd (omega arith)
taken_all (x ∷ xs) (suc n) h = ap (λ ys. x ∷ ys) (taken_all xs n (omega arith))

-- the rest of a list, as a slice of it
pub rest_slice : {X : Type 0} (xs : List X) (k : ℕ) → take (length xs - k) (drop k xs) ≡ drop k xs
rest_slice xs k = taken_all (drop k xs) (length xs - k) (let e = length-drop k xs in omega (arith, e))

any_mapped : (c : Corners) (es : List (ℕ × Corners)) → list_any (λ d. equal_up_to_rotation c d) (map (λ e. e.1) es) ≡ list_any (λ (e : ℕ × Corners). equal_up_to_rotation c e.1) es
any_mapped c [] = refl
any_mapped c (e ∷ es) = ap (λ t. equal_up_to_rotation c e.1 || t) (any_mapped c es)

pub repeats_at : (es : List (ℕ × Corners)) (i : ℕ) (x : ℕ × Corners) → i < length es → x ≡ get_or es i x →
    has_equal (map (λ e. e.1) (drop i es)) ≡ (list_any (λ (e : ℕ × Corners). equal_up_to_rotation x.1 e.1) (drop (i + 1) es) || has_equal (map (λ e. e.1) (drop (i + 1) es)))
repeats_at es i x more is =
    ap (λ (xs : List (ℕ × Corners)). has_equal (map (λ e. e.1) xs)) (rest_at es i x more ∙ ap (λ (y : ℕ × Corners). y ∷ drop (i + 1) es) (sym is))
    ∙ ap (λ t. t || has_equal (map (λ e. e.1) (drop (i + 1) es))) (any_mapped x.1 (drop (i + 1) es))

-- ---- a walk on which some are skipped
pub next_unless : {M : Type 0} (step : M → ℕ → M) (skip : ℕ → Bool) (xs : List ℕ) (i x : ℕ) (m n : M) → i < length xs → x ≡ get_or xs i x → n ≡ cond (skip x) m (step m x) →
    fold step n (filter (λ y. not (skip y)) (drop (i + 1) xs)) ≡ fold step m (filter (λ y. not (skip y)) (drop i xs))
next_unless step skip xs i x m n below is made =
    ap (λ k. fold step k (filter (λ y. not (skip y)) (drop (i + 1) xs))) made
    ∙ by_test (skip x)
    ∙ sym (ap (λ l. fold step m (filter (λ y. not (skip y)) l)) (rest_at xs i x below ∙ ap (λ k. k ∷ drop (i + 1) xs) (sym is)))
  where
    by_test : (t : Bool) → fold step (cond t m (step m x)) (filter (λ y. not (skip y)) (drop (i + 1) xs))
        ≡ fold step m (cond (not t) (x ∷ filter (λ y. not (skip y)) (drop (i + 1) xs)) (filter (λ y. not (skip y)) (drop (i + 1) xs)))
    by_test true = refl
    by_test false = refl
