-- A walk over live ids: the ids above the last one shrink by their first.
use Rattle.std.proofs.Common.{◌≡◌, ℕ, ◌<◌, ◌≤◌, Bool, true, false, cond, ◌&&◌, ◌||◌, ◌==◌, T, List, [], ◌∷◌, Some, None, nat_lt, slice_get, IsSome, refl, sym, ap, subst, ◌∙◌, arith}
use Rattle.std.specs.Ordering.{nat_cmp, is_lt, eq_by_cmp}
use Rattle.std.specs.Cmp.{unsigned_tied}
use Rattle.std.specs.declared.cmp.Ordering.TheVariants.{Less, Equal, Greater}
use Rattle.std.specs.List.{filter, list_any}
use Rattle.std.specs.Map.{keys_of}
use Rattle.std.specs.FinMap as map
use Rattle.std.specs.FinMap.{FinMap, entries_sorted, contains_key-keys}
use Rattle.std.specs.FinMap.Entries.{is_sorted, below_all}
use Rattle.std.proofs.lemmas.Bool.Decides.{nat_tests}
use Rattle.mesh_base.specs.Sides.{above}

pub both_of : (a b : Bool) → T (a && b) → T a × T b
both_of true b h = (tt, h)
both_of false b h = absurd h

pub less_true : (k x : ℕ) → T (is_lt (nat_cmp k x)) → nat_lt k x ≡ true
less_true k x h = elim (nat_lt k x) as (λ b. T (is_lt (cond b Less (cond (k == x) Equal Greater))) → b ≡ true) [
  | true ↦ λ h. refl
  | false ↦ λ h. elim (k == x) as (λ b. T (is_lt (cond b Equal Greater)) → false ≡ true) [ true ↦ λ h. absurd h | false ↦ λ h. absurd h ] h
] h

more : (n k x : ℕ) → n < k → nat_lt k x ≡ true → nat_lt n x ≡ true
more n k x h e = grind (arith, nat_tests)

-- all of the keys are above n, where the first that is below them all is at or above n
above_rest : {X : Type 0} (n k : ℕ) (es : List (ℕ × X)) → n ≤ k → T (below_all nat_cmp k es) → above n (keys_of es) ≡ keys_of es
above_rest n k [] h b = refl
above_rest n k (e ∷ es) h b =
    let parts = both_of _ _ b in
    let high : nat_lt k e.0 ≡ true = less_true k e.0 parts.0 in
    let test : nat_lt n e.0 ≡ true = grind (arith, nat_tests) in
    ap (λ t. cond t (e.0 ∷ above n (keys_of es)) (above n (keys_of es))) test ∙ ap (λ ks. e.0 ∷ ks) (above_rest n k es h parts.1)

-- the first that passes passes
first_passes : (p : ℕ → Bool) (xs : List ℕ) (x : ℕ) → slice_get (filter p xs) 0 ≡ Some x → p x ≡ true
first_passes p [] x h = cc
first_passes p (y ∷ xs) x h =
    elim (p y) as (λ b. p y ≡ b → slice_get (cond b (y ∷ filter p xs) (filter p xs)) 0 ≡ Some x → p x ≡ true) [
      | true ↦ λ t h. let same : y ≡ x = cc in subst (λ z. p z ≡ true) same t
      | false ↦ λ t h. first_passes p xs x h
    ] refl h

not_above : (n id k : ℕ) → nat_lt n id ≡ true → nat_lt n k ≡ false → nat_lt id k ≡ false
not_above n id k h e = grind (arith, nat_tests)

not_above_itself : (k : ℕ) → nat_lt k k ≡ false
not_above_itself k = grind (arith, nat_tests)

step_in : {X : Type 0} (n id : ℕ) (es : List (ℕ × X)) → T (is_sorted nat_cmp es) → slice_get (above n (keys_of es)) 0 ≡ Some id → above n (keys_of es) ≡ id ∷ above id (keys_of es)
step_in n id [] s h = cc
step_in n id (e ∷ es) s h =
    let parts = both_of _ _ s in
    elim (nat_lt n e.0) as (λ b. nat_lt n e.0 ≡ b → slice_get (cond b (e.0 ∷ above n (keys_of es)) (above n (keys_of es))) 0 ≡ Some id → cond b (e.0 ∷ above n (keys_of es)) (above n (keys_of es)) ≡ id ∷ cond (nat_lt id e.0) (e.0 ∷ above id (keys_of es)) (above id (keys_of es))) [
      | true ↦ λ t h.
          let same : e.0 ≡ id = cc in
          let low : n ≤ e.0 = grind (arith, nat_tests) in
          let test : nat_lt id e.0 ≡ false = subst (λ j. nat_lt j e.0 ≡ false) same (not_above_itself e.0) in
          ap (λ ks. e.0 ∷ ks) (above_rest n e.0 es low parts.0)
          ∙ ap (λ j. j ∷ keys_of es) same
          ∙ ap (λ ks. id ∷ ks) (sym (ap (λ b. cond b (e.0 ∷ above id (keys_of es)) (above id (keys_of es))) test ∙ above_rest id e.0 es (omega (arith, same)) parts.0))
      | false ↦ λ t h.
          let passes : nat_lt n id ≡ true = first_passes (λ k. nat_lt n k) (keys_of es) id h in
          step_in n id es parts.1 h
          ∙ ap (λ ks. id ∷ ks) (sym (ap (λ b. cond b (e.0 ∷ above id (keys_of es)) (above id (keys_of es))) (not_above n id e.0 passes t)))
    ] refl h

-- a step of a walk
pub above-step : {X : Type 0} (m : FinMap nat_cmp X) (n id : ℕ) → slice_get (above n (map.keys m)) 0 ≡ Some id → above n (map.keys m) ≡ id ∷ above id (map.keys m)
above-step m n id h = step_in n id (map.entries m) (entries_sorted m) h

-- its end
pub above-end : (n : ℕ) (ids : List ℕ) → slice_get (above n ids) 0 ≡ None → above n ids ≡ []
above-end n ids h = none_left (above n ids) h
  where
    none_left : (xs : List ℕ) → slice_get xs 0 ≡ None → xs ≡ []
    none_left [] h = refl
    none_left (x ∷ xs) h = cc

every_above : (ids : List ℕ) → ((q : ℕ) → list_any (λ k. q == k) ids ≡ true → 1 ≤ q) → above 0 ids ≡ ids
every_above [] h = refl
every_above (k ∷ ids) h =
    let high : 1 ≤ k = h k (grind (arith, nat_tests)) in
    let test : nat_lt 0 k ≡ true = grind (arith, nat_tests) in
    ap (λ b. cond b (k ∷ above 0 ids) (above 0 ids)) test
    ∙ ap (λ ks. k ∷ ks) (every_above ids (λ q e. h q (grind (arith, nat_tests, e))))

any_alike : (q : ℕ) (ks : List ℕ) → list_any (eq_by_cmp nat_cmp q) ks ≡ list_any (λ k. q == k) ks
any_alike q [] = refl
any_alike q (k ∷ ks) = ap (λ b. b || list_any (eq_by_cmp nat_cmp q) ks) (unsigned_tied q k) ∙ ap (λ b. (q == k) || b) (any_alike q ks)

-- a walk begins at 0, where the ids begin at 1
pub walk-start : {X : Type 0} (m : FinMap nat_cmp X) → ((q : ℕ) → IsSome (map.get m q) → 1 ≤ q) → above 0 (map.keys m) ≡ map.keys m
walk-start m h = every_above (map.keys m) (λ q e. h q (contains_key-keys m q ∙ any_alike q (map.keys m) ∙ e))
