-- Lists of asked shifts whose ids rise: a shift is put in place of another, or after all.
use Rattle.std.proofs.Common.{◌≡◌, ℕ, ◌<◌, ◌==◌, Bool, true, false, cond, List, [], ◌∷◌, ◌++◌, map, length, zero, suc, ◌-◌, Some, refl, ap, sym, ◌∙◌, subst, arith}
use Rattle.std.specs.Prelude.{slice_get, slice_set}
use Rattle.std.specs.List.{AllByRecursion}
use Rattle.std.specs.List.Sorted.{IsStrictlySortedBy}
use Rattle.std.specs.Ordering.{nat_cmp}
use Rattle.std.specs.declared.cmp.Ordering.TheVariants.{Less}
use Rattle.std.proofs.lemmas.Bool.{eq-eqb, eqb-true, false≢true}
use Rattle.std.proofs.lemmas.Bool.Decides.{nat_tests}
use Rattle.std.proofs.lemmas.Map.Keys.{sorted_head, sorted_tail}
use Rattle.mesh_base.specs.declared.ShiftOf.{ShiftOf}
use Rattle.mesh_base.specs.Shifts.{Shifts}
use Rattle.track_engine.specs.State.{asked_of}
use Rattle.track_engine.specs.Shifting.{AreBelow, IsPut}
use Rattle.track_engine.proofs.ShiftLemmas.{below_at, not_earlier}

abbrev pub ids : Shifts → List ℕ
ids asked = map (λ s. s.v) asked

abbrev pub Rises : Shifts → Type 0
Rises asked = IsStrictlySortedBy nat_cmp (ids asked)

pub none_rises : Rises []
unfolding IsStrictlySortedBy
none_rises = tt

rises_more : (t : ShiftOf) (rest : Shifts) → AllByRecursion (λ y. nat_cmp t.v y ≡ Less) (ids rest) → Rises rest → Rises (t ∷ rest)
unfolding IsStrictlySortedBy
rises_more t rest below rises = (below, rises)

unlike : (x y : ℕ) → (x == y) ≡ true → (x == y) ≡ false → ⊥
unlike x y e f = false≢true (sym f ∙ e)

-- ---- in the place of another

ids_set : (asked : Shifts) (i : ℕ) (s t : ShiftOf) → slice_get asked i ≡ Some t → t.v ≡ s.v → ids (slice_set asked i s) ≡ ids asked
ids_set [] i s t at same = cc
ids_set (x ∷ rest) zero s t at same = let is : x ≡ t = cc in ap (λ id. id ∷ ids rest) (sym same ∙ ap (λ (u : ShiftOf). u.v) (sym is))
ids_set (x ∷ rest) (suc i) s t at same = ap (λ l. x.v ∷ l) (ids_set rest i s t at same)

pub set_rises : (asked : Shifts) (i : ℕ) (s t : ShiftOf) → Rises asked → slice_get asked i ≡ Some t → t.v ≡ s.v → Rises (slice_set asked i s)
set_rises asked i s t rises at same = subst (IsStrictlySortedBy nat_cmp) (sym (ids_set asked i s t at same)) rises

pub set_is_put : (asked : Shifts) (i : ℕ) (s t : ShiftOf) → Rises asked → slice_get asked i ≡ Some t → t.v ≡ s.v → IsPut s asked (slice_set asked i s)
set_is_put [] i s t rises at same v = cc
set_is_put (x ∷ rest) zero s t rises at same v =
    let is : x ≡ t = cc in
    by_test (s.v == v) (ap (λ (id : ℕ). id == v) (ap (λ (u : ShiftOf). u.v) is ∙ same))
  where
    by_test : (b : Bool) → (x.v == v) ≡ b → cond b (Some s) (asked_of v rest) ≡ cond b (Some s) (cond (x.v == v) (Some x) (asked_of v rest))
    by_test true e = refl
    by_test false e = sym (ap (λ b. cond b (Some x) (asked_of v rest)) e)
set_is_put (x ∷ rest) (suc i) s t rises at same v =
    ap (λ o. cond (x.v == v) (Some x) o) (set_is_put rest i s t (sorted_tail nat_cmp x.v (ids rest) rises) at same v) ∙ by_test (x.v == v) refl (s.v == v) refl
  where
    before : nat_cmp x.v s.v ≡ Less
    before = subst (λ k. nat_cmp x.v k ≡ Less) same (below_at x.v rest i t (sorted_head nat_cmp x.v (ids rest) rises) at)

    by_test : (a : Bool) → (x.v == v) ≡ a → (b : Bool) → (s.v == v) ≡ b → cond a (Some x) (cond b (Some s) (asked_of v rest)) ≡ cond b (Some s) (cond a (Some x) (asked_of v rest))
    by_test true e true f = absurd (unlike x.v v e (not_earlier x.v s.v v (eqb-true s.v v f) before))
    by_test true e false f = refl
    by_test false e b f = refl

-- ---- after all

-- where the last is below, all are
all_below_last : (x : ShiftOf) (rest : Shifts) (v : ℕ) (t : ShiftOf) → Rises (x ∷ rest) → slice_get (x ∷ rest) (length rest) ≡ Some t → t.v < v → AreBelow v (x ∷ rest)
all_below_last x [] v t rises last low = let is : x ≡ t = cc in (subst (λ (u : ShiftOf). u.v < v) (sym is) low, tt)
all_below_last x (y ∷ rest) v t rises last low =
    let later = all_below_last y rest v t (sorted_tail nat_cmp x.v (ids (y ∷ rest)) rises) last low in
    (below x.v y.v v (sorted_head nat_cmp x.v (ids (y ∷ rest)) rises).0 later.0, later)
  where
    below : (a b c : ℕ) → nat_cmp a b ≡ Less → b < c → a < c
    below a b c e h = grind (arith, nat_tests)

pub all_below : (asked : Shifts) (v : ℕ) (t : ShiftOf) → Rises asked → slice_get asked (length asked - 1) ≡ Some t → t.v < v → AreBelow v asked
all_below [] v t rises last low = tt
all_below (x ∷ rest) v t rises last low =
    let place : length (x ∷ rest) - 1 ≡ length rest = omega arith in
    all_below_last x rest v t rises (ap (slice_get (x ∷ rest)) (sym place) ∙ last) low

all_less : (t : ShiftOf) (rest : Shifts) (s : ShiftOf) → AllByRecursion (λ y. nat_cmp t.v y ≡ Less) (ids rest) → t.v < s.v → AllByRecursion (λ y. nat_cmp t.v y ≡ Less) (ids (rest ++ s ∷ []))
all_less t [] s less low = (first t.v s.v low, tt)
  where
    first : (a b : ℕ) → a < b → nat_cmp a b ≡ Less
    first a b h = grind (arith, nat_tests)
all_less t (x ∷ rest) s less low = (less.0, all_less t rest s less.1 low)

pub push_rises : (asked : Shifts) (s : ShiftOf) → Rises asked → AreBelow s.v asked → Rises (asked ++ s ∷ [])
push_rises [] s rises below = rises_more s [] tt none_rises
push_rises (t ∷ rest) s rises below =
    rises_more t (rest ++ s ∷ []) (all_less t rest s (sorted_head nat_cmp t.v (ids rest) rises) below.0) (push_rises rest s (sorted_tail nat_cmp t.v (ids rest) rises) below.1)

pub push_is_put : (asked : Shifts) (s : ShiftOf) → AreBelow s.v asked → IsPut s asked (asked ++ s ∷ [])
push_is_put [] s below v = refl
push_is_put (t ∷ rest) s below v = ap (λ o. cond (t.v == v) (Some t) o) (push_is_put rest s below.1 v) ∙ by_test (t.v == v) refl (s.v == v) refl
  where
    apart : (a b c : ℕ) → a < b → (b == c) ≡ true → (a == c) ≡ true → ⊥
    apart a b c low e f = let one : b ≡ c = eqb-true b c e in let two : a ≡ c = eqb-true a c f in omega arith

    by_test : (a : Bool) → (t.v == v) ≡ a → (b : Bool) → (s.v == v) ≡ b → cond a (Some t) (cond b (Some s) (asked_of v rest)) ≡ cond b (Some s) (cond a (Some t) (asked_of v rest))
    by_test true e true f = absurd (apart t.v s.v v below.0 f e)
    by_test true e false f = refl
    by_test false e b f = refl

-- ---- each is found by its id

found_behind : (t : ShiftOf) (rest those : Shifts) → AllByRecursion (λ y. nat_cmp t.v y ≡ Less) (ids those) → AllByRecursion (λ s. asked_of s.v rest ≡ Some s) those → AllByRecursion (λ s. asked_of s.v (t ∷ rest) ≡ Some s) those
found_behind t rest [] less found = tt
found_behind t rest (s ∷ those) less found =
    (ap (λ b. cond b (Some t) (asked_of s.v rest)) (not_earlier t.v s.v s.v refl less.0) ∙ found.0, found_behind t rest those less.1 found.1)

pub each_is_found : (asked : Shifts) → Rises asked → AllByRecursion (λ s. asked_of s.v asked ≡ Some s) asked
each_is_found [] rises = tt
each_is_found (t ∷ rest) rises = (
  ap (λ b. cond b (Some t) (asked_of t.v rest)) (eq-eqb t.v t.v refl),
  found_behind t rest rest (sorted_head nat_cmp t.v (ids rest) rises) (each_is_found rest (sorted_tail nat_cmp t.v (ids rest) rises)),
)

-- what is found has the id
pub found_named : (v : ℕ) (asked : Shifts) (s : ShiftOf) → asked_of v asked ≡ Some s → s.v ≡ v
found_named v [] s e = cc
found_named v (t ∷ rest) s e = by_test (found_named v rest s) (t.v == v) refl e
  where
    by_test : (asked_of v rest ≡ Some s → s.v ≡ v) → (b : Bool) → (t.v == v) ≡ b → cond b (Some t) (asked_of v rest) ≡ Some s → s.v ≡ v
    by_test others true h e = let this : t ≡ s = cc in ap (λ (u : ShiftOf). u.v) (sym this) ∙ eqb-true t.v v h
    by_test others false h e = others e
