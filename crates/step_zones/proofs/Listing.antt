-- Lists that are made vertex by vertex.
use Rattle.std.proofs.Common.{◌≡◌, ℕ, zero, suc, ◌+◌, ◌<◌, ◌≤◌, ◌==◌, ◌||◌, Bool, true, false, cond, List, [], ◌∷◌, ◌++◌, drop, get_or, length, map, Some, None, append-nil, append_assoc, refl, sym, ap, subst, ◌∙◌, arith}
use Rattle.std.specs.List.{find, filter, AllByRecursion}
use Rattle.std.proofs.lemmas.Bool.{false≢true}
use Rattle.mesh_base.specs.declared.steps.ShiftOf.{ShiftOf}
use Rattle.mesh_base.specs.Shifts.{Shifts}
use Rattle.pair_scan.proofs.Lists.{rest_at, ended}
use Rattle.step_zones.specs.Chains.{is_one_of}

-- a vertex that is named is found
pub none_named : (xs : Shifts) (v : ℕ) → find (λ s. s.v == v) xs ≡ None → is_one_of (map (λ s. s.v) xs) v ≡ true → ⊥
none_named [] v e is = false≢true is
none_named (s ∷ rest) v e is = by_test (none_named rest v) (s.v == v) refl e is
  where
    by_test : (find (λ u. u.v == v) rest ≡ None → is_one_of (map (λ u. u.v) rest) v ≡ true → ⊥) → (b : Bool) → (s.v == v) ≡ b → cond b (Some s) (find (λ u. u.v == v) rest) ≡ None → (b || is_one_of (map (λ u. u.v) rest) v) ≡ true → ⊥
    by_test later true h e is = cc
    by_test later false h e is = later e is

-- what holds of all holds of each
pub all_at : {X : Type 0} (P : X → Type 0) (xs : List X) (i : ℕ) (x : X) → AllByRecursion P xs → i < length xs → x ≡ get_or xs i x → P x
all_at P [] i x all h at = absurd (omega arith)
all_at P (y ∷ xs) zero x all h at = subst P (sym at) all.0
all_at P (y ∷ xs) (suc i) x all h at = all_at P xs i x all.1 (omega arith) at

abbrev ids_of : Shifts → List ℕ
ids_of xs = map (λ s. s.v) xs

next_ids : (xs : Shifts) (i : ℕ) (s : ShiftOf) → i < length xs → s ≡ get_or xs i s → ids_of (drop i xs) ≡ s.v ∷ ids_of (drop (i + 1) xs)
next_ids xs i s h at = ap ids_of (rest_at xs i s h) ∙ ap (λ (x : ShiftOf). x.v ∷ ids_of (drop (i + 1) xs)) (sym at)

-- ---- those that pass
pub kept_more : (test : ℕ → Bool) (xs : Shifts) (i : ℕ) (s : ShiftOf) (made after all : List ℕ) → i < length xs → s ≡ get_or xs i s → test s.v ≡ true → after ≡ made ++ s.v ∷ []
    → made ++ filter test (ids_of (drop i xs)) ≡ all → after ++ filter test (ids_of (drop (i + 1) xs)) ≡ all
kept_more test xs i s made after all h at on pushed whole =
    ap (λ l. l ++ filter test (ids_of (drop (i + 1) xs))) pushed
    ∙ append_assoc made (s.v ∷ []) (filter test (ids_of (drop (i + 1) xs)))
    ∙ sym (ap (λ b. made ++ cond b (s.v ∷ filter test (ids_of (drop (i + 1) xs))) (filter test (ids_of (drop (i + 1) xs)))) on)
    ∙ sym (ap (λ l. made ++ filter test l) (next_ids xs i s h at))
    ∙ whole

pub kept_skip : (test : ℕ → Bool) (xs : Shifts) (i : ℕ) (s : ShiftOf) (made after all : List ℕ) → i < length xs → s ≡ get_or xs i s → test s.v ≡ false → after ≡ made
    → made ++ filter test (ids_of (drop i xs)) ≡ all → after ++ filter test (ids_of (drop (i + 1) xs)) ≡ all
kept_skip test xs i s made after all h at off stays whole =
    ap (λ l. l ++ filter test (ids_of (drop (i + 1) xs))) stays
    ∙ sym (ap (λ b. made ++ cond b (s.v ∷ filter test (ids_of (drop (i + 1) xs))) (filter test (ids_of (drop (i + 1) xs)))) off)
    ∙ sym (ap (λ l. made ++ filter test l) (next_ids xs i s h at))
    ∙ whole

pub kept_all : (test : ℕ → Bool) (xs : Shifts) (i : ℕ) (made all : List ℕ) → length xs ≤ i → made ++ filter test (ids_of (drop i xs)) ≡ all → made ≡ all
kept_all test xs i made all h whole = sym (ap (λ l. made ++ filter test (ids_of l)) (ended xs i h) ∙ append-nil made) ∙ whole

-- ---- what is made of those that pass
pub made_more : {Y : Type 0} (f : ℕ → Y) (test : ℕ → Bool) (xs : Shifts) (i : ℕ) (s : ShiftOf) (y : Y) (made after all : List Y) → i < length xs → s ≡ get_or xs i s → test s.v ≡ true → y ≡ f s.v → after ≡ made ++ y ∷ []
    → made ++ map f (filter test (ids_of (drop i xs))) ≡ all → after ++ map f (filter test (ids_of (drop (i + 1) xs))) ≡ all
made_more f test xs i s y made after all h at on is pushed whole =
    ap (λ l. l ++ map f (filter test (ids_of (drop (i + 1) xs)))) pushed
    ∙ append_assoc made (y ∷ []) (map f (filter test (ids_of (drop (i + 1) xs))))
    ∙ ap (λ z. made ++ z ∷ map f (filter test (ids_of (drop (i + 1) xs)))) is
    ∙ sym (ap (λ b. made ++ map f (cond b (s.v ∷ filter test (ids_of (drop (i + 1) xs))) (filter test (ids_of (drop (i + 1) xs))))) on)
    ∙ sym (ap (λ l. made ++ map f (filter test l)) (next_ids xs i s h at))
    ∙ whole

pub made_skip : {Y : Type 0} (f : ℕ → Y) (test : ℕ → Bool) (xs : Shifts) (i : ℕ) (s : ShiftOf) (made after all : List Y) → i < length xs → s ≡ get_or xs i s → test s.v ≡ false → after ≡ made
    → made ++ map f (filter test (ids_of (drop i xs))) ≡ all → after ++ map f (filter test (ids_of (drop (i + 1) xs))) ≡ all
made_skip f test xs i s made after all h at off stays whole =
    ap (λ l. l ++ map f (filter test (ids_of (drop (i + 1) xs)))) stays
    ∙ sym (ap (λ b. made ++ map f (cond b (s.v ∷ filter test (ids_of (drop (i + 1) xs))) (filter test (ids_of (drop (i + 1) xs))))) off)
    ∙ sym (ap (λ l. made ++ map f (filter test l)) (next_ids xs i s h at))
    ∙ whole

pub made_all : {Y : Type 0} (f : ℕ → Y) (test : ℕ → Bool) (xs : Shifts) (i : ℕ) (made all : List Y) → length xs ≤ i → made ++ map f (filter test (ids_of (drop i xs))) ≡ all → made ≡ all
made_all f test xs i made all h whole = sym (ap (λ l. made ++ map f (filter test (ids_of l))) (ended xs i h) ∙ append-nil made) ∙ whole
