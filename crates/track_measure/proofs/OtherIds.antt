-- Lists of ids and their classes, where each id is another.
use Rattle.std.proofs.Common.{◌≡◌, ℕ, zero, suc, ◌<◌, ◌≤◌, ◌==◌, ◌||◌, Bool, true, false, cond, List, [], ◌∷◌, ◌++◌, length, map, slice_index, refl, sym, ap, ◌∙◌, arith, inl, inr}
use Rattle.std.specs.Prelude.{nat_lt}
use Rattle.std.specs.List.{AllByRecursion, filter, flat_map, list_any}
use Rattle.std.proofs.lemmas.Bool.{cases_Bool, cases_lt, eq-eqb, ne_eqb, ltb-true, lt-ltb, false≢true}
use Rattle.std.proofs.lemmas.List.{length-map, map-append}
use Rattle.mesh_base.proofs.ListedPairs.{all_filtered, all_weaker}
use Rattle.edit_base.specs.Classes.{Linked, is_one_of, reached, class_of, classes}
use Rattle.edit_base.proofs.Chains.{Has, each_is_one, linked_has}

-- ---- tests that answer of what is made of elements as others do of the elements

pub filter_moved : {X Y : Type 0} (p : Y → Bool) (q : X → Bool) (h : X → Y) (xs : List X) → AllByRecursion (λ x. p (h x) ≡ q x) xs → filter p (map h xs) ≡ map h (filter q xs)
filter_moved p q h [] all = refl
filter_moved {X} {Y} p q h (x ∷ xs) all = ap (λ b. cond b (h x ∷ filter p (map h xs)) (filter p (map h xs))) all.0 ∙ by_test (filter_moved p q h xs all.1) (q x)
  where
    by_test : filter p (map h xs) ≡ map h (filter q xs) → (b : Bool) → cond b (h x ∷ filter p (map h xs)) (filter p (map h xs)) ≡ map h (cond b (x ∷ filter q xs) (filter q xs))
    by_test rest true = ap (λ l. h x ∷ l) rest
    by_test rest false = rest

pub any_moved : {X Y : Type 0} (p : Y → Bool) (q : X → Bool) (h : X → Y) (xs : List X) → AllByRecursion (λ x. p (h x) ≡ q x) xs → list_any p (map h xs) ≡ list_any q xs
any_moved p q h [] all = refl
any_moved p q h (x ∷ xs) all = let rest = any_moved p q h xs all.1 in λ i. all.0 i || rest i

-- what holds of all elements holds of those that pass a test
pub all_kept : {X : Type 0} (P : X → Type 0) (test : X → Bool) (xs : List X) → AllByRecursion P xs → AllByRecursion P (filter test xs)
all_kept P test xs all = all_filtered P test xs (all_weaker P (λ x. test x ≡ true → P x) xs (λ x h passes. h) all)

pub all_both : {X : Type 0} (P Q : X → Type 0) (xs : List X) → AllByRecursion P xs → AllByRecursion Q xs → AllByRecursion (λ x. P x × Q x) xs
all_both P Q [] ps qs = tt
all_both P Q (x ∷ xs) ps qs = ((ps.0, qs.0), all_both P Q xs ps.1 qs.1)

-- ---- ids that rise where others did

module _ (Live : ℕ → Type 0) (id : ℕ → ℕ) (rises : (k l : ℕ) → Live k → Live l → k < l → id k < id l) where
  pub once : (k l : ℕ) → Live k → Live l → (id k == id l) ≡ (k == l)
  once k l live-k live-l = elim (cases_lt k l) [
    | inl lt ↦ let less = rises k l live-k live-l lt in ne_eqb _ _ (omega arith) ∙ sym (ne_eqb k l (omega arith))
    | inr ge ↦ elim (cases_lt l k) [
      | inl gt ↦ let more = rises l k live-l live-k gt in ne_eqb _ _ (omega arith) ∙ sym (ne_eqb k l (omega arith))
      | inr le ↦ let same : k ≡ l = omega arith in eq-eqb _ _ (ap id same) ∙ sym (eq-eqb k l same)
    ]
  ]

  same_order : (k l : ℕ) → Live k → Live l → nat_lt (id k) (id l) ≡ nat_lt k l
  same_order k l live-k live-l = elim (cases_lt k l) [
    | inl lt ↦ lt-ltb _ _ (rises k l live-k live-l lt) ∙ sym (lt-ltb k l lt)
    | inr ge ↦ elim (cases_lt l k) [
      | inl gt ↦ let more = rises l k live-l live-k gt in not_less (id k) (id l) (omega arith) ∙ sym (not_less k l (omega arith))
      | inr le ↦ let same : k ≡ l = omega arith in let there = ap id same in not_less (id k) (id l) (omega arith) ∙ sym (not_less k l (omega arith))
    ]
  ]
    where
      not_less : (a b : ℕ) → b ≤ a → nat_lt a b ≡ false
      not_less a b le = elim (cases_Bool (nat_lt a b)) [
        | inl yes' ↦ let lt = ltb-true a b yes' in absurd (omega arith)
        | inr no' ↦ no'
      ]

  -- pairs of ids, the smaller first
  abbrev both : ℕ × ℕ → ℕ × ℕ
  both e = (id e.0, id e.1)

  pairs_at : (u : ℕ) (vs : List ℕ) → map (λ v. (id u, v)) (map id vs) ≡ map both (map (λ v. (u, v)) vs)
  pairs_at u [] = refl
  pairs_at u (v ∷ vs) = ap (λ l. (id u, id v) ∷ l) (pairs_at u vs)

  pub pairs_moved : (us all : List ℕ) → AllByRecursion Live us → AllByRecursion Live all
      → flat_map (λ u. map (λ v. (u, v)) (filter (λ v. nat_lt u v) (map id all))) (map id us) ≡ map both (flat_map (λ u. map (λ v. (u, v)) (filter (λ v. nat_lt u v) all)) us)
  pairs_moved [] all lives live = refl
  pairs_moved (u ∷ us) all lives live =
      let here = filter_moved (λ v. nat_lt (id u) v) (λ v. nat_lt u v) id all (all_weaker Live (λ v. nat_lt (id u) (id v) ≡ nat_lt u v) all (λ v l. same_order u v lives.0 l) live) in
      let first = ap (map (λ v. (id u, v))) here ∙ pairs_at u (filter (λ v. nat_lt u v) all) in
      let rest = pairs_moved us all lives.1 live in
      (λ i. first i ++ rest i) ∙ sym (map-append both _ _)

-- ---- classes

module _ (Live : ℕ → Type 0) (id : ℕ → ℕ) (once' : (k l : ℕ) → Live k → Live l → (id k == id l) ≡ (k == l))
    (touch near : ℕ → ℕ → Bool) (alike : (k l : ℕ) → Live k → Live l → near (id k) (id l) ≡ touch k l) where
  abbrev AreLive : List ℕ → Type 0
  AreLive xs = AllByRecursion Live xs

  one_of_moved : (xs : List ℕ) (x : ℕ) → AreLive xs → Live x → is_one_of (map id xs) (id x) ≡ is_one_of xs x
  one_of_moved xs x lives live = any_moved (λ y. y == id x) (λ y. y == x) id xs (all_weaker Live (λ y. (id y == id x) ≡ (y == x)) xs (λ y l. once' y x l live) lives)

  reached_live : (n : ℕ) (all : List ℕ) (x : ℕ) → AreLive all → AreLive (reached touch all n x)
  reached_live zero all x lives = all_kept Live (λ y. y == x) all lives
  reached_live (suc n) all x lives = let old = reached touch all n x in all_kept Live (λ y. is_one_of old y || list_any (λ z. touch z y) old) all lives

  reached_moved : (n : ℕ) (all : List ℕ) (x : ℕ) → AreLive all → Live x → reached near (map id all) n (id x) ≡ map id (reached touch all n x)
  reached_moved zero all x lives live = filter_moved (λ y. y == id x) (λ y. y == x) id all (all_weaker Live (λ y. (id y == id x) ≡ (y == x)) all (λ y l. once' y x l live) lives)
  reached_moved (suc n) all x lives live =
      let old = reached touch all n x in
      let olds = reached_live n all x lives in
      let test : List ℕ → ℕ → Bool = λ l y. is_one_of l y || list_any (λ z. near z y) l in
      let test_old : ℕ → Bool = λ y. is_one_of old y || list_any (λ z. touch z y) old in
      ap (λ l. filter (test l) (map id all)) (reached_moved n all x lives live)
      ∙ filter_moved (test (map id old)) test_old id all (all_weaker Live (λ y. test (map id old) (id y) ≡ test_old y) all (λ y l.
      let one = one_of_moved old y olds l in
      let some = any_moved (λ z. near z (id y)) (λ z. touch z y) id old (all_weaker Live (λ z. near (id z) (id y) ≡ touch z y) old (λ z k. alike z y k l) olds) in
      λ i. one i || some i) lives)

  class_moved : (all : List ℕ) (x : ℕ) → AreLive all → Live x → class_of near (map id all) (id x) ≡ map id (class_of touch all x)
  class_moved all x lives live = ap (λ n. reached near (map id all) n (id x)) (length-map all id) ∙ reached_moved (length all) all x lives live

  first_moved : (ys : List ℕ) (x : ℕ) → AreLive ys → Live x → Has ys x → (slice_index (map id ys) 0 == id x) ≡ (slice_index ys 0 == x)
  first_moved [] x lives live has = absurd (false≢true has)
  first_moved (y ∷ ys) x lives live has = once' y x lives.0 live

  -- there are as many classes
  pub as_many_classes : (all : List ℕ) → AreLive all → length (classes near (map id all)) ≡ length (classes touch all)
  as_many_classes all lives =
      let least : ℕ → Bool = λ x. slice_index (class_of near (map id all) x) 0 == x in
      let least_old : ℕ → Bool = λ x. slice_index (class_of touch all x) 0 == x in
      let each = all_weaker (λ x. Live x × Has all x) (λ x. least (id x) ≡ least_old x) all (λ x h.
      ap (λ l. slice_index l 0 == id x) (class_moved all x lives h.0)
      ∙ first_moved (class_of touch all x) x (reached_live (length all) all x lives) h.0 (linked_has touch all x x h.1 Linked.itself)) (all_both Live (Has all) all lives (each_is_one all)) in
      length-map (filter least (map id all)) (λ x. class_of near (map id all) x)
      ∙ ap length (filter_moved least least_old id all each)
      ∙ length-map (filter least_old all) id
      ∙ sym (length-map (filter least_old all) (λ x. class_of touch all x))
