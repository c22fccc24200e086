-- A class grows by those that touch one of its members, until all its members are gone through.
use Rattle.std.proofs.Common.{◌≡◌, ◌⊎◌, ℕ, zero, suc, ◌+◌, ◌-◌, ◌<◌, ◌≤◌, Bool, true, false, cond, not, ◌==◌, List, [], ◌∷◌, ◌++◌, length, drop, map, get_or, append_assoc, ⊎_elim, inl, inr, refl, sym, ap, subst, ◌∙◌, below_more, arith}
use Rattle.std.proofs.lemmas.Bool.{false≢true, eqb-true, not-true}
use Rattle.std.proofs.lemmas.List.{get_or_append_left, length-append}
use Rattle.std.proofs.lemmas.List.Filters.{length-filter_both}
use Rattle.std.proofs.lemmas.List.Folds.{list_any-append}
use Rattle.std.specs.Prelude.{if◌then◌else◌}
use Rattle.std.specs.List.{filter, fold}
use Rattle.pair_scan.proofs.Lists.{rest_at}
use Rattle.mesh_base.proofs.Tests.{or_either, both_ways}
use Rattle.edit_base.specs.Classes.{is_one_of, Linked, class_of}
use Rattle.edit_base.proofs.Chains.{Has, has_contained, contains_had, either_first, either_second, equal_itself, passed, passes, near_is, test_at, is_linked, linked_has}
use Rattle.edit_pinch.proofs.FansApart.{filters_same}

-- ---- numbers of a list
pub had_first : (xs ys : List ℕ) (x : ℕ) → Has xs x → Has (xs ++ ys) x
had_first xs ys x h = list_any-append (λ y. y == x) xs ys ∙ either_first (is_one_of xs x) (is_one_of ys x) h

pub had_second : (xs ys : List ℕ) (x : ℕ) → Has ys x → Has (xs ++ ys) x
had_second xs ys x h = list_any-append (λ y. y == x) xs ys ∙ either_second (is_one_of xs x) (is_one_of ys x) h

pub had_either : (xs ys : List ℕ) (x : ℕ) → Has (xs ++ ys) x → Has xs x ⊎ Has ys x
had_either xs ys x h = or_either (is_one_of xs x) (is_one_of ys x) (sym (list_any-append (λ y. y == x) xs ys) ∙ h)

-- where it stands
pub place_of : (xs : List ℕ) (x : ℕ) → Has xs x → (k : ℕ) × (k < length xs) × (get_or xs k 0 ≡ x)
place_of [] x h = absurd (false≢true h)
place_of (y ∷ ys) x h = ⊎_elim
    (λ here. (0, (omega arith), eqb-true y x here))
    (λ behind. let found = place_of ys x behind in let low = found.1 in (suc found.0, omega (arith, low), found.2))
    (or_either (y == x) (is_one_of ys x) h)

pub test_of : (b : Bool) → (b ≡ true) ⊎ (b ≡ false)
test_of true = inl refl
test_of false = inr refl

pub not_false : (b : Bool) → b ≡ false → not b ≡ true
not_false b e = ap not e

-- ---- what is made of those of a list that pass, one after another
one_made : {X Y : Type 0} (p : X → Bool) (make : X → Y) (made : List Y) (x : X) (ys : List X) → (if p x then made ++ make x ∷ [] else made) ++ map make (filter p ys) ≡ made ++ map make (filter p (x ∷ ys))
one_made p make made x ys = elim (p x) as (λ b. (if b then made ++ make x ∷ [] else made) ++ map make (filter p ys) ≡ made ++ map make (cond b (x ∷ filter p ys) (filter p ys))) [
  | true ↦ append_assoc made (make x ∷ []) (map make (filter p ys))
  | false ↦ refl
]

pub next_made : {X Y : Type 0} (p : X → Bool) (make : X → Y) (xs : List X) (i : ℕ) (x : X) (b : Bool) (made more : List Y) → i < length xs → x ≡ get_or xs i x → b ≡ p x →
    more ≡ (if b then made ++ make x ∷ [] else made) → more ++ map make (filter p (drop (i + 1) xs)) ≡ made ++ map make (filter p (drop i xs))
next_made p make xs i x b made more below is passes put =
    ap (λ l. l ++ map make (filter p (drop (i + 1) xs))) (put ∙ ap (λ t. if t then made ++ make x ∷ [] else made) passes)
    ∙ one_made p make made x (drop (i + 1) xs)
    ∙ sym (ap (λ l. made ++ map make (filter p l)) (rest_at xs i x below ∙ ap (λ k. k ∷ drop (i + 1) xs) (sym is)))

-- the same of themselves
one_kept : {X : Type 0} (p : X → Bool) (kept : List X) (x : X) (ys : List X) → (if p x then kept ++ x ∷ [] else kept) ++ filter p ys ≡ kept ++ filter p (x ∷ ys)
one_kept p kept x ys = elim (p x) as (λ b. (if b then kept ++ x ∷ [] else kept) ++ filter p ys ≡ kept ++ cond b (x ∷ filter p ys) (filter p ys)) [
  | true ↦ append_assoc kept (x ∷ []) (filter p ys)
  | false ↦ refl
]

pub next_kept : {X : Type 0} (p : X → Bool) (xs : List X) (i : ℕ) (x : X) (b : Bool) (kept more : List X) → i < length xs → x ≡ get_or xs i x → b ≡ p x →
    more ≡ (if b then kept ++ x ∷ [] else kept) → more ++ filter p (drop (i + 1) xs) ≡ kept ++ filter p (drop i xs)
next_kept p xs i x b kept more below is passes put =
    ap (λ l. l ++ filter p (drop (i + 1) xs)) (put ∙ ap (λ t. if t then kept ++ x ∷ [] else kept) passes)
    ∙ one_kept p kept x (drop (i + 1) xs)
    ∙ sym (ap (λ l. kept ++ filter p l) (rest_at xs i x below ∙ ap (λ k. k ∷ drop (i + 1) xs) (sym is)))

-- a walk goes on with the next
pub next_folded : {A : Type 0} (step : A → ℕ → A) (xs : List ℕ) (i x : ℕ) (made more : A) → i < length xs → x ≡ get_or xs i x → more ≡ step made x → fold step more (drop (i + 1) xs) ≡ fold step made (drop i xs)
next_folded step xs i x made more below is put =
    ap (λ a. fold step a (drop (i + 1) xs)) put
    ∙ sym (ap (fold step made) (rest_at xs i x below ∙ ap (λ k. k ∷ drop (i + 1) xs) (sym is)))

pub turned : {A : Type 0} (b : Bool) (x y : A) → (if b then x else y) ≡ (if not b then y else x)
turned true x y = refl
turned false x y = refl

-- ---- growing
module _ (touch : ℕ → ℕ → Bool) (all : List ℕ) (x : ℕ) where
  -- a class so far, of which those before i are gone through, and the numbers that are left
  pub record IsGrown (class left : List ℕ) (i : ℕ) : Type 0 where
    pub first : Has class x
    pub linked : (y : ℕ) → Has class y → Has all y × Linked touch all x y
    pub within : (y : ℕ) → Has left y → Has all y
    pub covers : (y : ℕ) → Has all y → Has class y ⊎ Has left y
    pub apart : (k : ℕ) → k < i → (y : ℕ) → Has left y → touch (get_or class k 0) y ≡ false

  pub at_first : Has all x → IsGrown (x ∷ []) (filter (λ y. not (y == x)) all) 0
  at_first has = record {
    first = either_first (x == x) false (equal_itself x);
    linked = λ y h. ⊎_elim (λ e. subst (λ z. Has all z × Linked touch all x z) (eqb-true x y e) (has, Linked.itself)) (λ e. absurd (false≢true e)) (or_either (x == y) false h);
    within = λ y h. (passed (λ y. not (y == x)) all y h).0;
    covers = λ y h. ⊎_elim
        (λ e. inl (either_first (x == y) false (subst (λ z. (x == z) ≡ true) (sym (eqb-true y x e)) (equal_itself x))))
        (λ e. inr (passes (λ y. not (y == x)) all y h (not_false (y == x) e)))
        (test_of (y == x));
    apart = λ k below y h. absurd (omega arith);
  }

  module _ (class left : List ℕ) (i : ℕ) (h : IsGrown class left i) where
    abbrev near : ℕ
    near = get_or class i 0

    abbrev more : List ℕ
    more = filter (λ y. touch near y) left

    abbrev rest : List ℕ
    rest = filter (λ y. not (touch near y)) left

    has_near : (xs : List ℕ) (j : ℕ) → j < length xs → Has xs (get_or xs j 0)
    has_near [] j below = absurd (omega arith)
    has_near (y ∷ ys) zero below = either_first (y == y) (is_one_of ys y) (equal_itself y)
    has_near (y ∷ ys) (suc j) below = either_second (y == get_or ys j 0) (is_one_of ys (get_or ys j 0)) (has_near ys j (omega arith))

    pub one_more : i < length class → IsGrown (class ++ more) rest (i + 1)
    one_more below = record {
      first = had_first class more x h.first;
      linked = λ y has. ⊎_elim (λ old. h.linked y old)
          (λ new.
          let p = passed (λ y. touch near y) left y new in
          (h.within y p.0, Linked.further (h.linked near (has_near class i below)).1 (contains_had all y (h.within y p.0)) p.1))
          (had_either class more y has);
      within = λ y has. h.within y (passed (λ y. not (touch near y)) left y has).0;
      covers = λ y has. ⊎_elim (λ old. inl (had_first class more y old))
          (λ there. ⊎_elim
          (λ e. inl (had_second class more y (passes (λ y. touch near y) left y there e)))
          (λ e. inr (passes (λ y. not (touch near y)) left y there (not_false (touch near y) e)))
          (test_of (touch near y)))
          (h.covers y has);
      apart = below_more (λ k. (y : ℕ) → Has rest y → touch (get_or (class ++ more) k 0) y ≡ false) i
          (λ k low y has. subst (λ z. touch z y ≡ false) (sym (get_or_append_left class more 0 k (omega (arith, low, below)))) (h.apart k low y (passed (λ y. not (touch near y)) left y has).0))
          (λ y has. subst (λ z. touch z y ≡ false) (sym (get_or_append_left class more 0 i below)) (not-true (touch near y) (passed (λ y. not (touch near y)) left y has).1));
    }

    -- the same by equations, as a step of a loop has them
    module _ (member : ℕ) (given longer others : List ℕ) (is : member ≡ near) (same : given ≡ left) (joined : longer ≡ class ++ filter (λ y. touch member y) given) (kept : others ≡ filter (λ y. not (touch member y)) given) (below : i < length class) where
      is_longer : longer ≡ class ++ more
      is_longer = joined ∙ (λ j. class ++ filter (λ y. touch (is j) y) (same j))

      is_rest : others ≡ rest
      is_rest = kept ∙ (λ j. filter (λ y. not (touch (is j) y)) (same j))

      pub grown_on : IsGrown longer others (i + 1)
      grown_on = subst (λ l. IsGrown l others (i + 1)) (sym is_longer) (subst (λ l. IsGrown (class ++ more) l (i + 1)) (sym is_rest) (one_more below))

      pub fewer_left : length longer + length others - (i + 1) < length class + length left - i
      fewer_left =
          let one = ap length is_longer ∙ length-append class more in
          let two = ap length is_rest in
          let both = length-filter_both (λ y. touch near y) (λ y. not (touch near y)) (λ y. refl) left in
          omega (arith, one, two, both, below)

    -- all are gone through
    closed : length class ≤ i → (y : ℕ) → Linked touch all x y → Has class y
    closed end _ Linked.itself = h.first
    closed end _ (Linked.further {y = z} {z = y} l there step) =
        let old = closed end z l in
        let at = place_of class z old in
        let low = at.1 in
        ⊎_elim (λ has. has)
        (λ out. absurd (false≢true (sym (subst (λ u. touch u y ≡ false) at.2 (h.apart at.0 (omega (arith, low, end)) y out)) ∙ step)))
        (h.covers y (has_contained all y there))

    -- where none is left, each is a member
    pub none_left : left ≡ [] → (y : ℕ) → Has all y → Has class y
    none_left none y has = ⊎_elim (λ it. it) (λ out. absurd (false≢true (subst (λ l. Has l y) none out))) (h.covers y has)

    pub is_class : length class ≤ i → (y : ℕ) → is_one_of class y ≡ is_one_of (class_of touch all x) y
    is_class end y = both_ways (is_one_of class y) (is_one_of (class_of touch all x) y)
        (λ has. linked_has touch all x y (h.linked x h.first).0 (h.linked y has).1)
        (λ has. closed end y (is_linked touch all x (length all) y has).1)

  -- the members in the order of the list
  pub in_order : (members : List ℕ) → ((y : ℕ) → is_one_of members y ≡ is_one_of (class_of touch all x) y) → filter (is_one_of members) all ≡ class_of touch all x
  in_order members same =
      let is = near_is touch all x (length all) in
      filters_same (is_one_of members) (test_at touch all x (length all)) all
      (λ u has. subst (λ l. Has l u) is (sym (same u) ∙ (passed (is_one_of members) all u has).1))
      (λ u has. passes (is_one_of members) all u (passed (test_at touch all x (length all)) all u has).0 (same u ∙ subst (λ l. Has l u) (sym is) has))
      ∙ sym is
