-- A walk along two lists of sides in order finds the sides that they do not have equally often.
use Rattle.std.proofs.Common.{◌≡◌, ℕ, zero, suc, ◌+◌, ◌-◌, ◌*◌, ◌^◌, ◌<◌, ◌≤◌, ◌==◌, ◌&&◌, ◌||◌, not, Bool, true, false, cond, List, [], ◌∷◌, ◌++◌, length, take, drop, get_or, slice_index_or, add-one, refl, sym, ap, subst, ◌∙◌, ◌⊎◌, inl, inr, ⊎_elim, arith}
use Rattle.std.specs.List.Sorted.{IsNonDecreasingBy}
use Rattle.std.specs.Ordering.{nat_cmp, is_eq, eq_by_cmp}
use Rattle.std.specs.Cmp.{unsigned_tied}
use Rattle.std.proofs.Math.Seq.{drop-cons}
use Rattle.std.proofs.lemmas.List.{drop_all, take_all, length-drop}
use Rattle.std.proofs.lemmas.List.Sums.{sum_by-cons}
use Rattle.std.proofs.lemmas.Bool.{eqb-true}
use Rattle.std.proofs.lemmas.Bool.Decides.{nat_tests}
use Rattle.mesh_base.specs.SideList.{edge_cmp, side_rank, has_side}
use Rattle.mesh_base.proofs.Tests.{tied_then, and_first, and_second}
use Rattle.mesh_shape.specs.Balance.{same_ends, times}
use Rattle.mesh_shape.specs.Balance.{IsInOrder, differs, Walks}

-- ---- sides with the same ends
pub tied_edges : (u v a b : ℕ) → is_eq (edge_cmp (u, v) (a, b)) ≡ (u == a && v == b)
tied_edges u v a b = tied_then (nat_cmp u a) (nat_cmp v b) ∙ ap (λ t. t && is_eq (nat_cmp v b)) (unsigned_tied u a) ∙ ap (λ t. (u == a) && t) (unsigned_tied v b)

turned_ends : (a b u v : ℕ) → (a == u && b == v) ≡ (u == a && v == b)
turned_ends a b u v = grind (arith, nat_tests)

-- the side is this one, or it is not
pub is_side : (s : ℕ × ℕ) (u v : ℕ) → same_ends s (u, v) ≡ eq_by_cmp edge_cmp (u, v) s
is_side s u v = turned_ends s.0 s.1 u v ∙ sym (tied_edges u v s.0 s.1)

pub same_side : (s : ℕ × ℕ) (u v : ℕ) → same_ends s (u, v) ≡ true → s ≡ (u, v)
same_side s u v h = let one = eqb-true s.0 u (and_first (s.0 == u) (s.1 == v) h) in let two = eqb-true s.1 v (and_second (s.0 == u) (s.1 == v) h) in λ i. (one i, two i)

pub has_joined : (xs ys : List (ℕ × ℕ)) (u v : ℕ) → has_side (xs ++ ys) u v ≡ (has_side xs u v || has_side ys u v)
has_joined [] ys u v = refl
has_joined (x ∷ xs) ys u v = ap (λ b. eq_by_cmp edge_cmp (u, v) x || b) (has_joined xs ys u v) ∙ either (eq_by_cmp edge_cmp (u, v) x) (has_side xs u v) (has_side ys u v)
  where
    either : (a b c : Bool) → (a || (b || c)) ≡ ((a || b) || c)
    either true b c = refl
    either false b c = refl

-- ---- how often a list has a side
pub times_more : (s : ℕ × ℕ) (ss : List (ℕ × ℕ)) (u v : ℕ) → times (s ∷ ss) u v ≡ cond {A = ℕ} (same_ends s (u, v)) 1 0 + times ss u v
times_more s ss u v = sum_by-cons (λ t. cond {A = ℕ} (same_ends t (u, v)) 1 0) s ss

-- some times, or none
pub some_times : (ss : List (ℕ × ℕ)) (u v : ℕ) → not (times ss u v == 0) ≡ has_side ss u v
some_times [] u v = refl
some_times (s ∷ ss) u v = ap (λ n. not (n == 0)) (times_more s ss u v) ∙ one_more (same_ends s (u, v)) (times ss u v) ∙ ap (λ b. same_ends s (u, v) || b) (some_times ss u v) ∙ ap (λ b. b || has_side ss u v) (is_side s u v)
  where
    one_more : (b : Bool) (n : ℕ) → not (cond {A = ℕ} b 1 0 + n == 0) ≡ (b || not (n == 0))
    one_more true n = grind (arith, nat_tests)
    one_more false n = grind (arith, nat_tests)

-- ---- lists in order
none_at : (ss : List (ℕ × ℕ)) (u v : ℕ) → ((j : ℕ) (d : ℕ × ℕ) → j < length ss → side_rank (u, v) < side_rank (slice_index_or ss j d)) → times ss u v ≡ 0
none_at [] u v h = refl
none_at (s ∷ ss) u v h =
    let head : cond {A = ℕ} (same_ends s (u, v)) 1 0 ≡ 0 = ap (λ b. cond {A = ℕ} b 1 0) (other s.0 s.1 u v (h 0 s (omega arith))) in
    let rest = none_at ss u v (λ j d inside. h (suc j) d (omega arith)) in
    omega (arith, times_more s ss u v, head, rest)
  where
    other : (a b u v : ℕ) → u * 2 ^ 32 + v < a * 2 ^ 32 + b → (a == u && b == v) ≡ false
    other a b u v h = grind (arith, nat_tests)

got_dropped : {A : Type 0} (xs : List A) (i j : ℕ) (d : A) → slice_index_or (drop i xs) j d ≡ slice_index_or xs (i + j) d
got_dropped xs zero j d = let e : 0 + j ≡ j = omega arith in ap (λ n. slice_index_or xs n d) (sym e)
got_dropped [] (suc i) j d = refl
got_dropped (x ∷ xs) (suc i) j d = let e : suc i + j ≡ suc (i + j) = omega arith in got_dropped xs i j d ∙ ap (λ n. slice_index_or (x ∷ xs) n d) (sym e)

length_dropped : {A : Type 0} (xs : List A) (i j : ℕ) → j < length (drop i xs) → i + j < length xs
length_dropped xs zero j h = omega arith
length_dropped [] (suc i) j h = absurd (omega arith)
length_dropped (x ∷ xs) (suc i) j h = let rest = length_dropped xs i j h in omega (arith, rest)

-- a side before the one at j stands not behind it
pub not_behind : (other : List (ℕ × ℕ)) (j : ℕ) (s d : ℕ × ℕ) → IsNonDecreasingBy side_rank other → j < length other → side_rank s < side_rank (get_or other j d) → times (drop j other) s.0 s.1 ≡ 0
not_behind other j s d rises h less = none_at (drop j other) s.0 s.1 (λ k e inside.
    let within = length_dropped other j k inside in
    let first : get_or other j d ≡ slice_index_or other j e = same_default other j d e h in
    let up : side_rank (slice_index_or other j e) ≤ side_rank (slice_index_or other (j + k) e) = rises_at k e within in
    let at = ap side_rank (got_dropped other j k e) in
    let here = ap side_rank first in
    omega (arith, less, up, at, here))
  where
    same_default : (xs : List (ℕ × ℕ)) (j : ℕ) (d e : ℕ × ℕ) → j < length xs → get_or xs j d ≡ slice_index_or xs j e
    same_default [] j d e h = absurd (omega arith)
    same_default (x ∷ xs) zero d e h = refl
    same_default (x ∷ xs) (suc j) d e h = same_default xs j d e (omega arith)

    rises_at : (k : ℕ) (e : ℕ × ℕ) → j + k < length other → side_rank (slice_index_or other j e) ≤ side_rank (slice_index_or other (j + k) e)
    rises_at k e within = rises j (j + k) e (omega arith) within

-- ---- a step past one of the two
past_first : (o : Bool) (s : ℕ × ℕ) (ss ts : List (ℕ × ℕ)) (u v : ℕ) → times ts s.0 s.1 ≡ 0 → ((o || same_ends s (u, v)) || differs ss ts u v) ≡ (o || differs (s ∷ ss) ts u v)
past_first o s ss ts u v none = by_test (same_ends s (u, v)) refl
  where
    absorbed : (o d : Bool) → d ≡ true → ((o || true) || true) ≡ (o || d)
    absorbed true d e = refl
    absorbed false d e = sym e

    all_true : (o b : Bool) → ((o || true) || b) ≡ ((o || true) || true)
    all_true true b = refl
    all_true false b = refl

    left : (o b : Bool) → ((o || false) || b) ≡ (o || b)
    left true b = refl
    left false b = refl

    some_one : (a b n : ℕ) → a ≡ 1 + n → b ≡ 0 → not (a == b) ≡ true
    some_one a b n e e' = grind (arith, nat_tests)

    by_test : (b : Bool) → same_ends s (u, v) ≡ b → ((o || b) || differs ss ts u v) ≡ (o || differs (s ∷ ss) ts u v)
    by_test true e =
        let is = same_side s u v e in
        let more : times (s ∷ ss) u v ≡ 1 + times ss u v = times_more s ss u v ∙ ap (λ t. cond {A = ℕ} t 1 0 + times ss u v) e in
        let gone : times ts u v ≡ 0 = subst (λ p. times ts p.0 p.1 ≡ 0) is none in
        all_true o (differs ss ts u v) ∙ absorbed o (differs (s ∷ ss) ts u v) (some_one (times (s ∷ ss) u v) (times ts u v) (times ss u v) more gone)
    by_test false e =
        let more : times (s ∷ ss) u v ≡ times ss u v = times_more s ss u v ∙ ap (λ t. cond {A = ℕ} t 1 0 + times ss u v) e ∙ omega arith in
        left o (differs ss ts u v) ∙ ap (λ n. o || not (n == times ts u v)) (sym more)

either_differs : (ss ts : List (ℕ × ℕ)) (u v : ℕ) → differs ss ts u v ≡ differs ts ss u v
either_differs ss ts u v = turned (times ss u v) (times ts u v)
  where
    turned : (a b : ℕ) → not (a == b) ≡ not (b == a)
    turned a b = grind (arith, nat_tests)

-- past both
past_both : (s t : ℕ × ℕ) (ss ts : List (ℕ × ℕ)) (u v : ℕ) → s ≡ t → differs ss ts u v ≡ differs (s ∷ ss) (t ∷ ts) u v
past_both s t ss ts u v is = both (cond {A = ℕ} (same_ends s (u, v)) 1 0) (times ss u v) (times ts u v) (times (s ∷ ss) u v) (times (t ∷ ts) u v) (times_more s ss u v) (times_more t ts u v ∙ ap (λ x. cond {A = ℕ} (same_ends x (u, v)) 1 0 + times ts u v) (sym is))
  where
    both : (k a b c d : ℕ) → c ≡ k + a → d ≡ k + b → not (a == b) ≡ not (c == d)
    both k a b c d e e' = grind (arith, nat_tests)

pub has_one : (list : List (ℕ × ℕ)) (s : ℕ × ℕ) (u v : ℕ) → has_side (list ++ s ∷ []) u v ≡ (has_side list u v || same_ends s (u, v))
has_one list s u v = has_joined list (s ∷ []) u v ∙ ap (λ b. has_side list u v || b) (last (eq_by_cmp edge_cmp (u, v) s) ∙ sym (is_side s u v))
  where
    last : (b : Bool) → (b || false) ≡ b
    last true = refl
    last false = refl

-- equal ranks are those of one side
pub one_rank : (a b c d : ℕ) → b < 2 ^ 32 → d < 2 ^ 32 → c * 2 ^ 32 + d ≤ a * 2 ^ 32 + b → a * 2 ^ 32 + b ≤ c * 2 ^ 32 + d → (a ≡ c) × (b ≡ d)
one_rank a b c d h h' low high = (omega (arith, h, h', low, high), omega (arith, h, h', low, high))

-- a list has what stands in it
has_at : (xs : List (ℕ × ℕ)) (k : ℕ) (d : ℕ × ℕ) → k < length xs → 0 < times xs (get_or xs k d).0 (get_or xs k d).1
has_at [] k d h = absurd (omega arith)
has_at (y ∷ ys) zero d h = let one : cond {A = ℕ} (same_ends y y) 1 0 ≡ 1 = ap (λ b. cond {A = ℕ} b 1 0) (itself y.0 y.1) in omega (arith, times_more y ys y.0 y.1, one)
  where
    itself : (a b : ℕ) → (a == a && b == b) ≡ true
    itself a b = grind (arith, nat_tests)
has_at (y ∷ ys) (suc k) d h = let rest = has_at ys k d (omega arith) in omega (arith, rest, times_more y ys (get_or ys k d).0 (get_or ys k d).1)

module _ (one other : List (ℕ × ℕ)) (i j : ℕ) (d e : ℕ × ℕ) (in_one : i < length one) (in_other : j < length other) (ordered : IsInOrder one) (ordered' : IsInOrder other) (old new : List (ℕ × ℕ)) where
  abbrev s : ℕ × ℕ
  s = get_or one i d

  abbrev t : ℕ × ℕ
  t = get_or other j e

  from_one : drop i one ≡ s ∷ drop (i + 1) one
  from_one = drop-cons one i d in_one ∙ ap (λ n. s ∷ drop n one) (sym (add-one i))

  from_other : drop j other ≡ t ∷ drop (j + 1) other
  from_other = drop-cons other j e in_other ∙ ap (λ n. t ∷ drop n other) (sym (add-one j))

  pub walks_one : (rank rank' : ℕ) → rank ≡ side_rank s → rank' ≡ side_rank t → rank < rank' → ((u v : ℕ) → has_side new u v ≡ (has_side old u v || same_ends s (u, v))) → Walks one other i j old new (i + 1, j)
  walks_one rank rank' is is' lower put =
      let less : side_rank s < side_rank t = omega (arith, is, is', lower) in
      let gone = not_behind other j s e ordered'.rises in_other less in
      record {
        further = omega arith;
        in_one = omega arith;
        in_other = omega arith;
        same = λ u v.
            ap (λ b. b || differs (drop (i + 1) one) (drop j other) u v) (put u v)
            ∙ past_first (has_side old u v) s (drop (i + 1) one) (drop j other) u v gone
            ∙ ap (λ l. has_side old u v || differs l (drop j other) u v) (sym from_one);
      }

  pub walks_other : (rank' rank : ℕ) → rank' ≡ side_rank t → rank ≡ side_rank s → rank' < rank → ((u v : ℕ) → has_side new u v ≡ (has_side old u v || same_ends t (u, v))) → Walks one other i j old new (i, j + 1)
  walks_other rank' rank is' is lower put =
      let less : side_rank t < side_rank s = omega (arith, is, is', lower) in
      let gone = not_behind one i t d ordered.rises in_one less in
      record {
        further = omega arith;
        in_one = omega arith;
        in_other = omega arith;
        same = λ u v.
            ap (λ b. b || differs (drop i one) (drop (j + 1) other) u v) (put u v)
            ∙ ap (λ b. (has_side old u v || same_ends t (u, v)) || b) (either_differs (drop i one) (drop (j + 1) other) u v)
            ∙ past_first (has_side old u v) t (drop (j + 1) other) (drop i one) u v gone
            ∙ ap (λ l. has_side old u v || differs l (drop i one) u v) (sym from_other)
            ∙ ap (λ b. has_side old u v || b) (either_differs (drop j other) (drop i one) u v);
      }

  pub walks_both : (r r' q' q : ℕ) → r ≡ side_rank s → r' ≡ side_rank t → q' ≡ side_rank t → q ≡ side_rank s → r' ≤ r → q ≤ q' → new ≡ old → Walks one other i j old new (i + 1, j + 1)
  walks_both r r' q' q is is' js' js lower higher put =
      let low : side_rank t ≤ side_rank s = omega (arith, is, is', lower) in
      let high : side_rank s ≤ side_rank t = omega (arith, js, js', higher) in
      let fields = one_rank s.0 s.1 t.0 t.1 (ordered.small s.0 s.1 (has_at one i d in_one)) (ordered'.small t.0 t.1 (has_at other j e in_other)) low high in
      let is : s ≡ t = (λ k. (fields.0 k, fields.1 k)) in
      record {
        further = omega arith;
        in_one = omega arith;
        in_other = omega arith;
        same = λ u v.
            ap (λ l. has_side l u v || differs (drop (i + 1) one) (drop (j + 1) other) u v) put
            ∙ ap (λ b. has_side old u v || b) (past_both s t (drop (i + 1) one) (drop (j + 1) other) u v is)
            ∙ ap (λ l. has_side old u v || differs l (t ∷ drop (j + 1) other) u v) (sym from_one)
            ∙ ap (λ l. has_side old u v || differs (drop i one) l u v) (sym from_other);
      }

-- ---- the end: one of the lists is walked through, and what is left of the other is put at the end
some_left : (ss : List (ℕ × ℕ)) (u v : ℕ) → differs ss [] u v ≡ has_side ss u v
some_left ss u v = some_times ss u v

last : (b : Bool) → (b || false) ≡ b
last true = refl
last false = refl

pub one_left : (ss ts : List (ℕ × ℕ)) (u v : ℕ) → (ss ≡ []) ⊎ (ts ≡ []) → differs ss ts u v ≡ (has_side ss u v || has_side ts u v)
one_left ss ts u v (inl none) =
    either_differs ss ts u v
    ∙ ap (λ l. differs ts l u v) none
    ∙ some_left ts u v
    ∙ ap (λ l. has_side l u v || has_side ts u v) (sym none)
one_left ss ts u v (inr none) =
    ap (λ l. differs ss l u v) none
    ∙ some_left ss u v
    ∙ sym (last (has_side ss u v))
    ∙ ap (λ l. has_side ss u v || has_side l u v) (sym none)

-- each of some sides is put at the end
pub each_more : (sides list new : List (ℕ × ℕ)) (i : ℕ) (d : ℕ × ℕ) (u v : ℕ) (all : Bool) → i < length sides → has_side new u v ≡ (has_side list u v || same_ends (get_or sides i d) (u, v))
    → (has_side list u v || has_side (drop i sides) u v) ≡ all → (has_side new u v || has_side (drop (i + 1) sides) u v) ≡ all
each_more sides list new i d u v all h put so_far =
    let s : ℕ × ℕ = get_or sides i d in
    let ss : List (ℕ × ℕ) = drop (i + 1) sides in
    ap (λ b. b || has_side ss u v) put
    ∙ grouped (has_side list u v) (same_ends s (u, v)) (has_side ss u v)
    ∙ ap (λ b. has_side list u v || (b || has_side ss u v)) (is_side s u v)
    ∙ ap (λ l. has_side list u v || has_side l u v) (sym (drop-cons sides i d h ∙ ap (λ n. s ∷ drop n sides) (sym (add-one i))))
    ∙ so_far
  where
    grouped : (a b c : Bool) → ((a || b) || c) ≡ (a || (b || c))
    grouped true b c = refl
    grouped false b c = refl

pub each_end : (sides list : List (ℕ × ℕ)) (i u v : ℕ) (all : Bool) → length sides ≤ i → (has_side list u v || has_side (drop i sides) u v) ≡ all → has_side list u v ≡ all
each_end sides list i u v all h so_far = sym (last (has_side list u v)) ∙ ap (λ l. has_side list u v || has_side l u v) (sym (drop_all i sides h)) ∙ so_far

tail_of : (xs : List (ℕ × ℕ)) (i : ℕ) → take (length xs - i) (drop i xs) ≡ drop i xs
tail_of xs i = let left = length-drop i xs in take_all (length xs - i) (drop i xs) (omega arith)

-- both tails are put at the end
pub tails_put : (one other list middle whole : List (ℕ × ℕ)) (i j : ℕ) (u v : ℕ) → has_side middle u v ≡ (has_side list u v || has_side (take (length one - i) (drop i one)) u v)
    → has_side whole u v ≡ (has_side middle u v || has_side (take (length other - j) (drop j other)) u v) → has_side whole u v ≡ ((has_side list u v || has_side (drop i one) u v) || has_side (drop j other) u v)
tails_put one other list middle whole i j u v first second =
    second ∙ ap (λ l. has_side middle u v || has_side l u v) (tail_of other j) ∙ ap (λ b. b || has_side (drop j other) u v) (first ∙ ap (λ l. has_side list u v || has_side l u v) (tail_of one i))

pub walked_through : (one other list whole : List (ℕ × ℕ)) (i j : ℕ) (all : Bool) (u v : ℕ) → (length one ≤ i) ⊎ (length other ≤ j) → has_side whole u v ≡ ((has_side list u v || has_side (drop i one) u v) || has_side (drop j other) u v)
    → (has_side list u v || differs (drop i one) (drop j other) u v) ≡ all → has_side whole u v ≡ all
walked_through one other list whole i j all u v through made so_far =
    made
    ∙ grouped (has_side list u v) (has_side (drop i one) u v) (has_side (drop j other) u v)
    ∙ ap (λ b. has_side list u v || b) (sym (one_left (drop i one) (drop j other) u v (⊎_elim (λ h. inl (drop_all i one h)) (λ h. inr (drop_all j other h)) through)))
    ∙ so_far
  where
    grouped : (a b c : Bool) → ((a || b) || c) ≡ (a || (b || c))
    grouped true b c = refl
    grouped false b c = refl
