-- Lists of ids that rise, after changes.
use Rattle.std.proofs.Common.{◌≡◌, ℕ, zero, suc, ◌+◌, ◌-◌, ◌<◌, ◌≤◌, ◌==◌, ◌≢◌, Bool, true, false, cond, T as IsT, List, [], ◌∷◌, Option, Some, None, Ok, Err, is_some, length, map, drop, set, get_or, slice_get, nat_lt, refl, sym, ap, subst, ◌∙◌, add-one, arith, ◌&&◌}
use Rattle.std.proofs.lemmas.Bool.Decides.{nat_tests}
use Rattle.std.proofs.lemmas.Option.{slice_get_within, slice_get_read, slice_get_past}
use Rattle.std.specs.List.{insert}
use Rattle.std.specs.Ordering.{nat_cmp, eq_by_cmp, is_lt}
use Rattle.std.specs.declared.cmp.Ordering.TheVariants.{Less, Equal, Greater}
use Rattle.std.specs.Cmp.{nat_cmp_total, unsigned_tied}
use Rattle.std.specs.Map.{keys_of}
use Rattle.std.specs.FinMap as finite
use Rattle.std.specs.FinMap.{FinMap, nat_cmp-IsAntisymmetric, same_map, get-from_entries, get-insert, get-remove, get-entries, len-entries, len-insert, len-remove}
use Rattle.std.specs.FinMap.Entries.{find, is_sorted, below_all}
use Rattle.mesh_base.specs.Sides.{above}
use Rattle.mesh_base.proofs.Ordered.{entries-of_sorted}
use Rattle.id_table.specs.declared.rows.Item.{Item}
use Rattle.id_table.specs.Stones.{held_of, RiseFrom, IsLower, AreBelow, AreOver, IsFound, find_id}

both_true : (a b : Bool) → IsT a → IsT b → IsT (a && b)
both_true true b p q = q
both_true false b p q = p

module _ {T : Type 0} where
  rise_first : (low : ℕ) (xs : List (Item T)) (i : ℕ) (e : Item T) → RiseFrom low xs → slice_get xs i ≡ Some e → low ≤ e.id
  rise_first low [] i e r at = cc
  rise_first low (x ∷ xs) zero e r at = let same : x ≡ e = cc in subst (λ y. low ≤ y.id) same r.0
  rise_first low (x ∷ xs) (suc i) e r at = let a = r.0 in let b = rise_first (x.id + 1) xs i e r.1 at in omega arith

  -- later ids are greater
  pub rise_between : (low : ℕ) (xs : List (Item T)) (i j : ℕ) (a b : Item T) → RiseFrom low xs → slice_get xs i ≡ Some a → slice_get xs j ≡ Some b → i ≤ j → a.id ≤ b.id
  rise_between low [] i j a b r at_i at_j h = cc
  rise_between low (x ∷ xs) zero zero a b r at_i at_j h = let same : a ≡ b = cc in subst (λ y. a.id ≤ y.id) same (omega arith)
  rise_between low (x ∷ xs) zero (suc j) a b r at_i at_j h =
      let same : x ≡ a = cc in
      let over = rise_first (x.id + 1) xs j b r.1 at_j in
      let ids = ap (λ y. y.id) same in
      omega arith
  rise_between low (x ∷ xs) (suc i) zero a b r at_i at_j h = absurd (omega arith)
  rise_between low (x ∷ xs) (suc i) (suc j) a b r at_i at_j h = rise_between (x.id + 1) xs i j a b r.1 at_i at_j (omega arith)

  -- an id below a number, and so those before it
  pub below_up : (id i n : ℕ) (xs : List (Item T)) (e : Item T) → RiseFrom 0 xs → slice_get xs i ≡ Some e → e.id < id → n ≤ i + 1 → AreBelow id n xs
  below_up id i n xs e r at less h = λ k f at_k under. let between = rise_between 0 xs k i f e r at_k at (omega arith) in omega arith

  -- an id not below a number, and so those after it
  pub over_down : (id i n : ℕ) (xs : List (Item T)) (e : Item T) → RiseFrom 0 xs → slice_get xs i ≡ Some e → id ≤ e.id → i ≤ n → AreOver id n xs
  over_down id i n xs e r at more h = λ k f at_k past. let between = rise_between 0 xs i k e f r at at_k (omega arith) in omega arith

  -- there are none from the end on
  pub none_past : (id n : ℕ) (xs : List (Item T)) → length xs ≤ n → (k : ℕ) (e : Item T) → slice_get xs k ≡ Some e → n ≤ k → id ≤ e.id
  none_past id n [] h k e at past = cc
  none_past id n (x ∷ xs) h zero e at past = absurd (omega arith)
  none_past id n (x ∷ xs) h (suc k) e at past = none_past id k xs (omega arith) k e at (omega arith)

  -- a place that parts the ids
  pub lower_from : (id n : ℕ) (xs : List (Item T)) → n ≤ length xs → ((k : ℕ) (e : Item T) → slice_get xs k ≡ Some e → k < n → e.id < id) → ((k : ℕ) (e : Item T) → slice_get xs k ≡ Some e → n ≤ k → id ≤ e.id) → IsLower id n xs
  lower_from id zero [] h below over = tt
  lower_from id zero (x ∷ xs) h below over = over 0 x refl (omega arith)
  lower_from id (suc n) [] h below over = absurd (omega arith)
  lower_from id (suc n) (x ∷ xs) h below over =
      (below 0 x refl (omega arith), lower_from id n xs (omega arith) (λ k e at less. below (suc k) e at (omega arith)) (λ k e at more. over (suc k) e at (omega arith)))

  -- what is found
  abbrev pub found_in : (id : ℕ) (o : Option (Item T)) → Option T
  found_in id None = None
  found_in id (Some e) = cond (e.id == id) e.held None

  none_over : (id low : ℕ) (xs : List (Item T)) → RiseFrom low xs → id < low → find nat_cmp id (held_of xs) ≡ None
  none_over id low [] r h = refl
  none_over id low (x ∷ xs) r h =
      let over : low ≤ x.id = r.0 in
      let rest = none_over id (x.id + 1) xs r.1 (omega arith) in
      let apart : (id == x.id) ≡ false = grind (arith, nat_tests) in
      skip x xs apart rest
    where
      skip : (x : Item T) (xs : List (Item T)) → (id == x.id) ≡ false → find nat_cmp id (held_of xs) ≡ None → find nat_cmp id (held_of (x ∷ xs)) ≡ None
      skip x xs apart rest = elim x.held as (λ o. find nat_cmp id (elim o [ None ↦ held_of xs | Some y ↦ (x.id, y) ∷ held_of xs ]) ≡ None) [
        | None ↦ rest
        | Some y ↦ ap (λ b. cond b (Some y) (find nat_cmp id (held_of xs))) (unsigned_tied id x.id ∙ apart) ∙ rest
      ]

  step_past : (id : ℕ) (x : Item T) (xs : List (Item T)) → (id == x.id) ≡ false → find nat_cmp id (held_of (x ∷ xs)) ≡ find nat_cmp id (held_of xs)
  step_past id x xs apart = elim x.held as (λ o. find nat_cmp id (elim o [ None ↦ held_of xs | Some y ↦ (x.id, y) ∷ held_of xs ]) ≡ find nat_cmp id (held_of xs)) [
    | None ↦ refl
    | Some y ↦ ap (λ b. cond b (Some y) (find nat_cmp id (held_of xs))) (unsigned_tied id x.id ∙ apart)
  ]

  step_at : (id : ℕ) (x : Item T) (xs : List (Item T)) → (id == x.id) ≡ true → RiseFrom (x.id + 1) xs → find nat_cmp id (held_of (x ∷ xs)) ≡ x.held
  step_at id x xs same r =
      let is : id < x.id + 1 = grind (arith, nat_tests) in
      let none = none_over id (x.id + 1) xs r is in
      elim x.held as (λ o. find nat_cmp id (elim o [ None ↦ held_of xs | Some y ↦ (x.id, y) ∷ held_of xs ]) ≡ o) [
        | None ↦ none
        | Some y ↦ ap (λ b. cond b (Some y) (find nat_cmp id (held_of xs))) (unsigned_tied id x.id ∙ same)
      ]

  pub find-lower : (id low n : ℕ) (xs : List (Item T)) → RiseFrom low xs → IsLower id n xs → find nat_cmp id (held_of xs) ≡ found_in id (slice_get xs n)
  find-lower id low zero [] r l = refl
  find-lower id low zero (x ∷ xs) r l = by_test (x.id == id) refl
    where
      by_test : (b : Bool) → (x.id == id) ≡ b → find nat_cmp id (held_of (x ∷ xs)) ≡ cond (x.id == id) x.held None
      by_test true t = let back : (id == x.id) ≡ true = grind (arith, nat_tests) in step_at id x xs back r.1 ∙ sym (ap (λ b. cond b x.held None) t)
      by_test false t =
          let over : id ≤ x.id = l in
          let apart : (id == x.id) ≡ false = grind (arith, nat_tests) in
          let less : id < x.id + 1 = omega arith in
          step_past id x xs apart ∙ none_over id (x.id + 1) xs r.1 less ∙ sym (ap (λ b. cond b x.held None) t)
  find-lower id low (suc n) [] r l = absurd l
  find-lower id low (suc n) (x ∷ xs) r l =
      let less : x.id < id = l.0 in
      let apart : (id == x.id) ≡ false = grind (arith, nat_tests) in
      step_past id x xs apart ∙ find-lower id (x.id + 1) n xs r.1 l.1

  pub rise_set : (low i : ℕ) (xs : List (Item T)) (e f : Item T) → RiseFrom low xs → slice_get xs i ≡ Some e → f.id ≡ e.id → RiseFrom low (set xs i f)
  rise_set low i [] e f r at same = cc
  rise_set low zero (x ∷ xs) e f r at same =
      let is : x ≡ e = cc in
      let ids : f.id ≡ x.id = same ∙ ap (λ y. y.id) (sym is) in
      (subst (λ k. low ≤ k) (sym ids) r.0, subst (λ k. RiseFrom (k + 1) xs) (sym ids) r.1)
  rise_set low (suc i) (x ∷ xs) e f r at same = (r.0, rise_set (x.id + 1) i xs e f r.1 at same)

  -- what stands at a place gets another value
  pub find-set : (q low i : ℕ) (xs : List (Item T)) (e f : Item T) → RiseFrom low xs → slice_get xs i ≡ Some e → f.id ≡ e.id → find nat_cmp q (held_of (set xs i f)) ≡ cond (q == f.id) f.held (find nat_cmp q (held_of xs))
  find-set q low i [] e f r at same = cc
  find-set q low zero (x ∷ xs) e f r at same = by_test (q == f.id) refl
    where
      by_test : (b : Bool) → (q == f.id) ≡ b → find nat_cmp q (held_of (f ∷ xs)) ≡ cond b f.held (find nat_cmp q (held_of (x ∷ xs)))
      by_test true t =
          let is : x ≡ e = cc in
          let ids : f.id ≡ x.id = same ∙ ap (λ y. y.id) (sym is) in
          step_at q f xs t (subst (λ k. RiseFrom (k + 1) xs) (sym ids) r.1)
      by_test false t =
          let is : x ≡ e = cc in
          let ids : f.id ≡ x.id = same ∙ ap (λ y. y.id) (sym is) in
          step_past q f xs t ∙ sym (step_past q x xs (ap (λ k. q == k) (sym ids) ∙ t))
  find-set q low (suc i) (x ∷ xs) e f r at same =
      let over = rise_first (x.id + 1) xs i e r.1 at in
      by_test over (find-set q (x.id + 1) i xs e f r.1 at same) (q == x.id) refl
    where
      by_test : x.id + 1 ≤ e.id → find nat_cmp q (held_of (set xs i f)) ≡ cond (q == f.id) f.held (find nat_cmp q (held_of xs)) → (b : Bool) → (q == x.id) ≡ b
          → find nat_cmp q (held_of (x ∷ set xs i f)) ≡ cond (q == f.id) f.held (find nat_cmp q (held_of (x ∷ xs)))
      by_test over rest true t =
          let apart : (q == f.id) ≡ false = grind (arith, nat_tests) in
          step_at q x (set xs i f) t (rise_set (x.id + 1) i xs e f r.1 at same) ∙ sym (ap (λ b. cond b f.held (find nat_cmp q (held_of (x ∷ xs)))) apart ∙ step_at q x xs t r.1)
      by_test over rest false t = step_past q x (set xs i f) t ∙ rest ∙ ap (cond (q == f.id) f.held) (sym (step_past q x xs t))

  abbrev pub put_at : List (Item T) → ℕ → Item T → List (Item T)
  put_at xs n f = insert xs n f

  -- one more stands where its id belongs
  pub rise_put : (low n : ℕ) (xs : List (Item T)) (f : Item T) → RiseFrom low xs → low ≤ f.id → IsLower f.id n xs → find_id f.id (slice_get xs n) ≡ false → RiseFrom low (put_at xs n f)
  rise_put low zero [] f r h l none = (h, tt)
  rise_put low zero (x ∷ xs) f r h l none =
      let over : f.id ≤ x.id = l in
      let more : f.id + 1 ≤ x.id = grind (arith, nat_tests) in
      (h, (more, r.1))
  rise_put low (suc n) [] f r h l none = absurd l
  rise_put low (suc n) (x ∷ xs) f r h l none = let less = l.0 in (r.0, rise_put (x.id + 1) n xs f r.1 (omega arith) l.1 none)

  pub find-put_at : (q low n : ℕ) (xs : List (Item T)) (f : Item T) → RiseFrom low xs → IsLower f.id n xs → find_id f.id (slice_get xs n) ≡ false → find nat_cmp q (held_of (put_at xs n f)) ≡ cond (q == f.id) f.held (find nat_cmp q (held_of xs))
  find-put_at q low zero [] f r l none = by_test (q == f.id) refl
    where
      by_test : (b : Bool) → (q == f.id) ≡ b → find nat_cmp q (held_of (f ∷ [])) ≡ cond b f.held None
      by_test true t = step_at q f [] t tt
      by_test false t = step_past q f [] t
  find-put_at q low zero (x ∷ xs) f r l none = by_test (q == f.id) refl
    where
      by_test : (b : Bool) → (q == f.id) ≡ b → find nat_cmp q (held_of (f ∷ x ∷ xs)) ≡ cond b f.held (find nat_cmp q (held_of (x ∷ xs)))
      by_test true t =
          let over : f.id ≤ x.id = l in
          let more : f.id + 1 ≤ x.id = grind (arith, nat_tests) in
          step_at q f (x ∷ xs) t (more, r.1)
      by_test false t = step_past q f (x ∷ xs) t
  find-put_at q low (suc n) [] f r l none = absurd l
  find-put_at q low (suc n) (x ∷ xs) f r l none =
      by_test (find-put_at q (x.id + 1) n xs f r.1 l.1 none) (q == x.id) refl
    where
      by_test : find nat_cmp q (held_of (put_at xs n f)) ≡ cond (q == f.id) f.held (find nat_cmp q (held_of xs)) → (b : Bool) → (q == x.id) ≡ b
          → find nat_cmp q (held_of (x ∷ put_at xs n f)) ≡ cond (q == f.id) f.held (find nat_cmp q (held_of (x ∷ xs)))
      by_test rest true t =
          let less : x.id < f.id = l.0 in
          let apart : (q == f.id) ≡ false = grind (arith, nat_tests) in
          step_at q x (put_at xs n f) t (rise_put (x.id + 1) n xs f r.1 (omega arith) l.1 none) ∙ sym (ap (λ b. cond b f.held (find nat_cmp q (held_of (x ∷ xs)))) apart ∙ step_at q x xs t r.1)
      by_test rest false t = step_past q x (put_at xs n f) t ∙ rest ∙ ap (cond (q == f.id) f.held) (sym (step_past q x xs t))

  pub find-at : (low i : ℕ) (xs : List (Item T)) (e : Item T) → RiseFrom low xs → slice_get xs i ≡ Some e → find nat_cmp e.id (held_of xs) ≡ e.held
  find-at low i [] e r at = cc
  find-at low zero (x ∷ xs) e r at =
      let same : x ≡ e = cc in
      let ids = ap (λ y. y.id) same in
      let tie : (e.id == x.id) ≡ true = grind (arith, nat_tests) in
      step_at e.id x xs tie r.1 ∙ ap (λ y. y.held) same
  find-at low (suc i) (x ∷ xs) e r at =
      let over = rise_first (x.id + 1) xs i e r.1 at in
      let apart : (e.id == x.id) ≡ false = grind (arith, nat_tests) in
      step_past e.id x xs apart ∙ find-at (x.id + 1) i xs e r.1 at

  -- as a finite map
  abbrev pub view_of : List (Item T) → FinMap nat_cmp T
  view_of xs = finite.from_entries (held_of xs)

  pub get-view : (xs : List (Item T)) (q : ℕ) → finite.get (view_of xs) q ≡ find nat_cmp q (held_of xs)
  get-view xs q = get-from_entries nat_cmp_total (held_of xs) q

  -- the first id of which something is held
  abbrev pub first_id : List (Item T) → Option ℕ
  first_id xs = slice_get (map (λ (e : ℕ × T). e.0) (held_of xs)) 0

  -- from a place on: that of the place, where something is held of it, and otherwise one later
  pub first_here : (xs : List (Item T)) (i : ℕ) (a b : Item T) → i < length xs → is_some (get_or xs i a).held ≡ true → first_id (drop i xs) ≡ Some (get_or xs i b).id
  first_here [] i a b h held = absurd (omega arith)
  first_here (x ∷ xs) zero a b h held = by_held x.held held
    where
      by_held : (o : Option T) → is_some o ≡ true → slice_get (map (λ (e : ℕ × T). e.0) (elim o [ None ↦ held_of xs | Some y ↦ (x.id, y) ∷ held_of xs ])) 0 ≡ Some x.id
      by_held (Some y) held = refl
      by_held None held = absurd cc
  first_here (x ∷ xs) (suc i) a b h held = first_here xs i a b (omega arith) held

  first_after : (xs : List (Item T)) (i : ℕ) (a : Item T) → i < length xs → is_some (get_or xs i a).held ≡ false → first_id (drop (suc i) xs) ≡ first_id (drop i xs)
  first_after [] i a h none = absurd (omega arith)
  first_after (x ∷ xs) zero a h none = by_held x.held none
    where
      by_held : (o : Option T) → is_some o ≡ false → first_id xs ≡ slice_get (map (λ (e : ℕ × T). e.0) (elim o [ None ↦ held_of xs | Some y ↦ (x.id, y) ∷ held_of xs ])) 0
      by_held (Some y) none = absurd cc
      by_held None none = refl
  first_after (x ∷ xs) (suc i) a h none = first_after xs i a (omega arith) none

  pub first_later : (xs : List (Item T)) (i : ℕ) (a : Item T) → i < length xs → is_some (get_or xs i a).held ≡ false → first_id (drop (i + 1) xs) ≡ first_id (drop i xs)
  first_later xs i a h none = ap (λ k. first_id (drop k xs)) (add-one i) ∙ first_after xs i a h none

  -- what is found stands in the list
  pub found_inside : (xs : List (Item T)) (id i n : ℕ) → IsFound xs id (Ok i) → length xs ≡ n → i < n
  found_inside xs id i n f len = subst (λ m. i < m) len (slice_get_within xs i f.0 f.1)

  -- an id is found where it is read
  pub found_at : (xs : List (Item T)) (id i : ℕ) (e : Item T) → i < length xs → e ≡ get_or xs i e → (get_or xs i e).id ≡ id → IsFound xs id (Ok i)
  found_at xs id i e inside is ids = (e, slice_get_read xs (length xs) i e refl inside is, ap (λ y. y.id) is ∙ ids)

  -- and it belongs where its place is taken by another, or where nothing stands
  pub belongs_at : (xs : List (Item T)) (id i : ℕ) (e : Item T) → IsLower id i xs → i < length xs → e ≡ get_or xs i e → (get_or xs i e).id ≢ id → IsFound xs id (Err i)
  belongs_at xs id i e lower inside is others = (lower, ap (find_id id) (slice_get_read xs (length xs) i e refl inside is) ∙ other e.id (λ same. others (ap (λ y. y.id) (sym is) ∙ same)))
    where
      other : (n : ℕ) → n ≢ id → (n == id) ≡ false
      other n h = grind (arith, nat_tests)

  pub belongs_last : (xs : List (Item T)) (id i : ℕ) → IsLower id i xs → length xs ≤ i → IsFound xs id (Err i)
  belongs_last xs id i lower past = (lower, ap (find_id id) (slice_get_past xs i past))

  pub got_at : (xs : List (Item T)) (id i : ℕ) → RiseFrom 0 xs → IsFound xs id (Ok i) → (e : Item T) × (slice_get xs i ≡ Some e) × (finite.get (view_of xs) id ≡ e.held)
  got_at xs id i r f = (f.0, f.1, get-view xs id ∙ ap (λ k. find nat_cmp k (held_of xs)) (sym f.2) ∙ find-at 0 i xs f.0 r f.1)

  nothing : (id : ℕ) (o : Option (Item T)) → find_id id o ≡ false → found_in id o ≡ None
  nothing id None e = refl
  nothing id (Some x) e = ap (λ b. cond b x.held None) e

  pub got_none : (xs : List (Item T)) (id n : ℕ) → RiseFrom 0 xs → IsFound xs id (Err n) → finite.get (view_of xs) id ≡ None
  got_none xs id n r f = get-view xs id ∙ find-lower id 0 n xs r f.0 ∙ nothing id (slice_get xs n) f.1

  pub view-insert : (xs ys : List (Item T)) (id : ℕ) (x : T) → ((q : ℕ) → find nat_cmp q (held_of ys) ≡ cond (q == id) (Some x) (find nat_cmp q (held_of xs))) → view_of ys ≡ finite.insert (view_of xs) id x
  view-insert xs ys id x h = same_map nat_cmp_total nat_cmp-IsAntisymmetric _ _ (λ q.
      get-view ys q ∙ h q
      ∙ ap (λ b. cond b (Some x) (find nat_cmp q (held_of xs))) (sym (unsigned_tied q id))
      ∙ ap (cond (eq_by_cmp nat_cmp q id) (Some x)) (sym (get-view xs q))
      ∙ sym (get-insert nat_cmp_total (view_of xs) id x q))

  pub view-remove : (xs ys : List (Item T)) (id : ℕ) → ((q : ℕ) → find nat_cmp q (held_of ys) ≡ cond (q == id) None (find nat_cmp q (held_of xs))) → view_of ys ≡ finite.remove (view_of xs) id
  view-remove xs ys id h = same_map nat_cmp_total nat_cmp-IsAntisymmetric _ _ (λ q.
      get-view ys q ∙ h q
      ∙ ap (λ b. cond b None (find nat_cmp q (held_of xs))) (sym (unsigned_tied q id))
      ∙ ap (cond (eq_by_cmp nat_cmp q id) None) (sym (get-view xs q))
      ∙ sym (get-remove nat_cmp_total (view_of xs) id q))

  held_above : (k low : ℕ) (xs : List (Item T)) → k < low → RiseFrom low xs → IsT (below_all nat_cmp k (held_of xs))
  held_above k low [] h r = tt
  held_above k low (x ∷ xs) h r =
      let over : low ≤ x.id = r.0 in
      let rest = held_above k (x.id + 1) xs (omega arith) r.1 in
      let less : nat_lt k x.id ≡ true = grind (arith, nat_tests) in
      elim x.held as (λ o. IsT (below_all nat_cmp k (elim o [ None ↦ held_of xs | Some y ↦ (x.id, y) ∷ held_of xs ]))) [
        | None ↦ rest
        | Some y ↦ both_true _ _ (subst (λ b. IsT (is_lt (cond b Less (cond (k == x.id) Equal Greater)))) (sym less) tt) rest
      ]

  held_sorted : (low : ℕ) (xs : List (Item T)) → RiseFrom low xs → IsT (is_sorted nat_cmp (held_of xs))
  held_sorted low [] r = tt
  held_sorted low (x ∷ xs) r =
      let rest = held_sorted (x.id + 1) xs r.1 in
      let over = held_above x.id (x.id + 1) xs (omega arith) r.1 in
      elim x.held as (λ o. IsT (is_sorted nat_cmp (elim o [ None ↦ held_of xs | Some y ↦ (x.id, y) ∷ held_of xs ]))) [
        | None ↦ rest
        | Some y ↦ both_true _ _ over rest
      ]

  all_above : (n low : ℕ) (xs : List (Item T)) → n < low → RiseFrom low xs → above n (keys_of (held_of xs)) ≡ keys_of (held_of xs)
  all_above n low [] h r = refl
  all_above n low (x ∷ xs) h r =
      let over : low ≤ x.id = r.0 in
      let rest = all_above n (x.id + 1) xs (omega arith) r.1 in
      let less : nat_lt n x.id ≡ true = grind (arith, nat_tests) in
      elim x.held as (λ o. above n (keys_of (elim o [ None ↦ held_of xs | Some y ↦ (x.id, y) ∷ held_of xs ])) ≡ keys_of (elim o [ None ↦ held_of xs | Some y ↦ (x.id, y) ∷ held_of xs ])) [
        | None ↦ rest
        | Some y ↦ ap (λ b. cond b (x.id ∷ above n (keys_of (held_of xs))) (above n (keys_of (held_of xs)))) less ∙ ap (λ ks. x.id ∷ ks) rest
      ]

  above_in : (n low m : ℕ) (xs : List (Item T)) → RiseFrom low xs → IsLower (n + 1) m xs → above n (keys_of (held_of xs)) ≡ keys_of (held_of (drop m xs))
  above_in n low zero [] r l = refl
  above_in n low zero (x ∷ xs) r l = let over : n + 1 ≤ x.id = l in all_above n (n + 1) (x ∷ xs) (omega arith) (over, r.1)
  above_in n low (suc m) [] r l = absurd l
  above_in n low (suc m) (x ∷ xs) r l =
      let less : x.id < n + 1 = l.0 in
      let not_above : nat_lt n x.id ≡ false = grind (arith, nat_tests) in
      let rest = above_in n (x.id + 1) m xs r.1 l.1 in
      elim x.held as (λ o. above n (keys_of (elim o [ None ↦ held_of xs | Some y ↦ (x.id, y) ∷ held_of xs ])) ≡ keys_of (held_of (drop m xs))) [
        | None ↦ rest
        | Some y ↦ ap (λ b. cond b (x.id ∷ above n (keys_of (held_of xs))) (above n (keys_of (held_of xs)))) not_above ∙ rest
      ]

  pub above-view : (n m : ℕ) (xs : List (Item T)) → RiseFrom 0 xs → IsLower (n + 1) m xs → above n (finite.keys (view_of xs)) ≡ keys_of (held_of (drop m xs))
  above-view n m xs r l = ap (λ es. above n (keys_of es)) (entries-of_sorted (held_of xs) (held_sorted 0 xs r)) ∙ above_in n 0 m xs r l

  pub lower_inside : (id n : ℕ) (xs : List (Item T)) → IsLower id n xs → n ≤ length xs
  lower_inside id zero xs l = omega arith
  lower_inside id (suc n) [] l = absurd l
  lower_inside id (suc n) (x ∷ xs) l = let rest = lower_inside id n xs l.1 in omega arith

  -- how many there are after a change
  pub len-new : (m : FinMap nat_cmp T) (id : ℕ) (x : T) → finite.get m id ≡ None → finite.len (finite.insert m id x) ≡ finite.len m + 1
  len-new m id x none = len-insert nat_cmp_total m id x ∙ ap (λ o. cond (is_some o) (finite.len m) (finite.len m + 1)) none

  pub len-there : (m : FinMap nat_cmp T) (id : ℕ) (x : T) → is_some (finite.get m id) ≡ true → finite.len (finite.insert m id x) ≡ finite.len m
  len-there m id x there = len-insert nat_cmp_total m id x ∙ ap (λ b. cond b (finite.len m) (finite.len m + 1)) there

  pub len-gone : (m : FinMap nat_cmp T) (id : ℕ) → is_some (finite.get m id) ≡ true → finite.len (finite.remove m id) ≡ finite.len m - 1
  len-gone m id there = len-remove nat_cmp_total m id ∙ ap (λ b. cond b (finite.len m - 1) (finite.len m)) there

  pub len-some : (m : FinMap nat_cmp T) (id : ℕ) → is_some (finite.get m id) ≡ true → 1 ≤ finite.len m
  len-some m id there = by_length (finite.entries m) (sym (len-entries m)) (ap is_some (sym (get-entries m id)) ∙ there)
    where
      by_length : (es : List (ℕ × T)) → length es ≡ finite.len m → is_some (find nat_cmp id es) ≡ true → 1 ≤ finite.len m
      by_length [] e h = cc
      by_length (x ∷ es) e h = omega arith
