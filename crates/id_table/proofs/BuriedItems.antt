-- What is buried, after changes of the list: the laws of what is held, of the items with the two exchanged.
use Rattle.std.proofs.Common.{◌≡◌, ℕ, zero, suc, ◌+◌, ◌<◌, ◌≤◌, ◌==◌, ◌||◌, Bool, true, false, cond, List, [], ◌∷◌, Option, Some, None, Result, Ok, Err, is_some, length, map, drop, set, get_or, slice_get, option_map, refl, sym, ap, ◌∙◌, arith}
use Rattle.std.proofs.lemmas.List.{map-set, drop-map, length-map}
use Rattle.std.proofs.Math.ListN.{get_or-map}
use Rattle.std.proofs.lemmas.Bool.Decides.{nat_tests}
use Rattle.std.specs.List.{filter, insert}
use Rattle.std.specs.Ordering.{nat_cmp}
use Rattle.std.specs.FinMap as finite
use Rattle.std.specs.FinMap.{FinMap, nat_cmp-IsAntisymmetric, same_map, get-remove}
use Rattle.std.specs.FinMap.Entries.{find}
use Rattle.std.specs.Cmp.{nat_cmp_total, unsigned_tied}
use Rattle.id_table.specs.declared.rows.Item.{Item}
use Rattle.id_table.specs.Stones.{held_of, buried_of, swapped, is_held, is_left, RiseFrom, IsLower, IsFound, find_id}
use Rattle.id_table.specs.Stock.{Stock}
use Rattle.id_table.proofs.StoneLaws.{first_id, first_here, first_later, view_of, get-view, find-set, find-at, find-put_at, put_at, got_none, view-insert, view-remove}

pub stock_same : {T : Type 0} (a b : FinMap nat_cmp T) (c d : FinMap nat_cmp T) (m n : ℕ) → a ≡ b → c ≡ d → m ≡ n → ◌≡◌ {A = Stock T} (record { live = a; buried = c; room = m }) (record { live = b; buried = d; room = n })
stock_same a b c d m n p q r = λ i. record { live = p i; buried = q i; room = r i }

or_true : (a : Bool) → (a || true) ≡ true
or_true true = refl
or_true false = refl

module _ {T : Type 0} where
  pub rise_swapped : (low : ℕ) (xs : List (Item T)) → RiseFrom low xs → RiseFrom low (map swapped xs)
  rise_swapped low [] r = tt
  rise_swapped low (x ∷ xs) r = (r.0, rise_swapped (x.id + 1) xs r.1)

  pub get_swapped : (xs : List (Item T)) (i : ℕ) → slice_get (map swapped xs) i ≡ option_map swapped (slice_get xs i)
  get_swapped [] i = refl
  get_swapped (x ∷ xs) zero = refl
  get_swapped (x ∷ xs) (suc i) = get_swapped xs i

  pub at_swapped : (xs : List (Item T)) (i : ℕ) (e : Item T) → slice_get xs i ≡ Some e → slice_get (map swapped xs) i ≡ Some (swapped e)
  at_swapped xs i e at = get_swapped xs i ∙ ap (option_map swapped) at

  pub lower_swapped : (id n : ℕ) (xs : List (Item T)) → IsLower id n xs → IsLower id n (map swapped xs)
  lower_swapped id zero [] l = tt
  lower_swapped id zero (x ∷ xs) l = l
  lower_swapped id (suc n) [] l = l
  lower_swapped id (suc n) (x ∷ xs) l = (l.0, lower_swapped id n xs l.1)

  find_id_swapped : (id : ℕ) (o : Option (Item T)) → find_id id (option_map swapped o) ≡ find_id id o
  find_id_swapped id None = refl
  find_id_swapped id (Some e) = refl

  none_swapped : (id n : ℕ) (xs : List (Item T)) → find_id id (slice_get xs n) ≡ false → find_id id (slice_get (map swapped xs) n) ≡ false
  none_swapped id n xs h = ap (find_id id) (get_swapped xs n) ∙ find_id_swapped id (slice_get xs n) ∙ h

  pub found_swapped : (xs : List (Item T)) (id : ℕ) (r : Result ℕ ℕ) → IsFound xs id r → IsFound (map swapped xs) id r
  found_swapped xs id (Ok n) f = (swapped f.0, at_swapped xs n f.0 f.1, f.2)
  found_swapped xs id (Err n) f = (lower_swapped id n xs f.0, none_swapped id n xs f.1)

  read_swapped : (xs : List (Item T)) (i : ℕ) (e : Item T) → get_or (map swapped xs) i (swapped e) ≡ swapped (get_or xs i e)
  read_swapped xs i e = get_or-map swapped xs i e

  -- the first id from a place on of which something is buried
  pub first_buried_here : (xs : List (Item T)) (i : ℕ) (a b : Item T) → i < length xs → is_some (get_or xs i a).buried ≡ true → first_id (map swapped (drop i xs)) ≡ Some (get_or xs i b).id
  first_buried_here xs i a b h buried =
      ap first_id (sym (drop-map swapped i xs))
      ∙ first_here (map swapped xs) i (swapped a) (swapped b) (omega (arith, length-map xs swapped)) (ap (λ e. is_some e.held) (read_swapped xs i a) ∙ buried)
      ∙ ap (λ e. Some e.id) (read_swapped xs i b)

  pub first_buried_later : (xs : List (Item T)) (i : ℕ) (a : Item T) → i < length xs → is_some (get_or xs i a).buried ≡ false → first_id (map swapped (drop (i + 1) xs)) ≡ first_id (map swapped (drop i xs))
  first_buried_later xs i a h none =
      ap first_id (sym (drop-map swapped (i + 1) xs))
      ∙ first_later (map swapped xs) i (swapped a) (omega (arith, length-map xs swapped)) (ap (λ e. is_some e.held) (read_swapped xs i a) ∙ none)
      ∙ ap first_id (drop-map swapped i xs)

  insert_swapped : (xs : List (Item T)) (n : ℕ) (f : Item T) → map swapped (insert xs n f) ≡ insert (map swapped xs) n (swapped f)
  insert_swapped [] zero f = refl
  insert_swapped (x ∷ xs) zero f = refl
  insert_swapped [] (suc n) f = refl
  insert_swapped (x ∷ xs) (suc n) f = ap (λ ys. swapped x ∷ ys) (insert_swapped xs n f)

  -- what is buried at each id, where the item at a place is another of the same id
  pub find-buried_set : (q i : ℕ) (xs : List (Item T)) (e f : Item T) → RiseFrom 0 xs → slice_get xs i ≡ Some e → f.id ≡ e.id → find nat_cmp q (buried_of (set xs i f)) ≡ cond (q == f.id) f.buried (find nat_cmp q (buried_of xs))
  find-buried_set q i xs e f r at same =
      ap (λ ys. find nat_cmp q (held_of ys)) (map-set swapped xs i f)
      ∙ find-set q 0 i (map swapped xs) (swapped e) (swapped f) (rise_swapped 0 xs r) (at_swapped xs i e at) same

  -- where nothing but what is held is another, what is buried stays
  pub buried-kept : (i : ℕ) (xs : List (Item T)) (e f : Item T) → RiseFrom 0 xs → slice_get xs i ≡ Some e → f.id ≡ e.id → f.buried ≡ e.buried → finite.from_entries {R = nat_cmp} (buried_of (set xs i f)) ≡ finite.from_entries (buried_of xs)
  buried-kept i xs e f r at same stays = same_map nat_cmp_total nat_cmp-IsAntisymmetric _ _ (λ q.
      get-view (map swapped (set xs i f)) q ∙ find-buried_set q i xs e f r at same ∙ by_id q (q == f.id) refl ∙ sym (get-view (map swapped xs) q))
    where
      by_id : (q : ℕ) (b : Bool) → (q == f.id) ≡ b → cond b f.buried (find nat_cmp q (buried_of xs)) ≡ find nat_cmp q (buried_of xs)
      by_id q false t = refl
      by_id q true t =
          stays ∙ sym (find-at 0 i (map swapped xs) (swapped e) (rise_swapped 0 xs r) (at_swapped xs i e at))
          ∙ ap (λ k. find nat_cmp k (buried_of xs)) (sym same ∙ sym (is_id q t))
        where
          is_id : (q : ℕ) → (q == f.id) ≡ true → q ≡ f.id
          is_id q t = grind (arith, nat_tests)

  -- the same of an item more of which nothing is buried
  pub buried-put : (n : ℕ) (xs : List (Item T)) (f : Item T) → RiseFrom 0 xs → IsLower f.id n xs → find_id f.id (slice_get xs n) ≡ false → f.buried ≡ None → finite.from_entries {R = nat_cmp} (buried_of (put_at xs n f)) ≡ finite.from_entries (buried_of xs)
  buried-put n xs f r l none empty = same_map nat_cmp_total nat_cmp-IsAntisymmetric _ _ (λ q.
      get-view (map swapped (put_at xs n f)) q
      ∙ ap (λ ys. find nat_cmp q (held_of ys)) (insert_swapped xs n f)
      ∙ find-put_at q 0 n (map swapped xs) (swapped f) (rise_swapped 0 xs r) (lower_swapped f.id n xs l) (none_swapped f.id n xs none)
      ∙ by_id q (q == f.id) refl ∙ sym (get-view (map swapped xs) q))
    where
      was_none : finite.get (view_of (map swapped xs)) f.id ≡ None
      was_none = got_none (map swapped xs) f.id n (rise_swapped 0 xs r) (lower_swapped f.id n xs l, none_swapped f.id n xs none)

      is_id : (q : ℕ) → (q == f.id) ≡ true → q ≡ f.id
      is_id q t = grind (arith, nat_tests)

      by_id : (q : ℕ) (b : Bool) → (q == f.id) ≡ b → cond b f.buried (find nat_cmp q (buried_of xs)) ≡ find nat_cmp q (buried_of xs)
      by_id q false t = refl
      by_id q true t = empty ∙ sym was_none ∙ get-view (map swapped xs) f.id ∙ ap (λ k. find nat_cmp k (buried_of xs)) (sym (is_id q t))

  -- ---- items of which nothing is left go
  pub held-filtered : (p : Item T → Bool) → ((e : Item T) (x : T) → e.held ≡ Some x → p e ≡ true) → (xs : List (Item T)) → held_of (filter p xs) ≡ held_of xs
  held-filtered p keeps [] = refl
  held-filtered p keeps (x ∷ xs) = by_held x.held refl (held-filtered p keeps xs)
    where
      by_held : (o : Option T) → x.held ≡ o → held_of (filter p xs) ≡ held_of xs → held_of (cond (p x) (x ∷ filter p xs) (filter p xs)) ≡ held_of (x ∷ xs)
      by_held (Some y) e rest =
          ap (λ b. held_of (cond b (x ∷ filter p xs) (filter p xs))) (keeps x y e)
          ∙ ap (λ es. elim x.held [ None ↦ es | Some z ↦ (x.id, z) ∷ es ]) rest
      by_held None e rest =
          elim (p x) as (λ b. held_of (cond b (x ∷ filter p xs) (filter p xs)) ≡ held_of (x ∷ xs)) [
            | true ↦ ap (λ es. elim x.held [ None ↦ es | Some z ↦ (x.id, z) ∷ es ]) rest
            | false ↦ rest ∙ sym (ap (λ o. elim o [ None ↦ held_of xs | Some z ↦ (x.id, z) ∷ held_of xs ]) e)
          ]

  pub rise-filtered : (p : Item T → Bool) (low : ℕ) (xs : List (Item T)) → RiseFrom low xs → RiseFrom low (filter p xs)
  rise-filtered p low [] r = tt
  rise-filtered p low (x ∷ xs) r =
      let rest = rise-filtered p (x.id + 1) xs r.1 in
      elim (p x) as (λ b. RiseFrom low (cond b (x ∷ filter p xs) (filter p xs))) [
        | true ↦ (r.0, rest)
        | false ↦ rise_lower low (x.id + 1) (filter p xs) (let a = r.0 in omega arith) rest
      ]
    where
      rise_lower : (low high : ℕ) (xs : List (Item T)) → low ≤ high → RiseFrom high xs → RiseFrom low xs
      rise_lower low high [] h r = tt
      rise_lower low high (x ∷ xs) h r = let a = r.0 in (omega arith, r.1)

  filter_swapped : (p : Item T → Bool) (xs : List (Item T)) → map swapped (filter (λ e. p (swapped e)) xs) ≡ filter p (map swapped xs)
  filter_swapped p [] = refl
  filter_swapped p (x ∷ xs) = elim (p (swapped x)) as (λ b. map swapped (cond b (x ∷ filter (λ e. p (swapped e)) xs) (filter (λ e. p (swapped e)) xs)) ≡ cond b (swapped x ∷ filter p (map swapped xs)) (filter p (map swapped xs))) [
    | true ↦ ap (λ ys. swapped x ∷ ys) (filter_swapped p xs)
    | false ↦ filter_swapped p xs
  ]

  pub held-left : (xs : List (Item T)) → held_of (filter is_left xs) ≡ held_of xs
  held-left xs = held-filtered is_left (λ e x h. ap (λ o. is_some o || is_some e.buried) h) xs

  pub buried-left : (xs : List (Item T)) → buried_of (filter is_left xs) ≡ buried_of xs
  buried-left xs =
      ap held_of (filter_swapped (λ e. is_some e.buried || is_some e.held) xs)
      ∙ held-filtered (λ e. is_some e.buried || is_some e.held) (λ e x h. ap (λ o. is_some e.buried || is_some o) h ∙ or_true (is_some e.buried)) (map swapped xs)

  -- ---- where nothing is both held and buried, items of which something is held have nothing buried
  buried_gone : (xs : List (Item T)) → ((i : ℕ) (e : Item T) → slice_get xs i ≡ Some e → is_some e.held ≡ true → e.buried ≡ None) → buried_of (filter is_held xs) ≡ []
  buried_gone [] apart = refl
  buried_gone (x ∷ xs) apart = by_held (is_some x.held) refl (buried_gone xs (λ i e at. apart (suc i) e at))
    where
      by_held : (b : Bool) → is_some x.held ≡ b → buried_of (filter is_held xs) ≡ [] → buried_of (cond b (x ∷ filter is_held xs) (filter is_held xs)) ≡ []
      by_held true h rest = ap (λ o. elim o [ None ↦ buried_of (filter is_held xs) | Some y ↦ (x.id, y) ∷ buried_of (filter is_held xs) ]) (apart 0 x refl h) ∙ rest
      by_held false h rest = rest

  none_both : (a b : Option T) → (is_some b ≡ true → a ≡ None) → is_some a ≡ true → b ≡ None
  none_both a None h there = refl
  none_both a (Some y) h there = let gone = h refl in cc

  pub held-only : (xs : List (Item T)) → held_of (filter is_held xs) ≡ held_of xs
  held-only xs = held-filtered is_held (λ e x h. ap is_some h) xs

  pub buried-forgotten : (xs : List (Item T)) → RiseFrom 0 xs → ((q : ℕ) → is_some (finite.get (view_of (map swapped xs)) q) ≡ true → finite.get (view_of xs) q ≡ None) → buried_of (filter is_held xs) ≡ []
  buried-forgotten xs r apart = buried_gone xs (λ i e at held.
      let live = get-view xs e.id ∙ find-at 0 i xs e r at in
      let buried = get-view (map swapped xs) e.id ∙ find-at 0 i (map swapped xs) (swapped e) (rise_swapped 0 xs r) (at_swapped xs i e at) in
      none_both e.held e.buried (λ some. sym live ∙ apart e.id (ap is_some buried ∙ some)) held)

pub no_none : {X : Type 0} (o : Option X) → o ≡ None → is_some o ≡ true → ⊥
no_none (Some x) e h = cc
no_none None e h = cc

pub some_of : {X : Type 0} (o : Option X) → is_some o ≡ true → (x : X) × (o ≡ Some x)
some_of (Some x) h = (x, refl)
some_of None h = absurd cc

pub remove_none : {X : Type 0} (m : FinMap nat_cmp X) (k : ℕ) → finite.get m k ≡ None → finite.remove m k ≡ m
remove_none {X} m k none = same_map nat_cmp_total nat_cmp-IsAntisymmetric _ _ (λ q.
    get-remove nat_cmp_total m k q ∙ ap (λ b. cond b None (finite.get m q)) (unsigned_tied q k) ∙ by_key q (q == k) refl)
  where
    is_key : (q : ℕ) → (q == k) ≡ true → k ≡ q
    is_key q t = grind (arith, nat_tests)

    by_key : (q : ℕ) (b : Bool) → (q == k) ≡ b → cond b None (finite.get m q) ≡ finite.get m q
    by_key q true t = sym none ∙ ap (finite.get m) (is_key q t)
    by_key q false t = refl

-- ---- another item at a place
module _ {T : Type 0} (xs : List (Item T)) (id i : ℕ) (y : Item T) (r : RiseFrom 0 xs) (at : slice_get xs i ≡ Some y) (ids : y.id ≡ id) where
  pub live_there : finite.get (view_of xs) id ≡ y.held
  live_there = get-view xs id ∙ ap (λ k. find nat_cmp k (held_of xs)) (sym ids) ∙ find-at 0 i xs y r at

  pub place_inserted : (g : Item T) (x : T) → g.id ≡ y.id → g.held ≡ Some x → view_of (set xs i g) ≡ finite.insert (view_of xs) id x
  place_inserted g x same held = view-insert xs (set xs i g) id x (λ q.
      find-set q 0 i xs y g r at same
      ∙ ap (λ k. cond (q == k) g.held (find nat_cmp q (held_of xs))) (same ∙ ids)
      ∙ ap (λ o. cond (q == id) o (find nat_cmp q (held_of xs))) held)

  pub place_removed : (g : Item T) → g.id ≡ y.id → g.held ≡ None → view_of (set xs i g) ≡ finite.remove (view_of xs) id
  place_removed g same held = view-remove xs (set xs i g) id (λ q.
      find-set q 0 i xs y g r at same
      ∙ ap (λ k. cond (q == k) g.held (find nat_cmp q (held_of xs))) (same ∙ ids)
      ∙ ap (λ o. cond (q == id) o (find nat_cmp q (held_of xs))) held)

  pub place_kept : (g : Item T) → g.id ≡ y.id → g.held ≡ y.held → view_of (set xs i g) ≡ view_of xs
  place_kept g same held = same_map nat_cmp_total nat_cmp-IsAntisymmetric _ _ (λ q.
      get-view (set xs i g) q
      ∙ find-set q 0 i xs y g r at same
      ∙ ap (λ k. cond (q == k) g.held (find nat_cmp q (held_of xs))) (same ∙ ids)
      ∙ by_id q (q == id) refl ∙ sym (get-view xs q))
    where
      is_id : (q : ℕ) → (q == id) ≡ true → id ≡ q
      is_id q t = grind (arith, nat_tests)

      by_id : (q : ℕ) (b : Bool) → (q == id) ≡ b → cond b g.held (find nat_cmp q (held_of xs)) ≡ find nat_cmp q (held_of xs)
      by_id q false t = refl
      by_id q true t = held ∙ sym live_there ∙ get-view xs id ∙ ap (λ k. find nat_cmp k (held_of xs)) (is_id q t)

module _ {T : Type 0} (xs : List (Item T)) (id i : ℕ) (y : Item T) (r : RiseFrom 0 xs) (at : slice_get xs i ≡ Some y) (ids : y.id ≡ id) where
  pub buried_there : finite.get (view_of (map swapped xs)) id ≡ y.buried
  buried_there = live_there (map swapped xs) id i (swapped y) (rise_swapped 0 xs r) (at_swapped xs i y at) ids

  pub buried_inserted : (g : Item T) (x : T) → g.id ≡ y.id → g.buried ≡ Some x → view_of (map swapped (set xs i g)) ≡ finite.insert (view_of (map swapped xs)) id x
  buried_inserted g x same buried = ap view_of (map-set swapped xs i g) ∙ place_inserted (map swapped xs) id i (swapped y) (rise_swapped 0 xs r) (at_swapped xs i y at) ids (swapped g) x same buried

  pub buried_removed : (g : Item T) → g.id ≡ y.id → g.buried ≡ None → view_of (map swapped (set xs i g)) ≡ finite.remove (view_of (map swapped xs)) id
  buried_removed g same buried = ap view_of (map-set swapped xs i g) ∙ place_removed (map swapped xs) id i (swapped y) (rise_swapped 0 xs r) (at_swapped xs i y at) ids (swapped g) same buried

  pub buried_stays : (g : Item T) → g.id ≡ y.id → g.buried ≡ y.buried → view_of (map swapped (set xs i g)) ≡ view_of (map swapped xs)
  buried_stays g same buried = ap view_of (map-set swapped xs i g) ∙ place_kept (map swapped xs) id i (swapped y) (rise_swapped 0 xs r) (at_swapped xs i y at) ids (swapped g) same buried
