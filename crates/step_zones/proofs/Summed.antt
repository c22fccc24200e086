-- Totals of blocks, as they are summed.
use Rattle.std.proofs.Common.{◌≡◌, ℕ, zero, suc, ◌+◌, ◌*◌, ◌<◌, ◌≤◌, ◌==◌, Bool, true, false, cond, List, [], ◌∷◌, ◌++◌, take, get_or, length, map, Some, None, ℤ, ◌+ℤ◌, unsigned_abs, refl, sym, ap, subst, ◌∙◌, arith, lit≤}
use Rattle.std.specs.Prelude.{slice_get, slice_set}
use Rattle.std.specs.List.{find, fold, AllByRecursion}
use Rattle.std.specs.List.Sorted.{IsStrictlySortedBy}
use Rattle.std.specs.Ordering.{nat_cmp}
use Rattle.std.specs.declared.cmp.Ordering.TheVariants.{Less}
use Rattle.std.proofs.lemmas.Int.{ints}
use Rattle.std.proofs.lemmas.Bool.Decides.{nat_tests}
use Rattle.std.proofs.lemmas.List.{take_more, length-map}
use Rattle.std.proofs.lemmas.Map.Keys.{sorted_head, sorted_tail}
use Rattle.std.proofs.lemmas.Option.{slice_get_read}
use Rattle.grid_base.specs.declared.TheConstants.{SHIFT_MAX, VERTICES_MAX}
use Rattle.grid_base.specs.Triples.{Triple, IsWithin}
use Rattle.mesh_base.specs.declared.steps.ShiftOf.{ShiftOf}
use Rattle.mesh_base.specs.Mesh.{Mesh, is_solid}
use Rattle.mesh_base.specs.Shifts.{Shifts}
use Rattle.step_zones.specs.declared.totals.Total.{Total}
use Rattle.step_zones.specs.Zones.{Labels}
use Rattle.step_zones.specs.Ranks.{label_by}
use Rattle.step_zones.specs.Totals.{no_total, with_one, total_of}
use Rattle.step_zones.proofs.Ranked.{label_found, found_named, below_at}

-- ---- how large a total is
pub record FitsCount (t : Total) : Type 0 where
  pub sum : IsWithin (t.count * SHIFT_MAX) t.sum

sum_size : (a b : ℤ) (n : ℕ) → unsigned_abs a ≤ n * SHIFT_MAX → unsigned_abs b ≤ SHIFT_MAX → unsigned_abs (a +ℤ b) ≤ (n + 1) * SHIFT_MAX
sum_size a b n h k = omega (arith, ints)

one_more_fits : (t : Total) (s : ShiftOf) (solid : Bool) → FitsCount t → FitsCount (with_one t s.by solid)
one_more_fits t s solid h = record {
  sum = record {
    x_fits = sum_size t.sum.x s.by.x t.count h.sum.x_fits s.by.in_range.x_fits;
    y_fits = sum_size t.sum.y s.by.y t.count h.sum.y_fits s.by.in_range.y_fits;
    z_fits = sum_size t.sum.z s.by.z t.count h.sum.z_fits s.by.in_range.z_fits;
  };
}

abbrev step : Mesh → Labels → ℕ → Total → ShiftOf → Total
step m at l t s = cond (at s.v == l) (with_one t s.by (is_solid m s.v)) t

fits_from : (m : Mesh) (at : Labels) (l : ℕ) (shifts : Shifts) (t : Total) → FitsCount t → FitsCount (fold (step m at l) t shifts)
fits_from m at l [] t h = h
fits_from m at l (s ∷ rest) t h = fits_from m at l rest (step m at l t s) (by_test (at s.v == l))
  where
    by_test : (b : Bool) → FitsCount (cond b (with_one t s.by (is_solid m s.v)) t)
    by_test true = one_more_fits t s (is_solid m s.v) h
    by_test false = h

pub total_fits : (m : Mesh) (at : Labels) (l : ℕ) (shifts : Shifts) → FitsCount (total_of m at l shifts)
total_fits m at l shifts = fits_from m at l shifts no_total (record { sum = record { x_fits = lit≤ tt; y_fits = lit≤ tt; z_fits = lit≤ tt } })

counts_from : (m : Mesh) (at : Labels) (l : ℕ) (shifts : Shifts) (t : Total) → (fold (step m at l) t shifts).count ≤ t.count + length shifts
counts_from m at l [] t = omega arith
counts_from m at l (s ∷ rest) t = by_test (at s.v == l) (counts_from m at l rest)
  where
    by_test : (b : Bool) → ((u : Total) → (fold (step m at l) u rest).count ≤ u.count + length rest) → (fold (step m at l) (cond b (with_one t s.by (is_solid m s.v)) t) rest).count ≤ t.count + length (s ∷ rest)
    by_test true h = let k = h (with_one t s.by (is_solid m s.v)) in omega arith
    by_test false h = let k = h t in omega arith

pub total_counts : (m : Mesh) (at : Labels) (l : ℕ) (shifts : Shifts) → (total_of m at l shifts).count ≤ length shifts
total_counts m at l shifts = let h = counts_from m at l shifts no_total in omega arith

-- ---- one shift more
fold-append : {X Y : Type 0} (f : Y → X → Y) (y : Y) (xs zs : List X) → fold f y (xs ++ zs) ≡ fold f (fold f y xs) zs
fold-append f y [] zs = refl
fold-append f y (x ∷ xs) zs = fold-append f (f y x) xs zs

total_more : (m : Mesh) (at : Labels) (l : ℕ) (shifts : Shifts) (i : ℕ) (s : ShiftOf) → i < length shifts → s ≡ get_or shifts i s → total_of m at l (take (i + 1) shifts) ≡ step m at l (total_of m at l (take i shifts)) s
total_more m at l shifts i s h is =
    ap (total_of m at l) (take_more shifts i s h)
    ∙ fold-append (step m at l) no_total (take i shifts) (get_or shifts i s ∷ [])
    ∙ ap (step m at l (total_of m at l (take i shifts))) (sym is)

-- ---- the totals of all labels
map_same : {X Y : Type 0} (f g : X → Y) (xs : List X) → ((x : X) → f x ≡ g x) → map f xs ≡ map g xs
map_same f g [] h = refl
map_same f g (x ∷ xs) h = λ i. h x i ∷ map_same f g xs h i

not_later : (k y v : ℕ) → k ≡ v → nat_cmp k y ≡ Less → (v == y) ≡ false
not_later k y v e h = grind (arith, nat_tests)

not_earlier : (k y v : ℕ) → y ≡ v → nat_cmp k y ≡ Less → (v == k) ≡ false
not_earlier k y v e h = grind (arith, nat_tests)

same : (k v : ℕ) → k ≡ v → (v == k) ≡ true
same k v e = grind (arith, nat_tests)

-- a value that is changed for the vertex v alone
abbrev changed : {Y : Type 0} → ℕ → (ShiftOf → Y) → (Y → Y) → ShiftOf → Y
changed v g f x = cond (v == x.v) (f (g x)) (g x)

others_stay : {Y : Type 0} (g : ShiftOf → Y) (f : Y → Y) (v k : ℕ) (rest : Shifts) → k ≡ v → AllByRecursion (λ y. nat_cmp k y ≡ Less) (map (λ s. s.v) rest) → map g rest ≡ map (changed v g f) rest
others_stay g f v k [] e h = refl
others_stay g f v k (s ∷ rest) e h =
    λ i. cond (sym (not_later k s.v v e h.0) i) (f (g s)) (g s) ∷ others_stay g f v k rest e h.1 i

set_changed : {Y : Type 0} (g : ShiftOf → Y) (f : Y → Y) (v : ℕ) (shifts : Shifts) (p : ℕ) (x : ShiftOf) → IsStrictlySortedBy nat_cmp (map (λ s. s.v) shifts) → slice_get shifts p ≡ Some x → x.v ≡ v
    → slice_set (map g shifts) p (f (g x)) ≡ map (changed v g f) shifts
set_changed g f v [] p x sorted at is = cc
set_changed g f v (s ∷ rest) zero x sorted at is =
    let this : s ≡ x = cc in
    let named : s.v ≡ v = ap (λ (u : ShiftOf). u.v) this ∙ is in
    ap (λ u. f (g u) ∷ map g rest) (sym this)
    ∙ ap (λ b. cond b (f (g s)) (g s) ∷ map g rest) (sym (same s.v v named))
    ∙ ap (λ l. changed v g f s ∷ l) (others_stay g f v s.v rest named (sorted_head nat_cmp s.v (map (λ u. u.v) rest) sorted))
set_changed g f v (s ∷ rest) (suc p) x sorted at is =
    ap (λ b. cond b (f (g s)) (g s) ∷ slice_set (map g rest) p (f (g x))) (sym (not_earlier s.v x.v v is (below_at s.v rest p x (sorted_head nat_cmp s.v (map (λ u. u.v) rest) sorted) at)))
    ∙ ap (λ l. changed v g f s ∷ l) (set_changed g f v rest p x (sorted_tail nat_cmp s.v (map (λ u. u.v) rest) sorted) at is)

none_changed : {Y : Type 0} (g : ShiftOf → Y) (f : Y → Y) (v : ℕ) (shifts : Shifts) → find (λ s. s.v == v) shifts ≡ None → map g shifts ≡ map (changed v g f) shifts
none_changed g f v [] e = refl
none_changed g f v (s ∷ rest) e = by_test (none_changed g f v rest) (s.v == v) refl e
  where
    turned : (a b : ℕ) → (a == b) ≡ false → (b == a) ≡ false
    turned a b h = grind (arith, nat_tests)

    by_test : (find (λ u. u.v == v) rest ≡ None → map g rest ≡ map (changed v g f) rest) → (b : Bool) → (s.v == v) ≡ b → cond b (Some s) (find (λ u. u.v == v) rest) ≡ None → map g (s ∷ rest) ≡ map (changed v g f) (s ∷ rest)
    by_test later true h e = cc
    by_test later false h e = λ i. cond (sym (turned s.v v h) i) (f (g s)) (g s) ∷ later e i

pub read_mapped : {X Y : Type 0} (f : X → Y) (xs : List X) (p : ℕ) (x : X) (e : Y) → slice_get xs p ≡ Some x → get_or (map f xs) p e ≡ f x
read_mapped f [] p x e at = cc
read_mapped f (y ∷ xs) zero x e at = let this : y ≡ x = cc in ap f this
read_mapped f (y ∷ xs) (suc p) x e at = read_mapped f xs p x e at

-- a place of a list is one of what is made of it
pub place_made : {X Y : Type 0} (f : X → Y) (xs : List X) (ys : List Y) (len p : ℕ) → len ≡ length ys → ys ≡ map f xs → p < length xs → p < len
place_made f xs ys len p long made h = subst (λ n. p < n) (sym (long ∙ ap length made ∙ length-map xs f)) h

length_take : {X : Type 0} (n : ℕ) (xs : List X) → length (take n xs) ≤ n
length_take zero xs = omega arith
length_take (suc n) [] = omega arith
length_take (suc n) (x ∷ xs) = let h = length_take n xs in omega arith

less_within : (j k : ℕ) (t : Triple) → j ≤ k → IsWithin j t → IsWithin k t
less_within j k t h w = record { x_fits = at_most (w.x_fits); y_fits = at_most (w.y_fits); z_fits = at_most (w.z_fits) }
  where
    at_most : {n : ℕ} → n ≤ j → n ≤ k
    at_most l = omega arith

-- the label that stands beside a shift
pub label_at : (asked : Shifts) (labels : List ℕ) (sorted : IsStrictlySortedBy nat_cmp (map (λ s. s.v) asked)) (each : length labels ≡ length asked)
    (i l : ℕ) (s : ShiftOf) → i < length asked → s ≡ get_or asked i s → l ≡ get_or labels i l → l ≡ label_by asked labels s.v
label_at asked labels sorted each i l s h is read = label_found asked labels s.v i l s sorted each (slice_get_read asked (length asked) i s refl h is) refl read

module _ (m : Mesh) (asked : Shifts) (labels : List ℕ) (sorted : IsStrictlySortedBy nat_cmp (map (λ s. s.v) asked)) (each : length labels ≡ length asked) where
  abbrev at_labels : Labels
  at_labels = label_by asked labels

  -- the totals of the first i shifts
  abbrev so_far : ℕ → ShiftOf → Total
  so_far i x = total_of m at_labels x.v (take i asked)

  with_next : (i l : ℕ) (s : ShiftOf) → i < length asked → s ≡ get_or asked i s → l ≡ get_or labels i l → (x : ShiftOf) → changed l (so_far i) (λ t. with_one t s.by (is_solid m s.v)) x ≡ so_far (i + 1) x
  with_next i l s h is read x =
      ap (λ k. cond (k == x.v) (with_one (so_far i x) s.by (is_solid m s.v)) (so_far i x)) (label_at asked labels sorted each i l s h is read)
      ∙ sym (total_more m at_labels x.v asked i s h is)

  pub summed_more : (i l p : ℕ) (s x : ShiftOf) (t : Total) (totals after : List Total) → i < length asked → s ≡ get_or asked i s → l ≡ get_or labels i l → slice_get asked p ≡ Some x → find (λ u. u.v == l) asked ≡ Some x
      → t ≡ so_far i x → totals ≡ map (so_far i) asked → after ≡ slice_set totals p (with_one t s.by (is_solid m s.v)) → after ≡ map (so_far (i + 1)) asked
  summed_more i l p s x t totals after h is read at found is_t e set =
      set
      ∙ (λ j. slice_set (e j) p (with_one (is_t j) s.by (is_solid m s.v)))
      ∙ set_changed (so_far i) (λ u. with_one u s.by (is_solid m s.v)) l asked p x sorted at (found_named l asked x found)
      ∙ map_same (changed l (so_far i) (λ u. with_one u s.by (is_solid m s.v))) (so_far (i + 1)) asked (with_next i l s h is read)

  pub summed_none : (i l : ℕ) (s : ShiftOf) (totals : List Total) → i < length asked → s ≡ get_or asked i s → l ≡ get_or labels i l → find (λ u. u.v == l) asked ≡ None → totals ≡ map (so_far i) asked → totals ≡ map (so_far (i + 1)) asked
  summed_none i l s totals h is read none e =
      e ∙ none_changed (so_far i) (λ u. with_one u s.by (is_solid m s.v)) l asked none
      ∙ map_same (changed l (so_far i) (λ u. with_one u s.by (is_solid m s.v))) (so_far (i + 1)) asked (with_next i l s h is read)

  pub total_here : (i p : ℕ) (x : ShiftOf) (t : Total) (totals : List Total) → slice_get asked p ≡ Some x → totals ≡ map (so_far i) asked → t ≡ get_or totals p t → t ≡ so_far i x
  total_here i p x t totals at e is = is ∙ ap (λ l. get_or l p t) e ∙ read_mapped (so_far i) asked p x t at

  pub room_for_one : (i : ℕ) (x : ShiftOf) (t : Total) → i < length asked → length asked ≤ VERTICES_MAX → t ≡ so_far i x → t.count < VERTICES_MAX
  room_for_one i x t h few is =
      let same : t.count ≡ (so_far i x).count = ap (λ (u : Total). u.count) is in
      let counts = total_counts m at_labels x.v (take i asked) in
      let short = length_take i asked in
      omega arith

  pub room_for_sum : (i : ℕ) (x : ShiftOf) (t : Total) → i < length asked → length asked ≤ VERTICES_MAX → t ≡ so_far i x → IsWithin (VERTICES_MAX * SHIFT_MAX) t.sum
  room_for_sum i x t h few is =
      let less = room_for_one i x t h few is in
      less_within (t.count * SHIFT_MAX) (VERTICES_MAX * SHIFT_MAX) t.sum (omega arith) (subst FitsCount (sym is) (total_fits m at_labels x.v (take i asked))).sum
