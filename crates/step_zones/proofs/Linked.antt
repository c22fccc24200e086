-- Labels in a list are labels of vertices: what is made of the one is made of the other.
use Rattle.std.proofs.Common.{◌≡◌, ℕ, suc, ◌+◌, ◌==◌, ◌&&◌, ◌||◌, Bool, true, false, cond, nat_lt, List, [], ◌∷◌, map, length, Some, refl, sym, ap, ◌∙◌, arith}
use Rattle.std.specs.List.{filter, find, fold, list_any, AllByRecursion}
use Rattle.std.specs.List.Sorted.{IsStrictlySortedBy}
use Rattle.std.specs.Ordering.{nat_cmp}
use Rattle.std.specs.declared.cmp.Ordering.TheVariants.{Less}
use Rattle.std.specs.Option.{option_map, unwrap_or}
use Rattle.std.proofs.lemmas.Bool.{false≢true, eqb-true}
use Rattle.std.proofs.lemmas.Bool.Decides.{nat_tests}
use Rattle.std.proofs.lemmas.Map.Keys.{sorted_head, sorted_tail}
use Rattle.grid_base.specs.Triples.{plus}
use Rattle.grid_base.specs.Points.{displacement_of, shift_by}
use Rattle.mesh_base.specs.declared.steps.ShiftOf.{ShiftOf}
use Rattle.mesh_base.specs.declared.ids.PairName.{PairName}
use Rattle.mesh_base.specs.Mesh.{Mesh, is_solid}
use Rattle.mesh_base.specs.Pairs.{Pair, five_ids}
use Rattle.mesh_base.specs.Placements.{origin}
use Rattle.mesh_base.specs.Shifts.{Shifts, NameLive, shift_at}
use Rattle.mesh_base.proofs.Tests.{or_first, or_second}
use Rattle.pair_scan.specs.Named.{pair_named, pairs_named}
use Rattle.step_zones.specs.declared.totals.Total.{Total}
use Rattle.step_zones.specs.Chains.{is_one_of}
use Rattle.step_zones.specs.Zones.{Labels, joined, block_at, blocks, divided, zone_shift, zone_shifts}
use Rattle.step_zones.specs.Ranks.{label_by, relabelled, joined_in, joined_all}
use Rattle.step_zones.specs.Totals.{no_total, with_one, total_of, total_by, labelled_shift, labelled_shifts, labelled_blocks}
use Rattle.step_zones.proofs.Labelled.{each_is, itself}

abbrev ids_of : Shifts → List ℕ
ids_of xs = map (λ s. s.v) xs

-- the labels of vertices, in a list
abbrev pub listed : Labels → Shifts → List ℕ
listed at xs = map (λ s. at s.v) xs

-- ---- a label that is looked up
pub label_listed : (at : Labels) (xs : Shifts) (v : ℕ) → is_one_of (ids_of xs) v ≡ true → label_by xs (listed at xs) v ≡ at v
label_listed at [] v is = absurd (false≢true is)
label_listed at (s ∷ rest) v is = by_test (s.v == v) refl is (label_listed at rest v)
  where
    by_test : (b : Bool) → (s.v == v) ≡ b → (b || is_one_of (ids_of rest) v) ≡ true → (is_one_of (ids_of rest) v ≡ true → label_by rest (listed at rest) v ≡ at v) → cond b (at s.v) (label_by rest (listed at rest) v) ≡ at v
    by_test true e is later = ap at (eqb-true s.v v e)
    by_test false e is later = later is

-- ---- pairs that join
map_again : {X Y Z : Type 0} (f : Y → Z) (g : X → Y) (xs : List X) → map f (map g xs) ≡ map (λ x. f (g x)) xs
map_again f g [] = refl
map_again f g (x ∷ xs) = ap (λ l. f (g x) ∷ l) (map_again f g xs)

-- the five of a pair are named
abbrev pub AreNamedFive : Shifts → Pair → Type 0
AreNamedFive asked p = AllByRecursion (λ u. is_one_of (ids_of asked) u ≡ true) (five_ids p)

labels_of_five : (at : Labels) (asked : Shifts) (us : List ℕ) → AllByRecursion (λ u. is_one_of (ids_of asked) u ≡ true) us → map (label_by asked (listed at asked)) us ≡ map at us
labels_of_five at asked [] h = refl
labels_of_five at asked (u ∷ us) h = λ i. label_listed at asked u h.0 i ∷ labels_of_five at asked us h.1 i

joined_listed : (at : Labels) (asked : Shifts) (p : Pair) → AreNamedFive asked p → joined_in asked (listed at asked) (five_ids p) ≡ listed (joined at p) asked
joined_listed at asked p named =
    ap (λ ls. map (relabelled ls) (listed at asked)) (labels_of_five at asked (five_ids p) named)
    ∙ map_again (relabelled (map at (five_ids p))) (λ (s : ShiftOf). at s.v) asked

pub all_joined_listed : (m : Mesh) (at : Labels) (asked : Shifts) (names : List PairName) → AllByRecursion (AreNamedFive asked) (pairs_named m names) → joined_all m asked (listed at asked) names ≡ listed (fold joined at (pairs_named m names)) asked
all_joined_listed m at asked [] h = refl
all_joined_listed m at asked (n ∷ names) h =
    ap (λ ls. joined_all m asked ls names) (joined_listed at asked (pair_named m n) h.0)
    ∙ all_joined_listed m (joined at (pair_named m n)) asked names h.1

-- ---- what is asked of a vertex that is named
later_not : (k y : ℕ) → nat_cmp k y ≡ Less → (k == y) ≡ false
later_not k y h = grind (arith, nat_tests)

each_own : (xs : Shifts) → IsStrictlySortedBy nat_cmp (ids_of xs) → AllByRecursion (λ s. find (λ t. t.v == s.v) xs ≡ Some s) xs
each_own [] sorted = tt
each_own (s ∷ rest) sorted = (
  ap (λ b. cond b (Some s) (find (λ t. t.v == s.v) rest)) (itself s.v),
  after rest (sorted_head nat_cmp s.v (ids_of rest) sorted) (each_own rest (sorted_tail nat_cmp s.v (ids_of rest) sorted)),
)
  where
    after : (ys : Shifts) → AllByRecursion (λ y. nat_cmp s.v y ≡ Less) (ids_of ys) → AllByRecursion (λ t. find (λ u. u.v == t.v) rest ≡ Some t) ys → AllByRecursion (λ t. find (λ u. u.v == t.v) (s ∷ rest) ≡ Some t) ys
    after [] h all = tt
    after (y ∷ ys) h all = (ap (λ b. cond b (Some s) (find (λ u. u.v == y.v) rest)) (later_not s.v y.v h.0) ∙ all.0, after ys h.1 all.1)

-- ---- totals
abbrev step : Mesh → Labels → ℕ → Total → ShiftOf → Total
step m at l t s = cond (at s.v == l) (with_one t s.by (is_solid m s.v)) t

-- the total with all of a block
abbrev with_block : Mesh → Shifts → Total → List ℕ → Total
with_block m asked t block = record {
  count = t.count + length block;
  sum = fold (λ sum v. plus sum (shift_at asked v)) t.sum block;
  solid = t.solid || list_any (is_solid m) block;
}

module _ (m : Mesh) (asked : Shifts) (at : Labels) (l : ℕ) where
  summed : (xs : Shifts) (t : Total) → AllByRecursion (λ s. find (λ u. u.v == s.v) asked ≡ Some s) xs → fold (step m at l) t xs ≡ with_block m asked t (filter (λ u. at u == l) (ids_of xs))
  summed [] t own = λ i. record { count = none t.count i; sum = t.sum; solid = or_none t.solid i }
    where
      none : (n : ℕ) → n ≡ n + 0
      none n = omega arith

      or_none : (b : Bool) → b ≡ (b || false)
      or_none true = refl
      or_none false = refl
  summed (s ∷ rest) t own = by_test (at s.v == l) (λ u. summed rest u own.1)
    where
      asked_own : displacement_of s.by ≡ shift_at asked s.v
      asked_own = sym (ap (λ o. unwrap_or (option_map (λ u. displacement_of u.by) o) origin) own.0)

      one_up : (n k : ℕ) → n + 1 + k ≡ n + suc k
      one_up n k = omega arith

      or_again : (a b c : Bool) → ((a || b) || c) ≡ (a || (b || c))
      or_again true b c = refl
      or_again false b c = refl

      by_test : (b : Bool) → ((u : Total) → fold (step m at l) u rest ≡ with_block m asked u (filter (λ v. at v == l) (ids_of rest)))
          → fold (step m at l) (cond b (with_one t s.by (is_solid m s.v)) t) rest ≡ with_block m asked t (cond b (s.v ∷ filter (λ v. at v == l) (ids_of rest)) (filter (λ v. at v == l) (ids_of rest)))
      by_test true later =
          let others : List ℕ = filter (λ v. at v == l) (ids_of rest) in
          later (with_one t s.by (is_solid m s.v))
          ∙ (λ i. record {
            count = one_up t.count (length others) i;
            sum = fold (λ sum v. plus sum (shift_at asked v)) (plus t.sum (asked_own i)) others;
            solid = or_again t.solid (is_solid m s.v) (list_any (is_solid m) others) i;
          })
      by_test false later = later t

  zero_up : (n : ℕ) → 0 + n ≡ n
  zero_up n = omega arith

  -- the total of a block
  pub total_is : IsStrictlySortedBy nat_cmp (ids_of asked) → total_of m at l asked ≡ with_block m asked no_total (filter (λ u. at u == l) (ids_of asked))
  total_is sorted = summed asked no_total (each_own asked sorted)

-- totals by labels that agree
total_alike : (m : Mesh) (at at' : Labels) (l : ℕ) (xs : Shifts) (t : Total) → AllByRecursion (λ s. at s.v ≡ at' s.v) xs → fold (step m at l) t xs ≡ fold (step m at' l) t xs
total_alike m at at' l [] t h = refl
total_alike m at at' l (s ∷ rest) t h =
    ap (λ k. fold (step m at l) (cond (k == l) (with_one t s.by (is_solid m s.v)) t) rest) h.0 ∙ total_alike m at at' l rest (step m at' l t s) h.1

-- ---- a round whose labels stand in a list
module _ (m : Mesh) (asked : Shifts) (at : Labels) (named : NameLive m asked) (sorted : IsStrictlySortedBy nat_cmp (ids_of asked)) where
  abbrev by_list : Labels
  by_list = label_by asked (listed at asked)

  alike : (v : ℕ) → is_one_of (ids_of asked) v ≡ true → by_list v ≡ at v
  alike v is = label_listed at asked v is

  all_alike : AllByRecursion (λ s. by_list s.v ≡ at s.v) asked
  all_alike = each asked (λ v is. is)
    where
      each : (xs : Shifts) → ((v : ℕ) → is_one_of (ids_of xs) v ≡ true → is_one_of (ids_of asked) v ≡ true) → AllByRecursion (λ s. by_list s.v ≡ at s.v) xs
      each [] h = tt
      each (s ∷ rest) h = (alike s.v (h s.v (or_first (s.v == s.v) (is_one_of (ids_of rest) s.v) (itself s.v))), each rest (λ v is. h v (or_second (s.v == v) (is_one_of (ids_of rest) v) is)))

  block_listed : (l : ℕ) → filter (λ u. at u == l) (ids_of asked) ≡ block_at m at l
  block_listed l = ap (filter (λ u. at u == l)) named

  -- the total of a block
  total_listed : (l : ℕ) → total_of m by_list l asked ≡ with_block m asked no_total (block_at m at l)
  total_listed l = total_alike m by_list at l asked no_total all_alike ∙ total_is m asked at l sorted ∙ ap (with_block m asked no_total) (block_listed l)

  zero_more : (n : ℕ) → 0 + n ≡ n
  zero_more n = omega arith

  -- what a vertex moves by, from the total of its block
  moved_listed : (s : ShiftOf) → by_list s.v ≡ at s.v → labelled_shift m asked by_list s ≡ zone_shift m asked at s
  moved_listed s same =
      let block : List ℕ = block_at m at (at s.v) in
      ap (λ l. record s { by = total_by (total_of m by_list l asked) s.by }) same
      ∙ ap (λ (t : Total). record s { by = total_by t s.by }) (total_listed (at s.v))
      ∙ ap (λ n. record s { by = cond (nat_lt 1 n) (shift_by (cond (list_any (is_solid m) block) origin (divided (fold (λ sum v. plus sum (shift_at asked v)) origin block) n))) s.by }) (zero_more (length block))

  pub shifts_listed : labelled_shifts m asked (listed at asked) ≡ zone_shifts m asked at
  shifts_listed = each asked all_alike
    where
      each : (xs : Shifts) → AllByRecursion (λ s. by_list s.v ≡ at s.v) xs → map (labelled_shift m asked by_list) xs ≡ map (zone_shift m asked at) xs
      each [] h = refl
      each (s ∷ rest) h = λ i. moved_listed s h.0 i ∷ each rest h.1 i

  -- ---- its blocks
  filter_alike : (p q : ℕ → Bool) (xs : List ℕ) → AllByRecursion (λ v. p v ≡ q v) xs → filter p xs ≡ filter q xs
  filter_alike p q [] h = refl
  filter_alike p q (x ∷ xs) h = ap (λ b. cond b (x ∷ filter p xs) (filter p xs)) h.0 ∙ ap (λ l. cond (q x) (x ∷ l) l) (filter_alike p q xs h.1)

  on_ids : (P : ℕ → Type 0) → ((v : ℕ) → is_one_of (ids_of asked) v ≡ true → P v) → AllByRecursion P (ids_of asked)
  on_ids P h = each (ids_of asked) (each_is (ids_of asked))
    where
      each : (xs : List ℕ) → AllByRecursion (λ v. is_one_of (ids_of asked) v ≡ true) xs → AllByRecursion P xs
      each [] all = tt
      each (x ∷ xs) all = (h x all.0, each xs all.1)

  block_by_list : (l : ℕ) → filter (λ u. by_list u == l) (ids_of asked) ≡ block_at m at l
  block_by_list l = filter_alike (λ u. by_list u == l) (λ u. at u == l) (ids_of asked) (on_ids (λ u. (by_list u == l) ≡ (at u == l)) (λ u is. ap (λ k. k == l) (alike u is))) ∙ block_listed l

  head_by_list : (v : ℕ) → is_one_of (ids_of asked) v ≡ true → ((by_list v == v) && nat_lt 1 (total_of m by_list v asked).count) ≡ ((at v == v) && nat_lt 1 (length (block_at m at v)))
  head_by_list v is = λ i. (alike v is i == v) && nat_lt 1 ((ap (λ (t : Total). t.count) (total_listed v) ∙ zero_more (length (block_at m at v))) i)

  pub blocks_listed : labelled_blocks m asked (listed at asked) ≡ blocks m at
  blocks_listed =
      map_alike (filter (λ v. (by_list v == v) && nat_lt 1 (total_of m by_list v asked).count) (ids_of asked))
      ∙ ap (map (block_at m at)) (filter_alike (λ v. (by_list v == v) && nat_lt 1 (total_of m by_list v asked).count) (λ v. (at v == v) && nat_lt 1 (length (block_at m at v))) (ids_of asked)
      (on_ids (λ v. ((by_list v == v) && nat_lt 1 (total_of m by_list v asked).count) ≡ ((at v == v) && nat_lt 1 (length (block_at m at v)))) head_by_list)
      ∙ ap (filter (λ v. (at v == v) && nat_lt 1 (length (block_at m at v)))) named)
    where
      map_alike : (vs : List ℕ) → map (λ v. filter (λ u. by_list u == v) (ids_of asked)) vs ≡ map (block_at m at) vs
      map_alike [] = refl
      map_alike (v ∷ vs) = λ i. block_by_list v i ∷ map_alike vs i
