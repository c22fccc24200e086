-- From the entries of an ordered map at number keys to the finite map that they make.
use Rattle.std.proofs.Common.{◌≡◌, ℕ, Bool, true, false, cond, List, [], ◌∷◌, Some, None, length, refl, sym, ap, subst, ◌∙◌, arith, T, ◌≤◌, suc, ◌&&◌, nat_lt, ◌==◌}
use Rattle.std.specs.Ordering.{nat_cmp, is_lt}
use Rattle.std.specs.declared.cmp.Ordering.TheVariants.{Less, Equal, Greater}
use Rattle.std.specs.declared.ops.Bound.TheVariants.{Excluded, Unbounded}
use Rattle.std.specs.Cmp.{nat_cmp_total, eq_by_cmp_equiv}
use Rattle.std.specs.List.{AllByRecursion, filter}
use Rattle.std.specs.List.Sorted.{IsStrictlySortedBy}
use Rattle.std.specs.Map.{lookup, keys_of}
use Rattle.std.specs.BTreeMap.{is_at}
use Rattle.std.specs.BTreeMap.Range.{range_contains, entries_between}
use Rattle.mesh_base.specs.Sides.{above, ids_where, follows, runs}
use Rattle.mesh_base.specs.Mesh.{Mesh}
use Rattle.mesh_base.specs.declared.ids.Corners.{Corners}
use Rattle.std.specs.FinMap as map
use Rattle.std.specs.FinMap.{nat_cmp-IsAntisymmetric, same_map, get-from_entries, get-insert, get-remove, get-from_sorted, entries-from_sorted, len-entries}
use Rattle.std.specs.FinMap.Entries.{find, is_sorted, below_all}
use Rattle.std.proofs.lemmas.Map.Keys.{sorted_head, sorted_tail}

find_is_lookup : {X : Type 0} (es : List (ℕ × X)) (q : ℕ) → find nat_cmp q es ≡ lookup (is_at (nat_cmp q)) es
find_is_lookup [] q = refl
find_is_lookup (e ∷ es) q = ap (cond (is_at (nat_cmp q) e.0) (Some e.1)) (find_is_lookup es q)

-- what the map that the entries make has at a key
pub get_made : {X : Type 0} (es : List (ℕ × X)) (q : ℕ) → map.get (map.from_entries {R = nat_cmp} es) q ≡ lookup (is_at (nat_cmp q)) es
get_made es q = get-from_entries nat_cmp_total es q ∙ find_is_lookup es q

-- entries that differ at one key, by a value, make maps that differ so
pub made_inserted : {X : Type 0} (es fs : List (ℕ × X)) (k : ℕ) (v : X)
    → ((q : ℕ) → lookup (is_at (nat_cmp q)) fs ≡ cond (is_at (nat_cmp k) q) (Some v) (lookup (is_at (nat_cmp q)) es))
    → map.from_entries {R = nat_cmp} fs ≡ map.insert (map.from_entries es) k v
made_inserted es fs k v h = same_map nat_cmp_total nat_cmp-IsAntisymmetric _ _ (λ q.
    get_made fs q ∙ h q ∙ ap (λ b. cond b (Some v) (lookup (is_at (nat_cmp q)) es)) ((eq_by_cmp_equiv nat_cmp_total).symm k q)
    ∙ sym (get-insert nat_cmp_total (map.from_entries es) k v q ∙ ap (cond (is_at (nat_cmp q) k) (Some v)) (get_made es q)))

-- entries of which one key is gone make the map without it
pub made_removed : {X : Type 0} (es fs : List (ℕ × X)) (k : ℕ)
    → ((q : ℕ) → lookup (is_at (nat_cmp q)) fs ≡ cond (is_at (nat_cmp k) q) None (lookup (is_at (nat_cmp q)) es))
    → map.from_entries {R = nat_cmp} fs ≡ map.remove (map.from_entries es) k
made_removed es fs k h = same_map nat_cmp_total nat_cmp-IsAntisymmetric _ _ (λ q.
    get_made fs q ∙ h q ∙ ap (λ b. cond b None (lookup (is_at (nat_cmp q)) es)) ((eq_by_cmp_equiv nat_cmp_total).symm k q)
    ∙ sym (get-remove nat_cmp_total (map.from_entries es) k q ∙ ap (cond (is_at (nat_cmp q) k) None) (get_made es q)))

both_true : (a b : Bool) → T a → T b → T (a && b)
both_true true b p q = q
both_true false b p q = p

below_all_made : {X : Type 0} (k : ℕ) (es : List (ℕ × X)) → AllByRecursion (λ y. nat_cmp k y ≡ Less) (keys_of es) → T (below_all nat_cmp k es)
below_all_made k [] h = tt
below_all_made k (e ∷ es) h = both_true _ _ (subst (λ o. T (is_lt o)) (sym h.0) tt) (below_all_made k es h.1)

sorted_made : {X : Type 0} (es : List (ℕ × X)) → IsStrictlySortedBy nat_cmp (keys_of es) → T (is_sorted nat_cmp es)
sorted_made [] h = tt
sorted_made (e ∷ es) h = both_true _ _ (below_all_made e.0 es (sorted_head nat_cmp e.0 (keys_of es) h)) (sorted_made es (sorted_tail nat_cmp e.0 (keys_of es) h))

-- entries in order are those of the map that they make
pub entries-of_sorted : {X : Type 0} (es : List (ℕ × X)) → T (is_sorted nat_cmp es) → map.entries (map.from_entries {R = nat_cmp} es) ≡ es
entries-of_sorted es in_order =
    ap map.entries (same_map nat_cmp_total nat_cmp-IsAntisymmetric (map.from_entries es) (map.from_sorted {R = nat_cmp} es) (λ q. get-from_entries nat_cmp_total es q ∙ sym (get-from_sorted nat_cmp es q in_order)))
    ∙ entries-from_sorted nat_cmp es in_order

-- the entries of an ordered map are those of the map that they make
pub entries-made : {X : Type 0} (es : List (ℕ × X)) → IsStrictlySortedBy nat_cmp (keys_of es) → map.entries (map.from_entries {R = nat_cmp} es) ≡ es
entries-made es h = entries-of_sorted es (sorted_made es h)

pub len-made : {X : Type 0} (es : List (ℕ × X)) → IsStrictlySortedBy nat_cmp (keys_of es) → map.len (map.from_entries {R = nat_cmp} es) ≡ length es
len-made es h = len-entries _ ∙ ap length (entries-made es h)

lt_is_cmp : (v k : ℕ) → nat_lt v k ≡ range_contains nat_cmp (Excluded v) Unbounded k
lt_is_cmp v k = elim (nat_lt v k) as (λ b. b ≡ is_lt (cond b Less (cond (v == k) Equal Greater)) && true) [
  | true ↦ refl
  | false ↦ elim (v == k) as (λ b. false ≡ is_lt (cond b Equal Greater) && true) [ true ↦ refl | false ↦ refl ]
]

above_keys : {X : Type 0} (v : ℕ) (es : List (ℕ × X)) → above v (keys_of es) ≡ keys_of (entries_between nat_cmp (Excluded v) Unbounded es)
above_keys v [] = refl
above_keys v (e ∷ es) =
    ap (λ b. cond b (e.0 ∷ above v (keys_of es)) (above v (keys_of es))) (lt_is_cmp v e.0)
    ∙ elim (range_contains nat_cmp (Excluded v) Unbounded e.0) as (λ b. cond b (e.0 ∷ above v (keys_of es)) (above v (keys_of es)) ≡ keys_of (cond b (e ∷ entries_between nat_cmp (Excluded v) Unbounded es) (entries_between nat_cmp (Excluded v) Unbounded es))) [
      | true ↦ ap (λ ks. e.0 ∷ ks) (above_keys v es)
      | false ↦ above_keys v es
    ]

-- the keys above a number are those of the range that leaves it out
pub above-made : {X : Type 0} (v : ℕ) (es : List (ℕ × X)) → IsStrictlySortedBy nat_cmp (keys_of es) → above v (map.keys (map.from_entries {R = nat_cmp} es)) ≡ keys_of (entries_between nat_cmp (Excluded v) Unbounded es)
above-made v es h = ap (λ fs. above v (keys_of fs)) (entries-made es h) ∙ above_keys v es

-- entries kept by a test of their values are no more than all
pub length-ids_where : (test : Corners → Bool) (es : List (ℕ × Corners)) → length (ids_where test es) ≤ length es
length-ids_where test [] = omega arith
length-ids_where test (e ∷ es) =
    let rest : length (ids_where test es) ≤ length es = length-ids_where test es in
    elim (test e.1) as (λ b. length (keys_of (cond b (e ∷ filter (λ x. test x.1) es) (filter (λ x. test x.1) es))) ≤ suc (length es)) [
      | true ↦ omega arith
      | false ↦ omega arith
    ]

-- no more faces run from u to v than there are
pub runs-le : (m : Mesh) (u v : ℕ) → runs m u v ≤ map.len m.faces
runs-le m u v = let e = length-ids_where (λ c. follows c u v) (map.entries m.faces) in omega (arith, e, len-entries m.faces)
