-- In how many faces one vertex follows another, after a face is made or dropped.
use Rattle.std.proofs.Common.{◌≡◌, ℕ, ◌+◌, Bool, true, false, cond, not, nat_lt, ◌==◌, T, List, [], ◌∷◌, Option, Some, None, length, refl, sym, ap, ◌∙◌, arith}
use Rattle.std.specs.List.{filter}
use Rattle.std.specs.Ordering.{nat_cmp, is_eq, eq_by_cmp}
use Rattle.std.specs.declared.cmp.Ordering.TheVariants.{Less, Equal, Greater}
use Rattle.std.specs.Cmp.{nat_cmp_total, eq_by_cmp_equiv, alike_right, unsigned_tied}
use Rattle.std.specs.Map.{keys_of}
use Rattle.std.specs.FinMap as finite
use Rattle.std.specs.FinMap.{FinMap, same_map, nat_cmp-IsAntisymmetric, get-from_entries, get-remove, get-entries, entries-insert, entries_sorted}
use Rattle.std.specs.FinMap.Entries.{find, put, by_order, where_key, is_sorted, is_sorted-where_key, find-where_key, below_all}
use Rattle.std.proofs.lemmas.Bool.Decides.{nat_tests}
use Rattle.mesh_base.specs.declared.ids.Corners.{Corners}
use Rattle.mesh_base.specs.Mesh.{Mesh, HasCorners}
use Rattle.mesh_base.specs.Sides.{ids_where, follows, runs}
use Rattle.mesh_base.specs.Changes.{with_face, without_face}
use Rattle.std.proofs.lemmas.Map.Lookups.{exact_unsigned}
use Rattle.std.proofs.lemmas.Map.Views.{tells_apart}
use Rattle.mesh_base.proofs.Ordered.{entries-of_sorted}
use Rattle.mesh_base.proofs.WalkSteps.{both_of, less_true}

kept_first : (test : Corners → Bool) (e : ℕ × Corners) (es : List (ℕ × Corners)) → length (ids_where test (e ∷ es)) ≡ cond (test e.1) 1 0 + length (ids_where test es)
kept_first test e es = elim (test e.1) as (λ b. length (keys_of (cond b (e ∷ filter (λ x. test x.1) es) (filter (λ x. test x.1) es))) ≡ cond b 1 0 + length (keys_of (filter (λ x. test x.1) es))) [ true ↦ omega arith | false ↦ omega arith ]

-- a new key adds its corners
counted_put : (test : Corners → Bool) (k : ℕ) (v : Corners) (es : List (ℕ × Corners)) → find nat_cmp k es ≡ None → length (ids_where test (put nat_cmp k v es)) ≡ length (ids_where test es) + cond (test v) 1 0
counted_put test k v [] h = let one = kept_first test (k, v) [] in omega (arith, one)
counted_put test k v (e ∷ es) h =
    elim (nat_cmp k e.0) as (λ o. cond (is_eq o) (Some e.1) (find nat_cmp k es) ≡ None → length (ids_where test (by_order o ((k, v) ∷ e ∷ es) ((e.0, v) ∷ es) (e ∷ put nat_cmp k v es))) ≡ length (ids_where test (e ∷ es)) + cond (test v) 1 0) [
      | Less ↦ λ h. let one = kept_first test (k, v) (e ∷ es) in omega (arith, one)
      | Equal ↦ λ h. cc
      | Greater ↦ λ h. let rest = counted_put test k v es h in let one = kept_first test e (put nat_cmp k v es) in let was = kept_first test e es in omega (arith, rest, one, was)
    ] h

-- the entries of a map without a key
pub entries-remove : (m : FinMap nat_cmp Corners) (k : ℕ) → finite.entries (finite.remove m k) ≡ where_key nat_cmp (λ x. not (eq_by_cmp nat_cmp k x)) (finite.entries m)
entries-remove m k =
    let p : ℕ → Bool = λ x. not (eq_by_cmp nat_cmp k x) in
    let in_order : T (is_sorted nat_cmp (where_key nat_cmp p (finite.entries m))) = is_sorted-where_key nat_cmp p (finite.entries m) (entries_sorted m) in
    ap finite.entries (same_map nat_cmp_total nat_cmp-IsAntisymmetric (finite.remove m k) (finite.from_entries (where_key nat_cmp p (finite.entries m))) (λ q.
    get-remove nat_cmp_total m k q
    ∙ turned (eq_by_cmp nat_cmp q k) (finite.get m q)
    ∙ ap (λ b. cond (not b) (finite.get m q) None) (sym ((eq_by_cmp_equiv nat_cmp_total).symm k q))
    ∙ ap (λ o. cond (p q) o None) (get-entries m q)
    ∙ sym (find-where_key nat_cmp p q (λ x t. ap (λ r. not (is_eq r)) (sym (alike_right nat_cmp_total q x k t))) (finite.entries m))
    ∙ sym (get-from_entries nat_cmp_total (where_key nat_cmp p (finite.entries m)) q)))
    ∙ entries-of_sorted (where_key nat_cmp p (finite.entries m)) in_order
  where
    turned : {A : Type 0} (b : Bool) (x : Option A) → cond b None x ≡ cond (not b) x None
    turned true x = refl
    turned false x = refl

untied_above : (k j x : ℕ) → k ≡ j → nat_lt j x ≡ true → (k == x) ≡ false
untied_above k j x e h = grind (arith, nat_tests)

-- above a key no entry has it
kept_all : (k j : ℕ) (es : List (ℕ × Corners)) → k ≡ j → T (below_all nat_cmp j es) → where_key nat_cmp (λ x. not (eq_by_cmp nat_cmp k x)) es ≡ es
kept_all k j [] e h = refl
kept_all k j (x ∷ es) e h =
    let parts = both_of _ _ h in
    let apart : eq_by_cmp nat_cmp k x.0 ≡ false = unsigned_tied k x.0 ∙ untied_above k j x.0 e (less_true j x.0 parts.0) in
    ap (λ b. cond (not b) (x ∷ where_key nat_cmp (λ y. not (eq_by_cmp nat_cmp k y)) es) (where_key nat_cmp (λ y. not (eq_by_cmp nat_cmp k y)) es)) apart
    ∙ ap (λ ys. x ∷ ys) (kept_all k j es e parts.1)

-- a key that goes takes its corners with it
counted_where : (test : Corners → Bool) (k : ℕ) (v : Corners) (es : List (ℕ × Corners)) → T (is_sorted nat_cmp es) → find nat_cmp k es ≡ Some v
    → length (ids_where test (where_key nat_cmp (λ x. not (eq_by_cmp nat_cmp k x)) es)) + cond (test v) 1 0 ≡ length (ids_where test es)
counted_where test k v [] s h = cc
counted_where test k v (e ∷ es) s h =
    let parts = both_of _ _ s in
    elim (eq_by_cmp nat_cmp k e.0) as (λ b. eq_by_cmp nat_cmp k e.0 ≡ b → cond b (Some e.1) (find nat_cmp k es) ≡ Some v → length (ids_where test (cond (not b) (e ∷ where_key nat_cmp (λ x. not (eq_by_cmp nat_cmp k x)) es) (where_key nat_cmp (λ x. not (eq_by_cmp nat_cmp k x)) es))) + cond (test v) 1 0 ≡ length (ids_where test (e ∷ es))) [
      | true ↦ λ t h.
          let same : e.1 ≡ v = cc in
          let weight = ap {B = ℕ} (λ c. cond (test c) 1 0) same in
          let all = ap (λ ys. length (ids_where test ys)) (kept_all k e.0 es (tells_apart exact_unsigned k e.0 t) parts.0) in
          omega (arith, weight, all, kept_first test e es)
      | false ↦ λ t h.
          let rest = counted_where test k v es parts.1 h in
          omega (arith, rest, kept_first test e es, kept_first test e (where_key nat_cmp (λ x. not (eq_by_cmp nat_cmp k x)) es))
    ] refl h

-- a face that is made counts once where v follows u in it
pub runs-with_face : (m : Mesh) (c : Corners) (u v : ℕ) → finite.get m.faces m.next_face ≡ None → runs (with_face m c) u v ≡ runs m u v + cond (follows c u v) 1 0
runs-with_face m c u v new =
    ap (λ es. length (ids_where (λ x. follows x u v) es)) (entries-insert nat_cmp_total m.faces m.next_face c)
    ∙ counted_put (λ x. follows x u v) m.next_face c (finite.entries m.faces) (sym (get-entries m.faces m.next_face) ∙ new)

-- a face that is dropped counts no more
pub runs-without_face : (m : Mesh) (f : ℕ) (c : Corners) (u v : ℕ) → HasCorners m f c → runs (without_face m f) u v + cond (follows c u v) 1 0 ≡ runs m u v
runs-without_face m f c u v there =
    ap (λ es. length (ids_where (λ x. follows x u v) es) + cond (follows c u v) 1 0) (entries-remove m.faces f)
    ∙ counted_where (λ x. follows x u v) f c (finite.entries m.faces) (entries_sorted m.faces) (sym (get-entries m.faces f) ∙ there)
