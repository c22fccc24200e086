-- The pairs that need an entry along the edges are all; and their list has exactly these, in order.
use Rattle.std.proofs.Common.{◌≡◌, Bool, true, false, not, refl, sym, ◌∙◌}
use Rattle.std.specs.List.{filter, Contains}
use Rattle.std.specs.List.Sorted.{IsStrictlySortedBy}
use Rattle.std.proofs.lemmas.Bool.{false≢true}
use Rattle.std.proofs.lemmas.List.Elements.{All-from_recursion, recursion_from_All, All-contains_itself, All-contains}
use Rattle.std.proofs.lemmas.List.Kept.{IsStrictlySortedBy-filter}
use Rattle.mesh_base.specs.declared.ids.PairName.{PairName}
use Rattle.mesh_base.specs.Mesh.{Mesh, IsSound}
use Rattle.mesh_base.specs.Pairs.{Pair, IsPair, edges, pairs, name_cmp}
use Rattle.mesh_base.specs.Placements.{Motion, positions}
use Rattle.mesh_base.proofs.Listed.{listed, all_map, all_filter}
use Rattle.mesh_base.proofs.ListedPairs.{listed_pairs, all_mapped, all_filtered, all_weaker}
use Rattle.mesh_base.proofs.InOrder.{by_name, pairs_sorted, sorted_mapped}
use Rattle.pair_paths.specs.Moving.{moving_faces}
use Rattle.pair_paths.specs.Pairing.{name_with}
use Rattle.pair_candidates.proofs.OfPairs.{told_pairs}
use Rattle.motion_proof.specs.Needs.{NeedsNone, needs_none, needs_entry, needing_along, pair_needs, needing, IsNeeding, AreNeeding}
use Rattle.motion_proof.proofs.Decided.{NeedsNone-of, of-NeedsNone}

-- ---- what is told of a mesh
pub along_edges : (m : Mesh) (w : Motion) → needing_along w (moving_faces m w) (edges m) ≡ needing m w
along_edges m w = told_pairs needs_entry name_with w (pair_needs w) (λ p. p.name) (λ a b f. refl) (λ a b f. refl) m

-- ---- which they are
module _ (m : Mesh) (w : Motion) where
  needing_so : (p : Pair) → pair_needs w p ≡ true → ¬ (NeedsNone (positions w.start p) (positions w.end p))
  needing_so p off none = by_test (needs_none (positions w.start p) (positions w.end p)) off (of-NeedsNone (positions w.start p) (positions w.end p) none)
    where
      by_test : (b : Bool) → not b ≡ true → b ≡ true → ⊥
      by_test true off e = false≢true off
      by_test false off e = false≢true e

  so_needing : (p : Pair) → ¬ (NeedsNone (positions w.start p) (positions w.end p)) → pair_needs w p ≡ true
  so_needing p never = by_test (needs_none (positions w.start p) (positions w.end p)) refl
    where
      by_test : (b : Bool) → needs_none (positions w.start p) (positions w.end p) ≡ b → not b ≡ true
      by_test true e = absurd (never (NeedsNone-of (positions w.start p) (positions w.end p) e))
      by_test false e = refl

  pub are_needing : IsSound m → AreNeeding m w (needing m w)
  are_needing sound = record { each = λ n. (from_list n, into_list n); rising = in_order }
    where
      from_list : (n : PairName) → Contains (needing m w) n → IsNeeding m w n
      from_list n = All-contains (IsNeeding m w) (needing m w) n (All-from_recursion (IsNeeding m w) (needing m w)
          (all_mapped (IsNeeding m w) (λ p. p.name) (filter (pair_needs w) (pairs m))
          (all_filtered (λ p. IsNeeding m w p.name) (pair_needs w) (pairs m)
          (all_weaker (IsPair m) (λ p. pair_needs w p ≡ true → IsNeeding m w p.name) (pairs m)
          (λ p is off. (p.corners, is, needing_so p off)) (listed_pairs m)))))

      into_list : (n : PairName) → IsNeeding m w n → Contains (needing m w) n
      into_list n is = listed m (λ p. pair_needs w p ≡ true → Contains (needing m w) p.name) sound
          (all_filter (λ p. Contains (needing m w) p.name) (pair_needs w) (pairs m)
          (all_map (Contains (needing m w)) (λ p. p.name) (filter (pair_needs w) (pairs m))
          (recursion_from_All (Contains (needing m w)) (needing m w) (All-contains_itself (needing m w)))))
          (record { name = n; corners = is.0 }) is.1 (so_needing (record { name = n; corners = is.0 }) is.2)

      in_order : IsStrictlySortedBy name_cmp (needing m w)
      in_order = sorted_mapped by_name name_cmp (λ p. p.name) (filter (pair_needs w) (pairs m)) (λ p q less. less)
          (IsStrictlySortedBy-filter by_name (pair_needs w) (pairs m) (pairs_sorted m))

  -- a pair needs none, or is in the list
  pub none_or_listed : IsSound m → {Q : Type 0} (p : Pair) → IsPair m p → (NeedsNone (positions w.start p) (positions w.end p) → Q) → (Contains (needing m w) p.name → Q) → Q
  none_or_listed sound {Q} p pair none in_list = by_test (needs_none (positions w.start p) (positions w.end p)) refl
    where
      by_test : (b : Bool) → needs_none (positions w.start p) (positions w.end p) ≡ b → Q
      by_test true e = none (NeedsNone-of (positions w.start p) (positions w.end p) e)
      by_test false e = in_list (((are_needing sound).each p.name).1 (p.corners, pair, λ h. false≢true (sym e ∙ of-NeedsNone (positions w.start p) (positions w.end p) h)))
