-- The blocks of a sound mesh are in the log's ranges.
use Rattle.std.proofs.Common.{◌≡◌, ℕ, ◌+◌, ◌≤◌, ◌==◌, ◌&&◌, Bool, true, false, cond, List, [], ◌∷◌, length, nat_lt, arith}
use Rattle.std.specs.List.{AllByRecursion, filter}
use Rattle.std.specs.List.Sorted.{IsStrictlySortedBy}
use Rattle.std.specs.Ordering.{nat_cmp}
use Rattle.std.proofs.Common.{Less}
use Rattle.std.specs.FinMap as finite
use Rattle.std.specs.FinMap.{entries_sorted}
use Rattle.std.proofs.lemmas.Bool.Decides.{nat_tests}
use Rattle.std.proofs.lemmas.List.Elements.{All-from_recursion}
use Rattle.mesh_base.specs.Mesh.{Mesh, IsSound, IsLiveVertex}
use Rattle.mesh_base.proofs.InOrder.{keys_sorted}
use Rattle.mesh_base.proofs.ListedPairs.{all_mapped, all_filtered, all_weaker}
use Rattle.mesh_base.proofs.Moves.{both_true}
use Rattle.step_zones.specs.Zones.{Labels, block_at, heads, blocks}
use Rattle.log_read.specs.Laws.{AreRising}
use Rattle.run_laws.specs.Names.{IsId, IsBlockInRange, BlocksAreInRange}
use Rattle.run_laws.proofs.Names.{vertices_in_range, live_keys}

pub above : (a b : ℕ) → nat_cmp a b ≡ Less → a + 1 ≤ b
above a b h = grind (arith, nat_tests)

some_two : (n : ℕ) → nat_lt 1 n ≡ true → 2 ≤ n
some_two n h = grind (arith, nat_tests)

-- what holds of each number holds of those of a list
pub all_of : {X : Type 0} (P : X → Type 0) (xs : List X) → ((x : X) → P x) → AllByRecursion P xs
all_of P [] each = tt
all_of P (x ∷ xs) each = (each x, all_of P xs each)

-- the live vertices, rising
pub keys_rising : (m : Mesh) → IsStrictlySortedBy nat_cmp (finite.keys m.points)
keys_rising m = keys_sorted (finite.entries m.points) (entries_sorted m.points)

-- those of rising ids that pass a test rise
rising_from : (test : ℕ → Bool) (low : ℕ) (xs : List ℕ) → IsStrictlySortedBy nat_cmp xs → AllByRecursion IsId xs → AllByRecursion (λ v. low ≤ v) xs → AreRising low (filter test xs)
unfolding IsStrictlySortedBy
rising_from test low [] sorted ids least = tt
rising_from test low (x ∷ xs) sorted ids least =
    by_test (test x)
    (rising_from test (x + 1) xs sorted.1 ids.1 (all_weaker (λ y. nat_cmp x y ≡ Less) (λ y. x + 1 ≤ y) xs (above x) sorted.0))
    (rising_from test low xs sorted.1 ids.1 least.1)
  where
    by_test : (b : Bool) → AreRising (x + 1) (filter test xs) → AreRising low (filter test xs) → AreRising low (cond b (x ∷ filter test xs) (filter test xs))
    by_test true after same = ((least.0, ids.0.1), after)
    by_test false after same = same

ids_in_range : (m : Mesh) → IsSound m → AllByRecursion IsId (finite.keys m.points)
ids_in_range m sound = all_weaker (IsLiveVertex m) IsId (finite.keys m.points) (vertices_in_range m sound) (live_keys m)

block_rising : (m : Mesh) (at : Labels) (l : ℕ) → IsSound m → AreRising 1 (block_at m at l)
block_rising m at l sound =
    let ids = ids_in_range m sound in
    rising_from (λ u. at u == l) 1 (finite.keys m.points) (keys_rising m) ids (all_weaker IsId (λ v. 1 ≤ v) (finite.keys m.points) (λ v id. id.0) ids)

pub blocks_in_range : BlocksAreInRange
blocks_in_range m at sound =
    All-from_recursion IsBlockInRange (blocks m at)
    (all_mapped IsBlockInRange (block_at m at) (heads m at)
    (all_filtered (λ v. IsBlockInRange (block_at m at v)) (λ v. (at v == v) && nat_lt 1 (length (block_at m at v))) (finite.keys m.points)
    (all_of (λ v. ((at v == v) && nat_lt 1 (length (block_at m at v))) ≡ true → IsBlockInRange (block_at m at v)) (finite.keys m.points) (λ v h. head_in_range v h))))
  where
    head_in_range : (v : ℕ) → ((at v == v) && nat_lt 1 (length (block_at m at v))) ≡ true → IsBlockInRange (block_at m at v)
    head_in_range v h = (some_two (length (block_at m at v)) (both_true (at v == v) (nat_lt 1 (length (block_at m at v))) h).1, block_rising m at v sound)
