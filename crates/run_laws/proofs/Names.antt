-- What a sound mesh names is in the log's ranges.
use Rattle.std.proofs.Common.{◌≡◌, ℕ, ◌+◌, ◌<◌, ◌≤◌, Bool, true, Option, Some, None, is_some, refl, ap, ◌∙◌, arith}
use Rattle.std.specs.Prelude.{IfSome, not}
use Rattle.std.specs.List.{AllByRecursion, find}
use Rattle.std.specs.Option.{option_map}
use Rattle.std.specs.Ordering.{nat_cmp}
use Rattle.std.specs.FinMap as finite
use Rattle.std.specs.FinMap.{entries_sorted, get-entries}
use Rattle.std.specs.FinMap.Entries as entries
use Rattle.std.proofs.lemmas.List.Elements.{All-from_recursion}
use Rattle.grid_base.specs.declared.TheConstants.{ID_MAX}
use Rattle.mesh_base.specs.Mesh.{Mesh, IsSound, IsLiveVertex}
use Rattle.mesh_base.specs.Pairs.{Pair, IsPair, pairs}
use Rattle.mesh_base.specs.Placements.{positions}
use Rattle.mesh_base.specs.Shifts.{moved_by}
use Rattle.mesh_base.specs.Failing.{pair_passes, failing}
use Rattle.mesh_base.proofs.Listed.{edge_live, each_found}
use Rattle.mesh_base.proofs.ListedPairs.{all_mapped, all_filtered, all_weaker, listed_pairs}
use Rattle.edit_acts.proofs.Found.{found_both}
use Rattle.log_read.specs.Laws.{IsEdgeInRange, IsPairInRange}
use Rattle.run_laws.specs.Names.{IsId, VerticesAreInRange, FacesAreInRange, EdgesAreInRange, PairsAreInRange, FailingPairsAreInRange, FirstMeetingIsInRange}

-- an id that is made is one of the log
made_id : (v next : ℕ) → 1 ≤ v → v < next → next ≤ ID_MAX + 1 → IsId v
made_id v next low below limit = (low, omega arith)

pub vertices_in_range : VerticesAreInRange
vertices_in_range m sound v live =
    let ids = sound.is_mesh.vertex_ids v live in
    made_id v m.next_vertex ids.0 ids.1 sound.limits.vertex_ids.1

pub faces_in_range : FacesAreInRange
faces_in_range m sound f live =
    let ids = sound.is_mesh.face_ids f live in
    made_id f m.next_face ids.0 ids.1 sound.limits.face_ids.1

-- two ids in order
pub ordered_ids : (u v : ℕ) → u < v → IsId u → IsId v → IsEdgeInRange u v
ordered_ids u v less first second = let most = second.1 in (first, (omega arith, most))

pub edges_in_range : EdgesAreInRange
edges_in_range m sound u v less edge =
    let live = edge_live m u v sound edge in
    ordered_ids u v less (vertices_in_range m sound u live.0) (vertices_in_range m sound v live.1)

pub pairs_in_range : PairsAreInRange
pairs_in_range m sound p is =
    let live = edge_live m p.name.a p.name.b sound is.edge in
    record {
      a = vertices_in_range m sound p.name.a live.0;
      b = vertices_in_range m sound p.name.b live.1;
      face = faces_in_range m sound p.name.face (ap is_some is.face);
      rising = is.ordered;
    }

-- each listed pair
pub listed_in_range : (m : Mesh) → IsSound m → AllByRecursion (λ p. IsPairInRange p.name) (pairs m)
listed_in_range m sound = all_weaker (IsPair m) (λ p. IsPairInRange p.name) (pairs m) (pairs_in_range m sound) (listed_pairs m)

pub failing_in_range : FailingPairsAreInRange
failing_in_range meets m shifts depth sound =
    let test : Pair → Bool = λ p. not (pair_passes meets depth (moved_by m shifts) p) in
    All-from_recursion IsPairInRange (failing meets m shifts depth)
    (all_mapped IsPairInRange (λ p. p.name) _
    (all_filtered (λ p. IsPairInRange p.name) test (pairs m)
    (all_weaker (λ p. IsPairInRange p.name) (λ p. test p ≡ true → IsPairInRange p.name) (pairs m) (λ p h _. h) (listed_in_range m sound))))

-- the first pair that passes a test, if one does
pub found_in_range : (m : Mesh) → IsSound m → (test : Pair → Bool) → IfSome (option_map (λ p. p.name) (find test (pairs m))) IsPairInRange
found_in_range m sound test = by_answer (find test (pairs m)) refl
  where
    by_answer : (o : Option Pair) → find test (pairs m) ≡ o → IfSome (option_map (λ p. p.name) o) IsPairInRange
    by_answer (Some p) e = (found_both (λ q. IsPairInRange q.name) test (pairs m) p (listed_in_range m sound) e).0
    by_answer None e = tt

pub meeting_in_range : FirstMeetingIsInRange
meeting_in_range meets m at sound = found_in_range m sound (λ p. meets (positions at p))

-- the ids of the live vertices, in order
pub live_keys : (m : Mesh) → AllByRecursion (IsLiveVertex m) (finite.keys m.points)
live_keys m =
    let es = finite.entries m.points in
    all_mapped (IsLiveVertex m) (λ e. e.0) es (all_weaker (λ e. entries.find nat_cmp e.0 es ≡ Some e.1) (λ e. IsLiveVertex m e.0) es (λ e h. ap is_some (get-entries m.points e.0 ∙ h)) (each_found es (entries_sorted m.points)))
