-- What a pass asks of a sound mesh is in range.
use Rattle.std.proofs.Common.{ℕ, List, [], ◌∷◌, map}
use Rattle.std.specs.List.{AllByRecursion, Contains}
use Rattle.std.specs.FinMap as finite
use Rattle.std.proofs.lemmas.List.Elements.{recursion_from_All, All-weaker, All-contains_itself}
use Rattle.mesh_base.specs.Mesh.{Mesh, IsSound, IsLiveVertex}
use Rattle.mesh_base.specs.Pairs.{edges}
use Rattle.mesh_base.proofs.ListedPairs.{all_joined, all_mapped, all_weaker, edge_listed}
use Rattle.edit_base.specs.declared.Asked.TheVariants as asked
use Rattle.edit_base.specs.declared.PassKind.{PassKind}
use Rattle.edit_base.specs.declared.PassKind.TheVariants.{Split, Collapse, Flip, Zip, Pinch}
use Rattle.log_read.specs.Laws.{IsEdgeInRange, IsAskedInRange}
use Rattle.pass_run.specs.Candidates.{with_later, zip_of, candidates}
use Rattle.run_laws.specs.Names.{IsId}
use Rattle.run_laws.proofs.Names.{vertices_in_range, edges_in_range, live_keys}

-- two ids in order, as a pair
abbrev pub IsOrdered : ℕ × ℕ → Type 0
IsOrdered e = IsEdgeInRange e.0 e.1

pub edges_listed : (m : Mesh) → IsSound m → AllByRecursion IsOrdered (edges m)
edges_listed m sound = recursion_from_All IsOrdered (edges m)
    (All-weaker (Contains (edges m)) IsOrdered (λ e h. let is = (edge_listed m sound e.0 e.1).0 h in edges_in_range m sound e.0 e.1 is.0 is.1) (edges m) (All-contains_itself (edges m)))

-- what holds of each of a list holds of each two of it
both_later : (P : ℕ × ℕ → Type 0) (es : List (ℕ × ℕ)) → AllByRecursion P es → AllByRecursion (λ two. P two.0 × P two.1) (with_later es)
both_later P [] h = tt
both_later P (e ∷ es) h = all_joined (λ two. P two.0 × P two.1) (map (λ f. (e, f)) es) (with_later es)
    (all_mapped (λ two. P two.0 × P two.1) (λ f. (e, f)) es (all_weaker P (λ f. P e × P f) es (λ f other. (h.0, other)) h.1))
    (both_later P es h.1)

pub asked_in_range : (m : Mesh) (kind : PassKind) → IsSound m → AllByRecursion IsAskedInRange (candidates m kind)
asked_in_range m (Split over) sound = all_mapped IsAskedInRange (λ e. asked.Split e.0 e.1) (edges m) (edges_listed m sound)
asked_in_range m (Collapse under) sound = all_mapped IsAskedInRange (λ e. asked.Collapse e.0 e.1) (edges m) (edges_listed m sound)
asked_in_range m Flip sound = all_mapped IsAskedInRange (λ e. asked.Flip e.0 e.1) (edges m) (edges_listed m sound)
asked_in_range m (Zip within) sound = all_mapped IsAskedInRange (λ two. zip_of two.0 two.1) (with_later (edges m)) (both_later IsOrdered (edges m) (edges_listed m sound))
asked_in_range m Pinch sound = all_mapped IsAskedInRange (λ v. asked.Pinch v) (finite.keys m.points) (all_weaker (IsLiveVertex m) IsId (finite.keys m.points) (vertices_in_range m sound) (live_keys m))
