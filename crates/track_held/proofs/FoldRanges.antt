-- What closing a fold asks is in the ranges of the log.
use Rattle.std.proofs.Common.{◌≡◌, ℕ, ◌==◌, Bool, true, false, cond, not, min, max, [], ◌∷◌, refl, sym, arith}
use Rattle.std.specs.List.{AllByRecursion}
use Rattle.std.proofs.lemmas.Bool.Decides.{nat_tests}
use Rattle.grid_base.specs.declared.TheConstants.{ID_MAX}
use Rattle.mesh_base.specs.Mesh.{Mesh, IsSound, IsLiveVertex}
use Rattle.mesh_base.specs.Pairs.{is_edge, is_crowded}
use Rattle.edit_base.specs.declared.Asked.TheVariants as asked
use Rattle.edit_base.specs.declared.Why.TheVariants.{NoEdge, Crowded}
use Rattle.edit_base.specs.declared.Why.TheVariants.{Edge as IsAnEdge}
use Rattle.edit_base.specs.Edges.{Edge, edge_of}
use Rattle.edit_base.specs.Beside.{IsBeside}
use Rattle.edit_base.specs.Reasons.{reason_if}
use Rattle.edit_base.proofs.Beside.{beside_of}
use Rattle.edit_base.proofs.ReasonLaws.{none_first, does_not_hold}
use Rattle.log_read.specs.Laws.{IsFrom, IsEdgeInRange, IsAskedInRange}
use Rattle.track_held.specs.Folds.{fold_collapse, fold_edits, FoldsAskInRange}

live_fits : (m : Mesh) (v : ℕ) → IsSound m → IsLiveVertex m v → IsFrom 1 ID_MAX v
live_fits m v sound live =
    let ids = sound.is_mesh.vertex_ids v live in
    let most = sound.limits.vertex_ids in
    (ids.0, omega (arith, ids.1, most.1))

-- two ids, the smaller first
ordered_fits : (c d : ℕ) → IsFrom 1 ID_MAX c → IsFrom 1 ID_MAX d → (c == d) ≡ false → IsEdgeInRange (min c d) (max c d)
ordered_fits c d fc fd apart = ((grind (arith, nat_tests), grind (arith, nat_tests)), (grind (arith, nat_tests), grind (arith, nat_tests)))

not_false : (b : Bool) → not b ≡ false → b ≡ true
not_false true e = refl
not_false false e = sym e

module _ (m : Mesh) (s : Edge) (sound : IsSound m) (beside : IsBeside m s) (apart : (s.c == s.d) ≡ false) where
  collapse_fits : IsAskedInRange (fold_collapse s)
  collapse_fits = ordered_fits s.c s.d (live_fits m s.c sound beside.c_live) (live_fits m s.d sound beside.d_live) apart

  edits_fit : IsEdgeInRange s.a s.b → AllByRecursion IsAskedInRange (fold_edits m s)
  edits_fit flip = by_edge (is_edge m (min s.c s.d) (max s.c s.d))
    where
      by_edge : (b : Bool) → AllByRecursion IsAskedInRange (cond b (fold_collapse s ∷ []) (asked.Flip s.a s.b ∷ fold_collapse s ∷ []))
      by_edge true = (collapse_fits, tt)
      by_edge false = (flip, (collapse_fits, tt))

pub folds_in_range : FoldsAskInRange
folds_in_range m a b sound closed none =
    let s = edge_of m a b in
    let first = none_first (reason_if (not (is_edge m s.a s.b)) NoEdge) (reason_if (is_crowded m s.a s.b) Crowded ∷ reason_if (s.c == s.d) IsAnEdge ∷ []) none in
    let second = none_first (reason_if (is_crowded m s.a s.b) Crowded) (reason_if (s.c == s.d) IsAnEdge ∷ []) first.1 in
    let third = none_first (reason_if (s.c == s.d) IsAnEdge) [] second.1 in
    let edge = not_false (is_edge m s.a s.b) (does_not_hold (not (is_edge m s.a s.b)) NoEdge first.0) in
    let beside = beside_of m a b sound closed edge in
    let apart = does_not_hold (s.c == s.d) IsAnEdge third.0 in
    let fa = live_fits m s.a sound beside.a_live in
    let fb = live_fits m s.b sound beside.b_live in
    edits_fit m s sound beside apart (fa, (omega (arith, beside.a_b), fb.1))
