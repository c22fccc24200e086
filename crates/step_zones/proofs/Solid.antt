-- A solid vertex that asks nothing stays.
use Rattle.std.proofs.Common.{◌≡◌, ℕ, ◌==◌, Bool, true, false, cond, nat_lt, List, [], ◌∷◌, map, length, Some, refl, sym, ap, subst, ◌∙◌, ⊎_elim}
use Rattle.std.specs.Option.{option_map, unwrap_or}
use Rattle.std.specs.List.{filter, find, list_any}
use Rattle.std.specs.FinMap as finite
use Rattle.std.proofs.lemmas.Bool.{false≢true, eqb-true}
use Rattle.grid_base.specs.Points.{displacement_of, shift_by}
use Rattle.mesh_base.specs.declared.steps.ShiftOf.{ShiftOf}
use Rattle.mesh_base.specs.Mesh.{Mesh, IsLiveVertex, is_solid}
use Rattle.mesh_base.specs.Placements.{origin}
use Rattle.mesh_base.specs.Shifts.{Shifts, shift_at}
use Rattle.mesh_base.proofs.Tests.{or_either, or_first, or_second}
use Rattle.mesh_base.proofs.Listed.{at_live}
use Rattle.step_zones.specs.Chains.{is_one_of}
use Rattle.step_zones.specs.Zones.{Labels, block_at, block_shift, mean_shift, zone_by, zone_shift, zone_shifts}
use Rattle.step_zones.proofs.Labelled.{itself, each_is}
use Rattle.step_zones.proofs.Means.{block_moves}

-- one of a list that passes the one test and is kept by the other
kept_passes : (holds test : ℕ → Bool) (xs : List ℕ) (v : ℕ) → is_one_of xs v ≡ true → test v ≡ true → holds v ≡ true → list_any holds (filter test xs) ≡ true
kept_passes holds test [] v is t f = absurd (false≢true is)
kept_passes holds test (x ∷ xs) v is t f = by_test (test x) refl (λ k. kept_passes holds test xs v k t f)
  where
    by_test : (b : Bool) → test x ≡ b → (is_one_of xs v ≡ true → list_any holds (filter test xs) ≡ true) → list_any holds (cond b (x ∷ filter test xs) (filter test xs)) ≡ true
    by_test true e later = ⊎_elim
        (λ s. or_first (holds x) (list_any holds (filter test xs)) (subst (λ w. holds w ≡ true) (sym (eqb-true x v s)) f))
        (λ k. or_second (holds x) (list_any holds (filter test xs)) (later k))
        (or_either (x == v) (is_one_of xs v) is)
    by_test false e later = ⊎_elim
        (λ s. absurd (false≢true (sym e ∙ subst (λ w. test w ≡ true) (sym (eqb-true x v s)) t)))
        later
        (or_either (x == v) (is_one_of xs v) is)

-- the block of a solid vertex stays
stays : (m : Mesh) (asked : Shifts) (at : Labels) (v : ℕ) → IsLiveVertex m v → is_solid m v ≡ true → displacement_of (shift_by (block_shift m asked (block_at m at (at v)))) ≡ origin
stays m asked at v live f =
    block_moves m asked (block_at m at (at v))
    ∙ ap (λ t. cond t origin (mean_shift asked (block_at m at (at v))))
    (kept_passes (is_solid m) (λ u. at u == at v) (finite.keys m.points) v (at_live (λ u. is_one_of (finite.keys m.points) u ≡ true) m.points v (each_is (finite.keys m.points)) live) (itself (at v)) f)

-- shifts each of which is changed, where that of v stays none
still_none : (f : ShiftOf → ShiftOf) (v : ℕ) (shifts : Shifts) → ((s : ShiftOf) → (f s).v ≡ s.v) → ((s : ShiftOf) → s.v ≡ v → displacement_of s.by ≡ origin → displacement_of (f s).by ≡ origin)
    → shift_at shifts v ≡ origin → shift_at (map f shifts) v ≡ origin
still_none f v [] same gets none = refl
still_none f v (s ∷ rest) same gets none = by_test (s.v == v) refl (λ k. still_none f v rest same gets k)
  where
    before : (b : Bool) → (s.v == v) ≡ b → shift_at (s ∷ rest) v ≡ unwrap_or (option_map (λ x. displacement_of x.by) (cond b (Some s) (find (λ x. x.v == v) rest))) origin
    before b e = ap (λ c. unwrap_or (option_map (λ x. displacement_of x.by) (cond c (Some s) (find (λ x. x.v == v) rest))) origin) e

    after : (b : Bool) → ((f s).v == v) ≡ b → shift_at (map f (s ∷ rest)) v ≡ unwrap_or (option_map (λ x. displacement_of x.by) (cond b (Some (f s)) (find (λ x. x.v == v) (map f rest)))) origin
    after b e = ap (λ c. unwrap_or (option_map (λ x. displacement_of x.by) (cond c (Some (f s)) (find (λ x. x.v == v) (map f rest)))) origin) e

    by_test : (b : Bool) → (s.v == v) ≡ b → (shift_at rest v ≡ origin → shift_at (map f rest) v ≡ origin) → shift_at (map f (s ∷ rest)) v ≡ origin
    by_test true e later = after true (ap (λ u. u == v) (same s) ∙ e) ∙ gets s (eqb-true s.v v e) (sym (before true e) ∙ none)
    by_test false e later = after false (ap (λ u. u == v) (same s) ∙ e) ∙ later (sym (before false e) ∙ none)

pub solid_stay : (m : Mesh) (asked : Shifts) (at : Labels) (v : ℕ) → IsLiveVertex m v → is_solid m v ≡ true → shift_at asked v ≡ origin → shift_at (zone_shifts m asked at) v ≡ origin
solid_stay m asked at v live f none = still_none (zone_shift m asked at) v asked (λ s. refl) gets none
  where
    gets : (s : ShiftOf) → s.v ≡ v → displacement_of s.by ≡ origin → displacement_of (zone_by m asked at s) ≡ origin
    gets s same rests = by_test (nat_lt 1 (length (block_at m at (at s.v))))
      where
        by_test : (t : Bool) → displacement_of (cond t (shift_by (block_shift m asked (block_at m at (at s.v)))) s.by) ≡ origin
        by_test true = subst (λ u. displacement_of (shift_by (block_shift m asked (block_at m at (at u)))) ≡ origin) (sym same) (stays m asked at v live f)
        by_test false = rests
