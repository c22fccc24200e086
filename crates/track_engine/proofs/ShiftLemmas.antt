-- Lists that are built item by item, and shifts that are summed.
use Rattle.std.proofs.Common.{◌≡◌, ℕ, ◌<◌, ◌+◌, Bool, true, false, cond, not, [], ◌∷◌, map, length, drop, get_or, suc, add-one, refl, ap, sym, ◌∙◌, pos, Option, Some, None, IsSome, zero, subst, arith}
use Rattle.std.specs.Prelude.{◌↔◌, ◌==◌, ◌||◌, slice_get}
use Rattle.std.specs.Option.{IfSome, option_map}
use Rattle.std.specs.List.{find, AllByRecursion}
use Rattle.std.specs.Ordering.{nat_cmp}
use Rattle.std.specs.declared.cmp.Ordering.TheVariants.{Less}
use Rattle.std.proofs.lemmas.Bool.Decides.{nat_tests}
use Rattle.std.proofs.Math.Seq.{drop-cons}
use Rattle.grid_base.specs.declared.TheConstants.{SHIFT_MAX}
use Rattle.grid_base.specs.declared.Shift.{Shift}
use Rattle.grid_base.specs.Components.{FitWithin}
use Rattle.grid_base.specs.Triples.{Triple, IsWithin}
use Rattle.grid_base.specs.Points.{displacement_of, is_within, shift_by, no_shift}
use Rattle.grid_base.proofs.PointLaws.{shift_by-displacement_of, same_shift, within_of, of_within}
use Rattle.grid_base.proofs.MeetingLaws.{same_triple}
use Rattle.mesh_base.specs.declared.ShiftOf.{ShiftOf}
use Rattle.mesh_base.specs.Mesh.{Mesh, is_solid}
use Rattle.mesh_base.specs.Shifts.{Shifts, with_shift}
use Rattle.track_engine.specs.State.{still_at}
use Rattle.track_engine.specs.Effects.{summed, is_beyond, first_beyond}
use Rattle.track_engine.specs.Shifting.{SumsOne}

-- the sizes of three numbers are those of the triple
pub as_triple : (o : Option Shift) (t : Triple) → (IsSome o ↔ FitWithin SHIFT_MAX t.x t.y t.z) → (IsSome o ↔ IsWithin SHIFT_MAX t)
as_triple o t h = (
  λ some. let fits = h.0 some in record { x_fits = fits.x_fits; y_fits = fits.y_fits; z_fits = fits.z_fits },
  λ within. h.1 (record { x_fits = within.x_fits; y_fits = within.y_fits; z_fits = within.z_fits }),
)

pub moves_as : (o : Option Shift) (t : Triple) → IfSome o (λ s. (s.x ≡ t.x) × (s.y ≡ t.y) × (s.z ≡ t.z)) → IfSome o (λ s. displacement_of s ≡ t)
moves_as None t h = tt
moves_as (Some s) t h = same_triple (displacement_of s) t h.0 h.1 h.2

-- the sum of a vertex's shift
pub summed_as : (by r : Shift) (s : ShiftOf) → displacement_of r ≡ summed by s → ◌≡◌ {A = ShiftOf} (record { v = s.v; by = r }) (with_shift s (summed by s))
summed_as by r s e = ap (λ (b : Shift). record { v = s.v; by = b }) (sym (shift_by-displacement_of r) ∙ ap shift_by e)

-- ---- the sum of a vertex, unless it is solid

module _ (m : Mesh) (by : ℕ → Shift) (s : ShiftOf) where
  pub sums_solid : is_solid m s.v ≡ true → SumsOne m by s (Some s)
  sums_solid e = (ap (λ b. not (b || is_within SHIFT_MAX (summed (by s.v) s))) e, sym (ap (λ b. cond b s (with_shift s (summed (by s.v) s))) e))

  pub sums_other : (r : Shift) → is_solid m s.v ≡ false → displacement_of r ≡ summed (by s.v) s → IsWithin SHIFT_MAX (summed (by s.v) s) → SumsOne m by s (Some (record { v = s.v; by = r }))
  sums_other r e sum within = (
    ap (λ b. not (b || is_within SHIFT_MAX (summed (by s.v) s))) e ∙ ap not (of_within SHIFT_MAX (summed (by s.v) s) within),
    summed_as (by s.v) r s sum ∙ sym (ap (λ b. cond b s (with_shift s (summed (by s.v) s))) e),
  )

  pub sums_none : is_solid m s.v ≡ false → (IsWithin SHIFT_MAX (summed (by s.v) s) → ⊥) → SumsOne m by s None
  sums_none e out = ap (λ b. not (b || is_within SHIFT_MAX (summed (by s.v) s))) e ∙ by_test (is_within SHIFT_MAX (summed (by s.v) s)) refl
    where
      by_test : (b : Bool) → is_within SHIFT_MAX (summed (by s.v) s) ≡ b → not (is_within SHIFT_MAX (summed (by s.v) s)) ≡ true
      by_test true t = absurd (out (within_of SHIFT_MAX (summed (by s.v) s) t))
      by_test false t = ap not t

-- what is sought among those to come, where one is reached
sought : (m : Mesh) (by : ℕ → Shift) (asked : Shifts) (i : ℕ) (s : ShiftOf) → i < length asked → s ≡ get_or asked i s → first_beyond m by (drop i asked) ≡ cond (is_beyond m by s) (Some s.v) (first_beyond m by (drop (i + 1) asked))
sought m by asked i s h at =
    ap (first_beyond m by) (drop-cons asked i s h)
    ∙ ap (λ z. first_beyond m by (z ∷ drop (suc i) asked)) (sym at)
    ∙ ap (λ n. first_beyond m by (s ∷ drop n asked)) (sym (add-one i))
    ∙ chosen (is_beyond m by s)
  where
    chosen : (b : Bool) → option_map (λ (t : ShiftOf). t.v) (cond b (Some s) (find (is_beyond m by) (drop (i + 1) asked))) ≡ cond b (Some s.v) (first_beyond m by (drop (i + 1) asked))
    chosen true = refl
    chosen false = refl

-- the sum of the next one is within the limit
pub beyond_later : (m : Mesh) (by : ℕ → Shift) (asked : Shifts) (i : ℕ) (s : ShiftOf) (all : Option ℕ) → i < length asked → s ≡ get_or asked i s → is_beyond m by s ≡ false → first_beyond m by (drop i asked) ≡ all → first_beyond m by (drop (i + 1) asked) ≡ all
beyond_later m by asked i s all h at within e =
    sym (ap (λ b. cond b (Some s.v) (first_beyond m by (drop (i + 1) asked))) within) ∙ sym (sought m by asked i s h at) ∙ e

-- the sum of the next one is above the limit
pub beyond_here : (m : Mesh) (by : ℕ → Shift) (asked : Shifts) (i : ℕ) (s : ShiftOf) (all : Option ℕ) → i < length asked → s ≡ get_or asked i s → is_beyond m by s ≡ true → first_beyond m by (drop i asked) ≡ all → all ≡ Some s.v
beyond_here m by asked i s all h at out e =
    sym e ∙ sought m by asked i s h at ∙ ap (λ b. cond b (Some s.v) (first_beyond m by (drop (i + 1) asked))) out

-- a vertex that is asked nothing
pub at_rest : (v : ℕ) (h : FitWithin SHIFT_MAX (pos 0) (pos 0) (pos 0)) → ◌≡◌ {A = ShiftOf} (record { v = v; by = record { x = pos 0; y = pos 0; z = pos 0; in_range = h } }) (still_at v)
at_rest v h = ap (λ (b : Shift). record { v = v; by = b }) (same_shift no_shift h)

-- ---- ids that rise

pub not_earlier : (k y v : ℕ) → y ≡ v → nat_cmp k y ≡ Less → (k == v) ≡ false
not_earlier k y v e h = grind (arith, nat_tests)

pub below_at : (k : ℕ) (asked : Shifts) (i : ℕ) (s : ShiftOf) → AllByRecursion (λ y. nat_cmp k y ≡ Less) (map (λ t. t.v) asked) → slice_get asked i ≡ Some s → nat_cmp k s.v ≡ Less
below_at k [] i s h e = cc
below_at k (t ∷ rest) zero s h e = let is : t ≡ s = cc in subst (λ (u : ShiftOf). nat_cmp k u.v ≡ Less) is h.0
below_at k (t ∷ rest) (suc i) s h e = below_at k rest i s h.1 e
