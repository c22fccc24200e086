-- Sums that are made of what is asked of all vertices, and asked from then on.
use Rattle.std.proofs.Common.{◌≡◌, ℕ, map, Result, Ok, Err, ap, sym, ◌∙◌, subst}
use Rattle.std.specs.FinMap as finite
use Rattle.std.specs.List.Sorted.{IsStrictlySortedBy}
use Rattle.std.specs.Ordering.{nat_cmp}
use Rattle.grid_base.specs.declared.Point.{Point}
use Rattle.grid_base.specs.declared.Shift.{Shift}
use Rattle.mesh_base.specs.declared.UseWhy.TheVariants.{ShiftRange}
use Rattle.mesh_base.specs.Mesh.{Mesh}
use Rattle.mesh_base.specs.Shifts.{Shifts, NameLive}
use Rattle.pair_scan.proofs.Paths.{ids_sorted}
use Rattle.track_engine.specs.Answered.{AreAnswersOf}
use Rattle.track_engine.specs.Effects.{all_summed, sum_or_range, sum_of_all}
use Rattle.track_engine.specs.Shifting.{Sums}
use Rattle.track_engine.specs.State.{asked_in}
use Rattle.track_engine.proofs.AskedLemmas.{whole_is}
use Rattle.track_engine.proofs.EffectLemmas.{ids_of_sums}
use Rattle.track_engine.proofs.Keeping.{ids_in, asked_still}
use Rattle.track_engine.proofs.Still.{sums_still}

module _ (m : Mesh) (by : ℕ → Shift) (old given : Shifts) (same : given ≡ asked_in m old) where
  module _ (sums : Shifts) (are : Sums m by given (Ok sums)) where
    sums_are : sums ≡ all_summed m by (asked_in m old)
    sums_are = are.1 ∙ ap (all_summed m by) same

    sums_named : NameLive m sums
    sums_named = ap (map (λ s. s.v)) sums_are ∙ ids_of_sums m by (asked_in m old) ∙ ids_in m old

    pub sums_rise : IsStrictlySortedBy nat_cmp (map (λ s. s.v) sums)
    sums_rise = ids_sorted m sums sums_named

    sums_whole : asked_in m sums ≡ sums
    sums_whole =
        ap (asked_in m) sums_are
        ∙ whole_is m (all_summed m by (asked_in m old)) (ids_of_sums m by (asked_in m old) ∙ ids_in m old) (sums_still m by (asked_in m old) (asked_still m old (finite.keys m.points)))
        ∙ sym sums_are

    pub asks_sums : (now : Shifts) → now ≡ sums → sum_of_all m by (asked_in m old) ≡ Ok (asked_in m now)
    asks_sums now is =
        ap (sum_of_all m by) (sym same) ∙ ap (λ o. sum_or_range o m by given) are.0 ∙ ap Ok (sym are.1 ∙ sym sums_whole ∙ ap (asked_in m) (sym is))

  pub asks_range : (v : ℕ) → Sums m by given (Err v) → sum_of_all m by (asked_in m old) ≡ Err (ShiftRange v)
  asks_range v is = ap (sum_of_all m by) (sym same) ∙ ap (λ o. sum_or_range o m by given) is

-- the same, by the answers of a field
module _ (may_answer : Point → Shift → Type 0) (m : Mesh) (old given : Shifts) (same : given ≡ asked_in m old) (r : Result Shifts ℕ) (driven : (by : ℕ → Shift) × AreAnswersOf may_answer m by × Sums m by given r) (sums : Shifts) (is : r ≡ Ok sums) where
  driven_sums : Sums m driven.0 given (Ok sums)
  driven_sums = let P : Result Shifts ℕ → Type 0 = λ x. Sums m driven.0 given x in subst P is driven.2

  pub driven_rise : IsStrictlySortedBy nat_cmp (map (λ s. s.v) sums)
  driven_rise = sums_rise m driven.0 old given same sums driven_sums

  pub asks_driven : (now : Shifts) → now ≡ sums → (by : ℕ → Shift) × AreAnswersOf may_answer m by × (sum_of_all m by (asked_in m old) ≡ Ok (asked_in m now))
  asks_driven now now_is = (driven.0, driven.1, asks_sums m driven.0 old given same sums driven_sums now now_is)
