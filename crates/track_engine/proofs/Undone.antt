-- A group that is made to fail, and then closed, is taken back.
use Rattle.std.proofs.Common.{◌≡◌, ◌||◌, Bool, true, false, cond, not, ℕ, List, [], ◌∷◌, Option, None, Some, Result, Ok, Err, IfOk, refl, sym, ap, ◌∙◌, subst}
use Rattle.mesh_base.specs.declared.UseWhy.{UseWhy}
use Rattle.mesh_base.specs.Mesh.{Mesh}
use Rattle.step_choose.specs.Settings.{AreWithinLimits}
use Rattle.log_text.specs.declared.LogLine.{LogLine}
use Rattle.log_text.specs.declared.LogLine.TheVariants.{Close}
use Rattle.outside_io.specs.declared.stop.Stop.{Stop}
use Rattle.track_engine.specs.declared.open_group.OpenGroup.{OpenGroup}
use Rattle.track_engine.specs.declared.run_state.RunState.{RunState}
use Rattle.track_engine.specs.Groups.{failed_if}
use Rattle.track_engine.specs.State.{Group, State, group_of, groups_of, state_of}
use Rattle.track_engine.specs.Effects.{Effect, Proceeds, close_effect, undo_effect, kept_whole, taken_back}
use Rattle.track_engine.specs.Invariant.{IsRunInvariant}
use Rattle.track_engine.specs.Parts.{Writes}
use Rattle.track_engine.proofs.Keeping.{kept_undone}

or_true : (b : Bool) → (b || true) ≡ true
or_true true = refl
or_true false = refl

module _ (m : Mesh) (kept : List Mesh) (run : RunState) where
  abbrev in_groups : List OpenGroup → State
  in_groups groups = state_of m kept (record run { groups = groups })

  -- it is the effect of taking it back
  closes_back : (groups failed : List OpenGroup) → run.groups ≡ groups → failed ≡ failed_if true groups → close_effect (groups_of kept failed) (in_groups failed) ≡ undo_effect (groups_of kept groups) (state_of m kept run)
  closes_back [] failed is same =
      ap (λ l. close_effect (groups_of kept l) (in_groups l)) same ∙ ap (λ l. Proceeds [] (in_groups l)) (sym is)
  closes_back (g ∷ outer) failed is same =
      let s : State = state_of m kept run in
      ap (λ l. close_effect (groups_of kept l) (in_groups l)) same
      ∙ ap (λ b. Proceeds (Close (not b) ∷ []) (cond b (taken_back (group_of kept g) (groups_of kept outer) s) (kept_whole (groups_of kept outer) s))) (or_true g.failed)

  pub undo_is : (failed : List OpenGroup) → failed ≡ failed_if true run.groups → close_effect (groups_of kept failed) (in_groups failed) ≡ undo_effect (groups_of kept run.groups) (state_of m kept run)
  undo_is failed same = closes_back run.groups failed refl same

pub undo_writes : (before after : Effect) (t : State) (old new : Option (List ℕ)) (r : Result (Option UseWhy) Stop) → before ≡ after → Writes before t old new r → Writes after t old new r
undo_writes before after t old new r is writes = let P : Effect → Type 0 = λ e. Writes e t old new r in subst P is writes

-- the settings stay
set_kept : (groups : List Group) (s t : State) (lines : List LogLine) → undo_effect groups s ≡ Proceeds lines t → t.set ≡ s.set
set_kept [] s t lines e = let same : s ≡ t = cc in ap (λ (x : State). x.set) (sym same)
set_kept (group ∷ outer) s t lines e = let same : taken_back group outer s ≡ t = cc in ap (λ (x : State). x.set) (sym same)

-- the state after it
pub record IsLeftWell (t : State) : Type 0 where
  pub invariant : IsRunInvariant t
  pub limits : AreWithinLimits t.set

pub undo_left : (s t : State) (old new : Option (List ℕ)) (r : Result (Option UseWhy) Stop) → IsRunInvariant s → AreWithinLimits s.set → Writes (undo_effect s.groups s) t old new r → IfOk r (λ refused. refused ≡ None) → IfOk r (λ refused. IsLeftWell t)
undo_left s t old new (Ok None) kept limits writes taken = record { invariant = kept_undone s t writes.0 kept writes.1; limits = subst AreWithinLimits (sym (set_kept s.groups s t writes.0 writes.1)) limits }
undo_left s t old new (Ok (Some why)) kept limits writes taken = absurd cc
undo_left s t old new (Err stop) kept limits writes taken = tt
