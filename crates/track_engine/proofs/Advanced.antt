-- What a directive that is taken leaves.
use Rattle.std.proofs.Common.{◌≡◌, ◌≤◌, ◌+◌, ℕ, List, Option, None, Result, Ok, Err, IfOk, IfErr, IsSome, ap, sym, subst}
use Rattle.mesh_base.specs.declared.UseWhy.{UseWhy}
use Rattle.mesh_base.specs.Kept.{BeginsWith}
use Rattle.mesh_base.specs.Mesh.{Mesh}
use Rattle.step_choose.specs.Settings.{AreWithinLimits}
use Rattle.step_text.specs.declared.Directive.{Directive}
use Rattle.step_text.specs.Ranges.{IsInRange}
use Rattle.outside_io.specs.Outside.{Around, Counts, holds_of}
use Rattle.outside_io.specs.declared.stop.Stop.{Stop}
use Rattle.outside_io.specs.declared.stop.Stop.TheVariants.{NoMemory}
use Rattle.outside_io.proofs.Outsides.{counts_unremembered, counts_whole}
use Rattle.track_engine.specs.declared.engine.Engine.{Engine}
use Rattle.track_engine.specs.Answered.{Known}
use Rattle.track_engine.specs.Invariant.{IsRunInvariant, MarksHold}
use Rattle.track_engine.specs.Parts.{AdvancesAnswered, HasAdvanced}
use Rattle.track_engine.specs.Saved.{Target}
use Rattle.track_engine.specs.State.{State}
use Rattle.track_engine.specs.World.{Contents}
use Rattle.track_engine.proofs.Keeping.{kept_next}
use Rattle.track_engine.proofs.Limits.{limits_next, steps_next, saved_next}

-- the state is again as each directive leaves it, and at most one step more was taken, and one mesh more saved
pub record Leaves (s t : State) : Type 0 where
  pub invariant : IsRunInvariant t
  pub limits : AreWithinLimits t.set
  pub steps : t.steps ≤ s.steps + 1
  pub saved : t.saved ≤ s.saved + 1

pub leaves : (fields : Known) (to : Target) (what : Directive) (s t : State) (old new : Contents) (r : Result (Option UseWhy) Stop) → r ≡ Ok None → AdvancesAnswered fields to what s t old new r
    → IsInRange what → IsRunInvariant s → AreWithinLimits s.set → Leaves s t
leaves fields to what s t old new r none advances range kept limits =
    let P : Result (Option UseWhy) Stop → Type 0 = λ x. AdvancesAnswered fields to what s t old new x in
    let took = subst P none advances in
    let goes = took.2.goes in
    record {
      invariant = kept_next took.0 what s t took.2.lines kept goes;
      limits = limits_next took.0 what s t took.2.lines range limits goes;
      steps = steps_next took.0 what s t took.2.lines range limits goes;
      saved = saved_next took.0 what s t took.2.lines range limits goes;
    }

-- what a directive does, by what it takes
pub has_advanced : (fields : Known) (to : Target) (what : Directive) (s t : State) (old new : Around) (r : Result (Option UseWhy) Stop) → AdvancesAnswered fields to what s t (holds_of old) (holds_of new) r
    → IsInRange what → IsRunInvariant s → AreWithinLimits s.set → IfOk r (λ refused. IsSome refused → t ≡ s) → Counts old new r → HasAdvanced fields to what s t old new r
has_advanced fields to what s t old new r advances range kept limits left counts = record {
  advances = advances;
  left = left;
  steps = λ none. (leaves fields to what s t (holds_of old) (holds_of new) r none advances range kept limits).steps;
  saved = λ none. (leaves fields to what s t (holds_of old) (holds_of new) r none advances range kept limits).saved;
  counts = counts;
}

-- a refusal that leaves the engine leaves its state
pub left_by_state : {E : Type 0} (state : E → State) (old new : E) (r : Result (Option UseWhy) Stop) → IfOk r (λ refused. IsSome refused → new ≡ old) → IfOk r (λ refused. IsSome refused → state new ≡ state old)
left_by_state state old new (Ok o) left = λ some. ap state (left some)
left_by_state state old new (Err stop) left = tt

-- what asks nothing of the two sides is stopped as out of memory alone
pub counts_of_memory : {T : Type 0} (a : Around) (r : Result T Stop) → IfErr r (λ stop. stop ≡ NoMemory) → Counts a a r
counts_of_memory a (Ok x) e = counts_whole a a _ x (counts_unremembered {T = Unit {0}} a)
counts_of_memory {T = T} a (Err stop) e = let P : Stop → Type 0 = λ s. Counts {T = T} a a (Err s) in subst P (sym e) (counts_unremembered a)

-- ---- what holds of an engine, by the engine

abbrev pub MarksOf : {S : Type 0} → ℕ → (S → List Mesh) → Engine S → Type 0
MarksOf beyond kept engine = MarksHold beyond (kept engine.mesh) engine.run.groups

abbrev pub BeginsAt : {S : Type 0} → (S → List Mesh) → List Mesh → Engine S → Type 0
BeginsAt kept left engine = BeginsWith (kept engine.mesh) left
