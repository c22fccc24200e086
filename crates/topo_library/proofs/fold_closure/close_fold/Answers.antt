use Rattle.std.proofs.Common.{Some, ℕ, Option, sym, ap, ◌∙◌, subst}
use Rattle.track_held.specs.Folding.{fold_effect, fold_told}
use Rattle.topo_library.specs.Codes.{tracker_state}
use Rattle.topo_library.specs.Folded.{HolderHasClosedFold}
use Rattle.topo_library.proofs.Handles.{wrote, tells}
use Rattle.topo_library.proofs.fold_closure.close_fold.Goals as goal

pub returns : goal.returns
returns c =
    let a = c.in-Some.first in
    let b = c.in-Some.second in
    let held = c.in-Some-take.ensures.took ∙ ap Some (sym c.as_mut.ensures.value) in
    let P : Option (ℕ × ℕ) → Type 0 = λ e. HolderHasClosedFold e c.args.topo.now.owned.value c.give.new.self.owned.value c.args.answer.now c.close_with-code.new.answer c.close_with-code.result in
    subst P c.in-Some.ensures (
      wrote _ _ c.as_mut.result.now c.close_with-code.new.tracker held c.give.ensures (fold_effect a b) c.close_with-code.result c.close_with-code.ensures.writes,
      tells (λ t. fold_told a b (tracker_state t)) _ c.as_mut.result.now held c.args.answer.now c.close_with-code.new.answer c.close_with-code.result c.close_with-code.ensures.tells,
    )
