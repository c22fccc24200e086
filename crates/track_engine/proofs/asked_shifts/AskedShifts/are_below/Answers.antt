use Rattle.std.proofs.Common.{◌≡◌, ◌<◌, ◌-◌, Some, length, sym, ap, subst}
use Rattle.std.specs.Prelude.{slice_get}
use Rattle.std.proofs.lemmas.Bool.{ltb-true}
use Rattle.mesh_base.specs.declared.ShiftOf.{ShiftOf}
use Rattle.mesh_base.specs.Shifts.{Shifts}
use Rattle.track_engine.specs.Shifting.{AreBelow}
use Rattle.track_engine.proofs.AskedLists.{all_below}
use Rattle.track_engine.proofs.asked_shifts.AskedShifts.are_below.Goals as goal

pub returns-in-Some : goal.returns-in-Some
returns-in-Some c = λ low.
    let items : Shifts = c.self.inside.by_id.items in
    let s : ShiftOf = c.in-Some.s.now in
    let P : Shifts → Type 0 = λ l. slice_get l (length l - 1) ≡ Some s in
    let last : slice_get items (length items - 1) ≡ Some s = subst P c.deref.ensures.value (sym c.in-Some.ensures.value) in
    let id : c.s.inside.0.0.0 ≡ s.v = ap (λ (t : ShiftOf). t.v) c.s.view_is in
    let lower : s.v < c.args.v = subst (λ n. n < c.args.v) id (subst (λ n. c.s.inside.0.0.0 < n) c.v.view_is (ltb-true _ _ low)) in
    let Q : Shifts → Type 0 = λ l. AreBelow c.args.v l in
    subst Q c.self.view_is (all_below items c.args.v s c.self.invariant last lower)
