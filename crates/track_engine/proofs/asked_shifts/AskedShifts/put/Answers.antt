use Rattle.std.proofs.Common.{◌==◌, cond, Some, refl, ap, sym, ◌∙◌, subst}
use Rattle.mesh_base.specs.Shifts.{Shifts}
use Rattle.pair_scan.specs.Lookup.{IsPlaceOf}
use Rattle.track_engine.specs.Shifting.{AreBelow}
use Rattle.track_engine.specs.State.{asked_of}
use Rattle.track_engine.proofs.AskedLists.{Rises, set_rises, set_is_put, push_rises, push_is_put, found_named}
use Rattle.track_engine.proofs.asked_shifts.AskedShifts.put.Goals as goal

pub invariant_of-self : goal.invariant_of-self
invariant_of-self c =
    let items : Shifts = c.self.inside.by_id.items in
    let P : Shifts → Type 0 = λ l. IsPlaceOf l c.args.s.now.v (Some c.in-Some.place) in
    let there = subst P c.as_slice.ensures.value c.in-Some.ensures in
    set_rises items c.in-Some.place c.args.s.now there.0 c.self.invariant there.1 (found_named c.args.s.now.v items there.0 there.2)

pub returns-in-Some-clause-put : goal.returns-in-Some-clause-put
returns-in-Some-clause-put c = λ _ v.
    let items : Shifts = c.self.inside.by_id.items in
    let s = c.args.s.now in
    let P : Shifts → Type 0 = λ l. IsPlaceOf l s.v (Some c.in-Some.place) in
    let there = subst P c.as_slice.ensures.value c.in-Some.ensures in
    set_is_put items c.in-Some.place s there.0 c.self.invariant there.1 (found_named s.v items there.0 there.2) v
    ∙ ap (λ (l : Shifts). cond (s.v == v) (Some s) (asked_of v l)) c.self.view_is

pub invariant_of-self-2 : goal.invariant_of-self-2
invariant_of-self-2 c =
    let items : Shifts = c.self.inside.by_id.items in
    let P : Shifts → Type 0 = λ l. AreBelow c.args.s.now.v l in
    let below = subst P (sym c.self.view_is) (c.if-not-are_below.ensures refl) in
    subst Rises (sym c.in_ok-push.ensures.items) (push_rises items c.args.s.now c.self.invariant below)

pub returns-clause-put : goal.returns-clause-put
returns-clause-put c = λ _ v.
    let items : Shifts = c.self.inside.by_id.items in
    let s = c.args.s.now in
    let P : Shifts → Type 0 = λ l. AreBelow s.v l in
    let below = subst P (sym c.self.view_is) (c.if-not-are_below.ensures refl) in
    ap (asked_of v) c.in_ok-push.ensures.items
    ∙ push_is_put items s below v
    ∙ ap (λ (l : Shifts). cond (s.v == v) (Some s) (asked_of v l)) c.self.view_is
