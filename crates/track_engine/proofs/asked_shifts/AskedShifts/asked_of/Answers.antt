use Rattle.std.proofs.Common.{◌≡◌, None, ap, sym, ◌∙◌, subst}
use Rattle.std.specs.Option.{unwrap_or}
use Rattle.std.specs.declared.option.Option.{Option}
use Rattle.mesh_base.specs.declared.ShiftOf.{ShiftOf}
use Rattle.mesh_base.specs.Shifts.{Shifts}
use Rattle.track_engine.specs.State.{asked_of, still_at}
use Rattle.track_engine.proofs.ShiftLemmas.{at_rest}
use Rattle.track_engine.proofs.asked_shifts.AskedShifts.asked_of.Goals as goal

pub returns-in-None : goal.returns-in-None
returns-in-None c =
    let P : Shifts → Type 0 = λ l. asked_of c.args.v l ≡ None in
    let none : asked_of c.args.v c.args.self.now ≡ None = subst P c.self.view_is (subst P c.as_slice.ensures.value c.in-None.ensures) in
    at_rest c.args.v _ ∙ sym (ap (λ (o : Option ShiftOf). unwrap_or o (still_at c.args.v)) none)
