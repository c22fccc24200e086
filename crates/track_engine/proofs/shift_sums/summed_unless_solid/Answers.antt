use Rattle.std.proofs.Common.{refl, sym, ◌∙◌}
use Rattle.track_engine.proofs.ShiftLemmas.{sums_other}
use Rattle.track_engine.proofs.shift_sums.summed_unless_solid.Goals as goal

pub returns-in-Some : goal.returns-in-Some
returns-in-Some g c =
    sums_other (g.S.Surface.mesh c.args.mesh.now) (λ v. c.args.by) c.args.s c.in-Some.by (sym c.solid.ensures ∙ c.if-solid.false) c.in-Some.ensures.made (c.in-Some.ensures.some.0 refl)
