use Rattle.std.proofs.Common.{sym, subst, ◌∙◌}
use Rattle.mesh_base.specs.Shifts.{Shifts, NameLive}
use Rattle.mesh_field.specs.Stored.{MayAnswer}
use Rattle.track_engine.specs.State.{asked_in}
use Rattle.track_engine.proofs.AskedSums.{driven_rise, asks_driven}
use Rattle.track_engine.proofs.DriveLemmas.{asks_over}
use Rattle.track_engine.proofs.Keeping.{ids_in}
use Rattle.track_engine.proofs.engine.Engine.drive.Goals as goal

pub drive_all-requires-clause-named : goal.drive_all-requires-clause-named
drive_all-requires-clause-named g c =
    let m = g.S.Surface.mesh c.args.self.now.mesh in
    let P : Shifts → Type 0 = λ asked. NameLive m asked in
    subst P (sym (c.as_slice.ensures ∙ c.in-Ok.ensures)) (ids_in m c.args.self.now.run.asked)

pub returns-in-Ok-Err-clause-asks : goal.returns-in-Ok-Err-clause-asks
returns-in-Ok-Err-clause-asks g c =
    asks_over (MayAnswer g.F.Fn c.args.fields.now c.args.which) (g.S.Surface.mesh c.args.self.now.mesh) (asked_in (g.S.Surface.mesh c.args.self.now.mesh) c.args.self.now.run.asked) c.as_slice.result.now (c.as_slice.ensures ∙ c.in-Ok.ensures) c.in-Ok-Err.field-0 c.in-Ok-Err.ensures c.in-Ok-Err.v c.v.inside.0 c.in-Ok-Err.field-0-is c.v.view_is

pub of_all-requires : goal.of_all-requires
of_all-requires g c =
    let m = g.S.Surface.mesh c.args.self.now.mesh in
    driven_rise (MayAnswer g.F.Fn c.args.fields.now c.args.which) m c.args.self.now.run.asked c.as_slice.result.now (c.as_slice.ensures ∙ c.in-Ok.ensures) c.in-Ok-Ok.field-0 c.in-Ok-Ok.ensures c.in-Ok-Ok.sums c.in-Ok-Ok.field-0-is

pub returns-clause-asks : goal.returns-clause-asks
returns-clause-asks g c =
    let m = g.S.Surface.mesh c.args.self.now.mesh in
    asks_driven (MayAnswer g.F.Fn c.args.fields.now c.args.which) m c.args.self.now.run.asked c.as_slice.result.now (c.as_slice.ensures ∙ c.in-Ok.ensures) c.in-Ok-Ok.field-0 c.in-Ok-Ok.ensures c.in-Ok-Ok.sums c.in-Ok-Ok.field-0-is c.of_all.result c.of_all.ensures
