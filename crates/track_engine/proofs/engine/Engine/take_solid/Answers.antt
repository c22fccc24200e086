use Rattle.std.proofs.Common.{◌≡◌, true, is_some, [], ◌∷◌, ap, sym, ◌∙◌, inr, rules}
use Rattle.std.specs.FinMap as finite
use Rattle.std.proofs.lemmas.Result.{err_from_is_err_and}
use Rattle.log_text.specs.declared.LogLine.TheVariants.{Solid}
use Rattle.outside_io.proofs.Outsides.{nothing_done, nothing_unremembered, nothing_stopped, nothing_whole}
use Rattle.mesh_base.proofs.MarksHold.{begins_itself}
use Rattle.mesh_base.specs.Changes.{with_solid}
use Rattle.track_engine.specs.State.{state_of, asked_in}
use Rattle.track_engine.specs.Effects.{Proceeds, solid_effect, after_solid, one_still}
use Rattle.track_engine.proofs.AskedLemmas.{solid_in}
use Rattle.track_engine.proofs.OpenMarks.{groups_along, marks_along}
use Rattle.track_engine.proofs.engine.Engine.take_solid.Goals as goal

pub returns-in_err-tell-clause-writes : goal.returns-in_err-tell-clause-writes
returns-in_err-tell-clause-writes g c =
    let p = err_from_is_err_and c.from_residual-in_err-tell.result c.from_residual-in_err-tell.ensures.1 in
    let m = g.S.Surface.mesh c.args.self.now.mesh in
    let s = state_of m (g.S.Surface.kept c.args.self.now.mesh) c.args.self.now.run in
    let live : is_some (finite.get m.points c.args.v) ≡ true = search rules in
    rw p.1 (inr (Solid c.args.v ∷ [], after_solid c.args.v s, ap (λ b. solid_effect b c.args.v s) live, c.in_err-tell.ensures.says.written))

pub returns-in_err-tell-clause-marks : goal.returns-in_err-tell-clause-marks
returns-in_err-tell-clause-marks g c = marks_along g.S.Surface.beyond (g.S.Surface.kept c.make_solid.new.self) (g.S.Surface.kept c.args.self.now.mesh) c.args.self.now.run.groups c.make_solid.ensures.marks c.requires.ready.marks

pub returns-clause-writes : goal.returns-clause-writes
returns-clause-writes g c =
    let m = g.S.Surface.mesh c.args.self.now.mesh in
    let old = g.S.Surface.kept c.args.self.now.mesh in
    let new = g.S.Surface.kept c.make_solid.new.self in
    let run = c.args.self.now.run in
    let s = state_of m old run in
    let live : is_some (finite.get m.points c.args.v) ≡ true = search rules in
    let mesh : g.S.Surface.mesh c.make_solid.new.self ≡ with_solid m c.args.v = search rules in
    let groups = groups_along g.S.Surface.beyond new old run.groups c.make_solid.ensures.marks c.requires.ready.marks in
    let asked : one_still c.args.v (asked_in m run.asked) ≡ asked_in (g.S.Surface.mesh c.make_solid.new.self) run.asked =
    sym (solid_in m c.args.v run.asked) ∙ ap (λ n. asked_in n run.asked) (sym mesh) in
    let next : after_solid c.args.v s ≡ state_of (g.S.Surface.mesh c.make_solid.new.self) new run =
    λ i. record { mesh = sym mesh i; asked = asked i; set = run.set; steps = run.steps; saved = run.saved; groups = sym groups i } in
    (Solid c.args.v ∷ [], ap (λ b. solid_effect b c.args.v s) live ∙ ap (Proceeds (Solid c.args.v ∷ [])) next, c.in_ok-tell.ensures.says.written)

pub returns-clause-marks : goal.returns-clause-marks
returns-clause-marks g c = marks_along g.S.Surface.beyond (g.S.Surface.kept c.make_solid.new.self) (g.S.Surface.kept c.args.self.now.mesh) c.args.self.now.run.groups c.make_solid.ensures.marks c.requires.ready.marks

pub returns-then-is_none-clause-marks : goal.returns-then-is_none-clause-marks
returns-then-is_none-clause-marks g c = c.requires.ready.marks

pub returns-then-is_none-clause-begins : goal.returns-then-is_none-clause-begins
returns-then-is_none-clause-begins g c = begins_itself (g.S.Surface.kept c.args.self.now.mesh)

pub returns-in_err-make_solid-clause-marks : goal.returns-in_err-make_solid-clause-marks
returns-in_err-make_solid-clause-marks g c = marks_along g.S.Surface.beyond (g.S.Surface.kept c.make_solid.new.self) (g.S.Surface.kept c.args.self.now.mesh) c.args.self.now.run.groups c.make_solid.ensures.marks c.requires.ready.marks

pub returns-in_err-make_solid-clause-begins : goal.returns-in_err-make_solid-clause-begins
returns-in_err-make_solid-clause-begins g c = c.make_solid.ensures.marks

pub returns-in_err-tell-clause-begins : goal.returns-in_err-tell-clause-begins
returns-in_err-tell-clause-begins g c = c.make_solid.ensures.marks

pub returns-clause-begins : goal.returns-clause-begins
returns-clause-begins g c = c.make_solid.ensures.marks

pub returns-then-is_none-clause-nothing_stored : goal.returns-then-is_none-clause-nothing_stored
returns-then-is_none-clause-nothing_stored g c = nothing_done (g.O.Outside.around c.args.outside.now) _

pub returns-in_err-make_solid-clause-nothing_stored : goal.returns-in_err-make_solid-clause-nothing_stored
returns-in_err-make_solid-clause-nothing_stored g c =
    let p = err_from_is_err_and c.from_residual.result c.from_residual.ensures.1 in
    rw (p.1, p.2) (nothing_unremembered (g.O.Outside.around c.args.outside.now))

pub returns-in_err-tell-clause-nothing_stored : goal.returns-in_err-tell-clause-nothing_stored
returns-in_err-tell-clause-nothing_stored g c =
    let p = err_from_is_err_and c.from_residual-in_err-tell.result c.from_residual-in_err-tell.ensures.1 in
    rw (p.1, p.2) (nothing_stopped _ _ _ c.in_err-tell.ensures.says.nothing_stored)

pub returns-clause-nothing_stored : goal.returns-clause-nothing_stored
returns-clause-nothing_stored g c = nothing_whole _ _ _ _ c.in_ok-tell.ensures.says.nothing_stored
