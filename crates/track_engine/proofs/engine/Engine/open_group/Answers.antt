use Rattle.std.proofs.Common.{rules, ◌≡◌, List, [], ◌∷◌, refl, ap, sym, subst, ◌∙◌, inr}
use Rattle.std.proofs.lemmas.Result.{err_from_is_err_and}
use Rattle.log_text.specs.Lines.{text_of_lines}
use Rattle.outside_io.specs.Outside.{written_of}
use Rattle.outside_io.specs.Sink.{appended}
use Rattle.outside_io.proofs.Outsides.{nothing_unremembered, nothing_stopped, nothing_whole}
use Rattle.log_text.specs.declared.LogLine.TheVariants.{Group}
use Rattle.track_engine.specs.declared.open_group.OpenGroup.{OpenGroup}
use Rattle.track_engine.specs.State.{state_of}
use Rattle.track_engine.specs.Effects.{Proceeds, opened}
use Rattle.track_engine.specs.Invariant.{MarksHold}
use Rattle.track_engine.proofs.OpenMarks.{marks_along, opened_is, marks_opened}
use Rattle.track_engine.proofs.engine.Engine.open_group.Goals as goal

pub returns-in_err-group-clause-marks : goal.returns-in_err-group-clause-marks
returns-in_err-group-clause-marks g c = marks_along g.S.Surface.beyond (g.S.Surface.kept c.group_here.new.mesh) (g.S.Surface.kept c.args.self.now.mesh) c.args.self.now.run.groups c.group_here.ensures.begins c.requires

pub returns-in_err-open-clause-marks : goal.returns-in_err-open-clause-marks
returns-in_err-open-clause-marks g c =
    let kept = g.S.Surface.kept c.group_here.new.mesh in
    let same : c.open.new.self ≡ c.args.self.now.run.groups = search rules in
    let P : List OpenGroup → Type 0 = λ groups. MarksHold g.S.Surface.beyond kept groups in
    subst P (sym same) (marks_along g.S.Surface.beyond kept (g.S.Surface.kept c.args.self.now.mesh) c.args.self.now.run.groups c.group_here.ensures.begins c.requires)

pub returns-in-Err-clause-writes : goal.returns-in-Err-clause-writes
returns-in-Err-clause-writes g c =
    let s = state_of (g.S.Surface.mesh c.args.self.now.mesh) (g.S.Surface.kept c.args.self.now.mesh) c.args.self.now.run in
    inr (Group ∷ [], opened s, refl, c.in-Err.ensures.says.written)

pub returns-in-Err-clause-marks : goal.returns-in-Err-clause-marks
returns-in-Err-clause-marks g c =
    let kept = g.S.Surface.kept c.group_here.new.mesh in
    let same : c.close.new.self ≡ c.args.self.now.run.groups = search rules in
    let P : List OpenGroup → Type 0 = λ groups. MarksHold g.S.Surface.beyond kept groups in
    subst P (sym same) (marks_along g.S.Surface.beyond kept (g.S.Surface.kept c.args.self.now.mesh) c.args.self.now.run.groups c.group_here.ensures.begins c.requires)

pub returns-clause-writes : goal.returns-clause-writes
returns-clause-writes g c =
    let m = g.S.Surface.mesh c.args.self.now.mesh in
    let old = g.S.Surface.kept c.args.self.now.mesh in
    let new = g.S.Surface.kept c.group_here.new.mesh in
    let run = c.args.self.now.run in
    let made = c.in_ok-group.ensures in
    let pushed : c.open.new.self ≡ c.in_ok-group.group ∷ run.groups = search rules in
    let next : opened (state_of m old run) ≡ state_of (g.S.Surface.mesh c.group_here.new.mesh) new (record run { groups = c.open.new.self }) =
    opened_is g.S.Surface.beyond m old new run c.requires made.begins c.in_ok-group.group made.stands made.asked made.failed
    ∙ (λ i. state_of (sym made.mesh i) new (record run { groups = sym pushed i })) in
    let said : written_of (g.O.Outside.around c.tell.new.self) ≡ appended (written_of (g.O.Outside.around c.args.outside.now)) (text_of_lines (Group ∷ [])) = search rules in
    (Group ∷ [], ap (Proceeds (Group ∷ [])) next, said)

pub returns-clause-marks : goal.returns-clause-marks
returns-clause-marks g c =
    let new = g.S.Surface.kept c.group_here.new.mesh in
    let run = c.args.self.now.run in
    let made = c.in_ok-group.ensures in
    let pushed : c.open.new.self ≡ c.in_ok-group.group ∷ run.groups = search rules in
    let P : List OpenGroup → Type 0 = λ groups. MarksHold g.S.Surface.beyond new groups in
    subst P (sym pushed) (marks_opened g.S.Surface.beyond (g.S.Surface.mesh c.args.self.now.mesh) (g.S.Surface.kept c.args.self.now.mesh) new run c.requires made.begins c.in_ok-group.group made.holds made.under)

pub returns-in_err-group-clause-begins : goal.returns-in_err-group-clause-begins
returns-in_err-group-clause-begins g c = c.group_here.ensures.begins

pub returns-in_err-open-clause-begins : goal.returns-in_err-open-clause-begins
returns-in_err-open-clause-begins g c = c.group_here.ensures.begins

pub returns-in-Err-clause-begins : goal.returns-in-Err-clause-begins
returns-in-Err-clause-begins g c = c.group_here.ensures.begins

pub returns-clause-begins : goal.returns-clause-begins
returns-clause-begins g c = c.group_here.ensures.begins

pub returns-in_err-group-clause-nothing_stored : goal.returns-in_err-group-clause-nothing_stored
returns-in_err-group-clause-nothing_stored g c =
    let p = err_from_is_err_and c.from_residual.result c.from_residual.ensures.1 in
    rw (p.1, p.2) (nothing_unremembered (g.O.Outside.around c.args.outside.now))

pub returns-in_err-open-clause-nothing_stored : goal.returns-in_err-open-clause-nothing_stored
returns-in_err-open-clause-nothing_stored g c =
    let p = err_from_is_err_and c.from_residual-in_err-open.result c.from_residual-in_err-open.ensures.1 in
    rw (p.1, p.2) (nothing_unremembered (g.O.Outside.around c.args.outside.now))

pub returns-in-Err-clause-nothing_stored : goal.returns-in-Err-clause-nothing_stored
returns-in-Err-clause-nothing_stored g c = nothing_stopped _ _ _ c.in-Err.ensures.says.nothing_stored

pub returns-clause-nothing_stored : goal.returns-clause-nothing_stored
returns-clause-nothing_stored g c = nothing_whole _ _ _ _ c.tell.ensures.says.nothing_stored
