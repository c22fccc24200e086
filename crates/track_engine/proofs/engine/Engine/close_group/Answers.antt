use Rattle.std.proofs.Common.{not, List, [], ◌∷◌, refl, ap, sym, subst, ◌∙◌, inr}
use Rattle.std.proofs.lemmas.Result.{err_from_is_err_and}
use Rattle.mesh_base.specs.Mesh.{Mesh}
use Rattle.mesh_base.specs.Kept.{BeginsWith}
use Rattle.log_text.specs.declared.LogLine.TheVariants.{Close}
use Rattle.outside_io.proofs.Written.{appended-nil}
use Rattle.outside_io.proofs.Outsides.{nothing_done, nothing_stopped, nothing_whole}
use Rattle.track_engine.specs.State.{state_of}
use Rattle.track_engine.specs.Effects.{Proceeds}
use Rattle.track_engine.proofs.OpenMarks.{begins_left, left_back, none_closed, close_line, goes_back, stays_open, state_back, marks_back, marks_kept, mark_holds}
use Rattle.track_engine.proofs.engine.Engine.close_group.Goals as goal

pub returns-in_default-clause-writes : goal.returns-in_default-clause-writes
returns-in_default-clause-writes g c =
    let kept = g.S.Surface.kept c.args.self.now.mesh in
    ([], none_closed kept c.args.self.now.run.groups (state_of (g.S.Surface.mesh c.args.self.now.mesh) kept c.args.self.now.run) (sym c.in_default.is ∙ c.has_failed.ensures), sym (appended-nil _))

pub returns-in_err-tell-clause-writes : goal.returns-in_err-tell-clause-writes
returns-in_err-tell-clause-writes g c =
    let p = err_from_is_err_and c.from_residual.result c.from_residual.ensures.1 in
    let kept = g.S.Surface.kept c.args.self.now.mesh in
    let line = close_line kept c.args.self.now.run.groups (state_of (g.S.Surface.mesh c.args.self.now.mesh) kept c.args.self.now.run) c.in-Some.failed c.in-Some.ensures in
    rw p.1 (inr (Close (not c.in-Some.failed) ∷ [], line.0, line.1, c.in_err-tell.ensures.says.written))

pub returns-then-failed-clause-writes : goal.returns-then-failed-clause-writes
returns-then-failed-clause-writes g c =
    let kept = g.S.Surface.kept c.args.self.now.mesh in
    let run = c.args.self.now.run in
    let s = state_of (g.S.Surface.mesh c.args.self.now.mesh) kept run in
    let group = c.in-Some-close.group in
    let outer = c.close.new.self in
    let next = state_back g.S.Surface.beyond (g.S.Surface.mesh c.args.self.now.mesh) kept run group outer c.in-Some-close.ensures c.requires (g.S.Surface.mesh c.back_to.new.self) (g.S.Surface.kept c.back_to.new.self) group.asked c.back_to.ensures.mesh refl c.back_to.ensures.marks in (
      Close (not c.in-Some.failed) ∷ [],
      goes_back kept run.groups s c.in-Some.failed group outer c.in-Some-close.ensures c.in-Some.ensures c.if-failed.true ∙ ap (Proceeds (Close (not c.in-Some.failed) ∷ [])) (sym next),
      c.in_ok-tell.ensures.says.written,
    )

pub returns-then-failed-clause-marks : goal.returns-then-failed-clause-marks
returns-then-failed-clause-marks g c =
    marks_back g.S.Surface.beyond (g.S.Surface.mesh c.args.self.now.mesh) (g.S.Surface.kept c.args.self.now.mesh) c.args.self.now.run c.in-Some-close.group c.close.new.self c.in-Some-close.ensures c.requires (g.S.Surface.kept c.back_to.new.self) c.back_to.ensures.marks

pub returns-else-failed-clause-writes : goal.returns-else-failed-clause-writes
returns-else-failed-clause-writes g c =
    let kept = g.S.Surface.kept c.args.self.now.mesh in
    let run = c.args.self.now.run in
    let s = state_of (g.S.Surface.mesh c.args.self.now.mesh) kept run in (
      Close (not c.in-Some.failed) ∷ [],
      stays_open kept run.groups s c.in-Some.failed c.in-Some-close.group c.close.new.self c.in-Some-close.ensures c.in-Some.ensures c.if-failed.false,
      c.in_ok-tell.ensures.says.written,
    )

pub returns-else-failed-clause-marks : goal.returns-else-failed-clause-marks
returns-else-failed-clause-marks g c =
    marks_kept g.S.Surface.beyond (g.S.Surface.mesh c.args.self.now.mesh) (g.S.Surface.kept c.args.self.now.mesh) c.args.self.now.run c.in-Some-close.group c.close.new.self c.in-Some-close.ensures c.requires

pub returns-in_default-clause-marks : goal.returns-in_default-clause-marks
returns-in_default-clause-marks g c = c.requires

pub returns-in_err-tell-clause-marks : goal.returns-in_err-tell-clause-marks
returns-in_err-tell-clause-marks g c = c.requires

pub returns-in_default-clause-begins : goal.returns-in_default-clause-begins
returns-in_default-clause-begins g c = begins_left (g.S.Surface.kept c.args.self.now.mesh) c.args.self.now.run.groups

pub returns-in_err-tell-clause-begins : goal.returns-in_err-tell-clause-begins
returns-in_err-tell-clause-begins g c = begins_left (g.S.Surface.kept c.args.self.now.mesh) c.args.self.now.run.groups

pub returns-else-failed-clause-begins : goal.returns-else-failed-clause-begins
returns-else-failed-clause-begins g c = begins_left (g.S.Surface.kept c.args.self.now.mesh) c.args.self.now.run.groups

pub back_to-requires : goal.back_to-requires
back_to-requires g c = mark_holds g.S.Surface.beyond (g.S.Surface.mesh c.args.self.now.mesh) (g.S.Surface.kept c.args.self.now.mesh) c.args.self.now.run c.in-Some-close.group c.close.new.self c.in-Some-close.ensures c.requires

pub returns-then-failed-clause-begins : goal.returns-then-failed-clause-begins
returns-then-failed-clause-begins g c =
    let kept = g.S.Surface.kept c.args.self.now.mesh in
    let run = c.args.self.now.run in
    let s = state_of (g.S.Surface.mesh c.args.self.now.mesh) kept run in
    let P : List Mesh → Type 0 = λ left. BeginsWith (g.S.Surface.kept c.back_to.new.self) left in
    subst P (sym (left_back kept run.groups s c.in-Some.failed c.in-Some-close.group c.close.new.self c.in-Some-close.ensures c.in-Some.ensures c.if-failed.true)) c.back_to.ensures.marks

pub returns-in_default-clause-nothing_stored : goal.returns-in_default-clause-nothing_stored
returns-in_default-clause-nothing_stored g c = nothing_done (g.O.Outside.around c.args.outside.now) _

pub returns-in_err-tell-clause-nothing_stored : goal.returns-in_err-tell-clause-nothing_stored
returns-in_err-tell-clause-nothing_stored g c =
    let p = err_from_is_err_and c.from_residual.result c.from_residual.ensures.1 in
    rw (p.1, p.2) (nothing_stopped _ _ _ c.in_err-tell.ensures.says.nothing_stored)

pub returns-then-failed-clause-nothing_stored : goal.returns-then-failed-clause-nothing_stored
returns-then-failed-clause-nothing_stored g c = nothing_whole _ _ _ _ c.in_ok-tell.ensures.says.nothing_stored

pub returns-else-failed-clause-nothing_stored : goal.returns-else-failed-clause-nothing_stored
returns-else-failed-clause-nothing_stored g c = nothing_whole _ _ _ _ c.in_ok-tell.ensures.says.nothing_stored
