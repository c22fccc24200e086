use Rattle.std.proofs.Common.{List, sym, subst}
use Rattle.std.proofs.lemmas.Result.{IfOk-weaker}
use Rattle.track_engine.specs.declared.open_group.OpenGroup.{OpenGroup}
use Rattle.track_engine.specs.Invariant.{MarksHold}
use Rattle.track_engine.specs.State.{state_of}
use Rattle.track_engine.proofs.OpenMarks.{marks_failed}
use Rattle.track_engine.proofs.Undone.{undo_is, undo_writes, undo_left}
use Rattle.track_engine.proofs.engine.Engine.undo.Goals as goal

pub close_group-requires : goal.close_group-requires
close_group-requires g c =
    let P : List OpenGroup → Type 0 = λ groups. MarksHold g.S.Surface.beyond (g.S.Surface.kept c.args.self.now.mesh) groups in
    subst P (sym c.fail_if.ensures) (marks_failed g.S.Surface.beyond (g.S.Surface.kept c.args.self.now.mesh) _ c.args.self.now.run.groups c.requires.marks)

pub returns-clause-writes : goal.returns-clause-writes
returns-clause-writes g c =
    undo_writes _ _ _ _ _ c.close_group.result
    (undo_is (g.S.Surface.mesh c.args.self.now.mesh) (g.S.Surface.kept c.args.self.now.mesh) c.args.self.now.run c.fail_if.new.self c.fail_if.ensures) c.close_group.ensures.writes

pub returns-clause-ready : goal.returns-clause-ready
returns-clause-ready g c =
    let s = state_of (g.S.Surface.mesh c.args.self.now.mesh) (g.S.Surface.kept c.args.self.now.mesh) c.args.self.now.run in
    IfOk-weaker c.close_group.result _ _ (λ refused left. record { invariant = left.invariant; marks = c.close_group.ensures.marks; limits = left.limits })
    (undo_left s _ _ _ c.close_group.result c.requires.invariant c.requires.limits (returns-clause-writes g c) c.close_group.ensures.taken)
