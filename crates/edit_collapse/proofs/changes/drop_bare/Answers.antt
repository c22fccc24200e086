use Rattle.std.proofs.Common.{◌==◌, sym, ap, ◌∙◌}
use Rattle.std.specs.List.{fold}
use Rattle.mesh_base.proofs.MarksHold.{begins_along}
use Rattle.edit_collapse.specs.Tried.{others_than, without_if_bare}
use Rattle.edit_collapse.proofs.Lists.{ended, next_unless}
use Rattle.edit_collapse.proofs.changes.drop_bare.Goals as goal

pub returns-in_err-drop_if_bare_but-clause-marks : goal.returns-in_err-drop_if_bare_but-clause-marks
returns-in_err-drop_if_bare_but-clause-marks g c =
    let kept = g.S.Surface.kept in
    begins_along (kept c.drop_if_bare_but.new.mesh) (kept c.loop-v.mesh) (kept c.args.mesh.now) c.drop_if_bare_but.ensures.marks c.loop-v.invariant.1

pub loop-v-preserved : goal.loop-v-preserved
loop-v-preserved g c =
    let mesh = g.S.Surface.mesh in
    let kept = g.S.Surface.kept in (
      next_unless without_if_bare (λ v. v == c.args.but) c.args.near.now c.loop-v.v-index c.v-item.result (mesh c.loop-v.mesh) (mesh c.drop_if_bare_but.new.mesh) c.loop-v-test.true c.v-item.is c.in_ok-drop_if_bare_but.ensures.made
          ∙ c.loop-v.invariant.0,
      begins_along (kept c.drop_if_bare_but.new.mesh) (kept c.loop-v.mesh) (kept c.args.mesh.now) c.drop_if_bare_but.ensures.marks c.loop-v.invariant.1,
    )

pub returns-clause-made : goal.returns-clause-made
returns-clause-made g c =
    sym (ap (λ l. fold without_if_bare (g.S.Surface.mesh c.loop-v.mesh) (others_than c.args.but l)) (ended c.args.near.now c.loop-v.v-index c.loop-v-test.false))
    ∙ c.loop-v.invariant.0

pub returns-clause-marks : goal.returns-clause-marks
returns-clause-marks g c = c.loop-v.invariant.1
