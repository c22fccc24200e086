use Rattle.std.proofs.Common.{refl}
use Rattle.track_log.proofs.TestedSteps.{tested_answer}
use Rattle.track_log.proofs.tested_lines.step_passes.Goals as goal

pub returns-in-Some : goal.returns-in-Some
returns-in-Some c =
    let s = c.args.run.now in
    tested_answer s c.in-Some.shifts.now (c.in-Some.ensures.shifts c.requires.unspent) (c.shifts_tell_the_step.ensures s.replay.mesh s.replay.moves (c.in-Some.ensures.told c.requires.unspent refl))
    _ c.all_pass.result c.mesh.ensures c.all_pass.ensures.exact c.all_pass.ensures.clear
