use Rattle.std.proofs.Common.{refl}
use Rattle.log_run.proofs.Calls.{moved}
use Rattle.log_run.proofs.step_lines.take_move.Goals as goal

pub returns : goal.returns
returns g c =
    moved g.S.Surface.beyond (g.S.Surface.mesh c.args.mesh.now) (g.S.Surface.kept c.args.mesh.now) c.args.at.now c.requires c.if-not-at.false c.args.s.now c.in-Some.place c.put_move.new.step
    (c.in-Some.ensures.may.0 refl) c.in-Some.ensures.place c.in-Ok.ensures
