use Rattle.log_run.proofs.Calls.{opened}
use Rattle.log_run.proofs.groups.open_group.Goals as goal

pub returns : goal.returns
returns g c =
    let made = c.in-Ok.ensures in
    opened g.S.Surface.beyond (g.S.Surface.mesh c.args.mesh.now) (g.S.Surface.kept c.args.mesh.now) c.args.at.now c.requires c.if-at.false c.len.result
    (g.S.Surface.mesh c.mark.new.self) (g.S.Surface.kept c.mark.new.self) c.in-Ok.mark c.open.new.self c.len.ensures c.if-len-ge-GROUPS_MAX.false
    made.mesh made.marks made.holds made.stands made.under c.in-Ok-open.ensures.ok
