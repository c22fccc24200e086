use Rattle.std.proofs.Common.{◌≡◌, Bool, true, false, not, refl, sym}
use Rattle.log_run.proofs.Calls.{closed_kept, closed_back}
use Rattle.log_run.proofs.groups.close_group.Goals as goal

pub returns-then-not-kept : goal.returns-then-not-kept
returns-then-not-kept g c =
    closed_back g.S.Surface.beyond (g.S.Surface.mesh c.args.mesh.now) (g.S.Surface.kept c.args.mesh.now) c.args.at.now c.requires c.if-at.false c.in-Some.mark c.close.new.self c.in-Some.ensures
    c.args.kept c.if-not-kept.true (g.S.Surface.mesh c.back_to.new.self) (g.S.Surface.kept c.back_to.new.self) c.back_to.ensures.mesh c.back_to.ensures.marks

pub returns-else-not-kept : goal.returns-else-not-kept
returns-else-not-kept g c =
    closed_kept g.S.Surface.beyond (g.S.Surface.mesh c.args.mesh.now) (g.S.Surface.kept c.args.mesh.now) c.args.at.now c.requires c.if-at.false c.in-Some.mark c.close.new.self c.in-Some.ensures
    c.args.kept c.if-not-kept.false
