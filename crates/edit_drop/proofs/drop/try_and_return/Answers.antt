use Rattle.std.proofs.Common.{◌≡◌, sym, subst, ap, ◌∙◌}
use Rattle.mesh_base.specs.Sides.{IsClosed}
use Rattle.mesh_base.specs.Placements.{IsClearMesh}
use Rattle.mesh_base.proofs.MarksHold.{begins_along, kept_after_return, holds_along, stands_along, stands_for_one}
use Rattle.edit_drop.proofs.drop.try_and_return.Goals as goal

pub try_drop-tried-requires-clause-closed : goal.try_drop-tried-requires-clause-closed
try_drop-tried-requires-clause-closed g c = subst IsClosed (sym c.in_ok-mark.ensures.mesh) c.requires.closed

pub try_drop-tried-requires-clause-clear : goal.try_drop-tried-requires-clause-clear
try_drop-tried-requires-clause-clear g c = subst IsClearMesh (sym c.in_ok-mark.ensures.mesh) c.requires.clear

pub back_to-requires : goal.back_to-requires
back_to-requires g c =
    let kept = g.S.Surface.kept in
    holds_along g.S.Surface.beyond (kept c.try_drop-tried.new.mesh) (kept c.mark.new.self) c.in_ok-mark.mark c.try_drop-tried.ensures.marks c.in_ok-mark.ensures.holds

pub returns-clause-mesh : goal.returns-clause-mesh
returns-clause-mesh g c =
    let mesh = g.S.Surface.mesh in
    let kept = g.S.Surface.kept in
    let put = kept c.try_drop-tried.new.mesh in
    stands_for_one put c.in_ok-mark.mark (mesh c.back_to.new.self) (mesh c.args.mesh.now) c.back_to.ensures.mesh
    (stands_along put (kept c.mark.new.self) c.in_ok-mark.mark (mesh c.args.mesh.now) c.try_drop-tried.ensures.marks c.in_ok-mark.ensures.stands)

pub returns-clause-kept : goal.returns-clause-kept
returns-clause-kept g c =
    let kept = g.S.Surface.kept in
    let newest = kept c.try_drop-tried.new.mesh in
    let old = kept c.args.mesh.now in
    kept_after_return (kept c.back_to.new.self) newest old c.in_ok-mark.mark g.S.Surface.beyond c.in_ok-mark.ensures.under c.in_ok-mark.ensures.place
    (begins_along newest (kept c.mark.new.self) old c.try_drop-tried.ensures.marks c.mark.ensures.marks) c.back_to.ensures.kept
