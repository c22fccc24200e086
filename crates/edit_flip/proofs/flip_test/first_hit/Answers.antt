use Rattle.std.proofs.Common.{◌≡◌, sym, subst}
use Rattle.std.specs.Prelude.{IfOk}
use Rattle.grid_decided.specs.Decided.{meets_exactly}
use Rattle.mesh_base.proofs.MarksHold.{begins_along, begins_after_return, kept_after_return, holds_along, stands_along, stands_for_one}
use Rattle.edit_flip.specs.Flip.{flip_scaffold}
use Rattle.edit_base.specs.Scaffold.{first_failing}
use Rattle.edit_flip.specs.Tried.{MayBeTried}
use Rattle.mesh_base.specs.Sides.{IsClosed}
use Rattle.mesh_base.specs.Placements.{IsClearMesh}
use Rattle.edit_flip.proofs.flip_test.first_hit.Goals as goal

pub put_and_check-found-requires-clause-tried : goal.put_and_check-found-requires-clause-tried
put_and_check-found-requires-clause-tried g c = subst (λ n. MayBeTried n c.args.e.now) (sym c.in_ok-mark.ensures.mesh) c.requires.tried

pub returns-clause-first : goal.returns-clause-first
returns-clause-first g c =
    subst (λ n. IfOk c.put_and_check-found.result (λ found. found ≡ first_failing meets_exactly (flip_scaffold n c.args.e.now) c.args.depth)) c.in_ok-mark.ensures.mesh c.put_and_check-found.ensures.first

pub returns-clause-mesh : goal.returns-clause-mesh
returns-clause-mesh g c =
    let mesh = g.S.Surface.mesh in
    let kept = g.S.Surface.kept in
    let put = kept c.put_and_check-found.new.mesh in
    stands_for_one put c.in_ok-mark.mark (mesh c.back_to.new.self) (mesh c.args.mesh.now) c.back_to.ensures.mesh
    (stands_along put (kept c.mark.new.self) c.in_ok-mark.mark (mesh c.args.mesh.now) c.put_and_check-found.ensures.marks c.in_ok-mark.ensures.stands)

pub put_and_check-found-requires-clause-closed : goal.put_and_check-found-requires-clause-closed
put_and_check-found-requires-clause-closed g c = subst IsClosed (sym c.in_ok-mark.ensures.mesh) c.requires.closed

pub put_and_check-found-requires-clause-clear : goal.put_and_check-found-requires-clause-clear
put_and_check-found-requires-clause-clear g c = subst IsClearMesh (sym c.in_ok-mark.ensures.mesh) c.requires.clear

pub back_to-requires : goal.back_to-requires
back_to-requires g c =
    let kept = g.S.Surface.kept in
    holds_along g.S.Surface.beyond (kept c.put_and_check-found.new.mesh) (kept c.mark.new.self) c.in_ok-mark.mark c.put_and_check-found.ensures.marks c.in_ok-mark.ensures.holds

pub returns-clause-marks : goal.returns-clause-marks
returns-clause-marks g c =
    let kept = g.S.Surface.kept in
    let put = kept c.put_and_check-found.new.mesh in
    let old = kept c.args.mesh.now in
    begins_after_return (kept c.back_to.new.self) put old c.in_ok-mark.mark.under c.in_ok-mark.ensures.under
    (begins_along put (kept c.mark.new.self) old c.put_and_check-found.ensures.marks c.in_ok-mark.ensures.marks) c.back_to.ensures.marks

pub returns-clause-kept : goal.returns-clause-kept
returns-clause-kept g c =
    let kept = g.S.Surface.kept in
    let put = kept c.put_and_check-found.new.mesh in
    let old = kept c.args.mesh.now in
    kept_after_return (kept c.back_to.new.self) put old c.in_ok-mark.mark g.S.Surface.beyond c.in_ok-mark.ensures.under c.in_ok-mark.ensures.place
    (begins_along put (kept c.mark.new.self) old c.put_and_check-found.ensures.marks c.in_ok-mark.ensures.marks) c.back_to.ensures.kept
