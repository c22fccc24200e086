use Rattle.std.proofs.Common.{◌≤◌, ◌++◌, length, refl, arith}
use Rattle.mesh_base.proofs.MarksHold.{begins_itself, begins_along}
use Rattle.edit_drop.specs.Drop.{after_each, done_of}
use Rattle.edit_drop.proofs.Tries.{one_more, one_more_done, all_tried, all_done}
use Rattle.edit_drop.proofs.rounds.try_each.Goals as goal

pub loop-what-init : goal.loop-what-init
loop-what-init g c = record {
  mesh = refl;
  done = refl;
  closed = c.requires.closed;
  clear = c.requires.clear;
  marks = begins_itself (g.S.Surface.kept c.args.mesh.now);
}

pub returns-in_err-try_one-clause-marks : goal.returns-in_err-try_one-clause-marks
returns-in_err-try_one-clause-marks g c =
    let kept = g.S.Surface.kept in
    begins_along (kept c.try_one.new.mesh) (kept c.loop-what.mesh) (kept c.args.mesh.now) c.try_one.ensures.marks c.loop-what.invariant.marks

pub loop-what-preserved : goal.loop-what-preserved
loop-what-preserved g c =
    let mesh = g.S.Surface.mesh in
    let kept = g.S.Surface.kept in
    let depth = c.args.depth in
    let m = mesh c.loop-what.mesh in
    let i = c.loop-what.what-index in
    let what = c.what-item.result in
    let inside = c.loop-what-test.true in
    let said = c.in_ok-try_one.ensures in
    record {
      mesh = one_more depth m c.args.asked.now i what inside c.what-item.is (after_each depth (mesh c.args.mesh.now) c.args.asked.now) (mesh c.try_one.new.mesh) said.mesh c.loop-what.invariant.mesh;
      done = one_more_done depth m c.args.asked.now i what inside c.what-item.is (c.args.done.now ++ done_of depth (mesh c.args.mesh.now) c.args.asked.now) c.loop-what.done c.try_one.new.done (mesh c.try_one.new.mesh) said.mesh said.done c.loop-what.invariant.done;
      closed = said.closed;
      clear = said.clear;
      marks = begins_along (kept c.try_one.new.mesh) (kept c.loop-what.mesh) (kept c.args.mesh.now) said.marks c.loop-what.invariant.marks;
    }

pub returns-clause-mesh : goal.returns-clause-mesh
returns-clause-mesh g c =
    let mesh = g.S.Surface.mesh in
    let end : length c.args.asked.now ≤ c.loop-what.what-index = omega (arith, c.loop-what-test.false) in
    all_tried c.args.depth (mesh c.loop-what.mesh) c.args.asked.now c.loop-what.what-index end (after_each c.args.depth (mesh c.args.mesh.now) c.args.asked.now) c.loop-what.invariant.mesh

pub returns-clause-done : goal.returns-clause-done
returns-clause-done g c =
    let mesh = g.S.Surface.mesh in
    let end : length c.args.asked.now ≤ c.loop-what.what-index = omega (arith, c.loop-what-test.false) in
    all_done c.args.depth (mesh c.loop-what.mesh) c.args.asked.now c.loop-what.what-index end (c.args.done.now ++ done_of c.args.depth (mesh c.args.mesh.now) c.args.asked.now) c.loop-what.done c.loop-what.invariant.done
