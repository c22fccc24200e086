use Rattle.std.proofs.Common.{◌≡◌, ◌≤◌, ◌++◌, length, true, false, refl, sym, ◌∙◌, arith}
use Rattle.mesh_base.proofs.MarksHold.{begins_itself, begins_along}
use Rattle.edit_drop.specs.Drop.{after_rounds, done_in_rounds, does_some}
use Rattle.edit_drop.proofs.Tries.{round_more, round_last, done_more, done_last, all_rounds, all_rounds_done}
use Rattle.edit_drop.proofs.rounds.try_rounds.Goals as goal

pub loop-turn-init : goal.loop-turn-init
loop-turn-init g c = record {
  mesh = refl;
  done = refl;
  closed = c.requires.closed;
  clear = c.requires.clear;
  marks = begins_itself (g.S.Surface.kept c.args.mesh.now);
}

pub loop-turn-preserved : goal.loop-turn-preserved
loop-turn-preserved g c =
    let mesh = g.S.Surface.mesh in
    let kept = g.S.Surface.kept in
    let depth = c.args.depth in
    let vs = c.args.vs.now in
    let m = mesh c.loop-turn.mesh in
    let next = mesh c.try_round.new.mesh in
    let i = c.loop-turn._turn-index in
    let said = c.in_ok-some.ensures in
    let inside = c.loop-turn-test.true in
    let some : does_some depth vs m ≡ true = sym said.some ∙ c.if-not-some.false in
    record {
      mesh = round_more depth m vs i inside next said.mesh (after_rounds vs depth vs (mesh c.args.mesh.now)) some c.loop-turn.invariant.mesh;
      done = done_more depth m vs i inside next said.mesh (c.args.done.now ++ done_in_rounds vs depth vs (mesh c.args.mesh.now)) c.loop-turn.done c.try_round.new.done said.done some c.loop-turn.invariant.done;
      closed = said.closed;
      clear = said.clear;
      marks = begins_along (kept c.try_round.new.mesh) (kept c.loop-turn.mesh) (kept c.args.mesh.now) said.marks c.loop-turn.invariant.marks;
    }

pub returns-clause-mesh : goal.returns-clause-mesh
returns-clause-mesh g c =
    let mesh = g.S.Surface.mesh in
    let end : length c.args.vs.now ≤ c.loop-turn._turn-index = omega (arith, c.loop-turn-test.false) in
    all_rounds c.args.depth (mesh c.loop-turn.mesh) c.args.vs.now c.loop-turn._turn-index end (after_rounds c.args.vs.now c.args.depth c.args.vs.now (mesh c.args.mesh.now)) c.loop-turn.invariant.mesh

pub returns-clause-done : goal.returns-clause-done
returns-clause-done g c =
    let mesh = g.S.Surface.mesh in
    let end : length c.args.vs.now ≤ c.loop-turn._turn-index = omega (arith, c.loop-turn-test.false) in
    all_rounds_done c.args.depth (mesh c.loop-turn.mesh) c.args.vs.now c.loop-turn._turn-index end (c.args.done.now ++ done_in_rounds c.args.vs.now c.args.depth c.args.vs.now (mesh c.args.mesh.now)) c.loop-turn.done c.loop-turn.invariant.done

pub returns-then-not-some-clause-mesh : goal.returns-then-not-some-clause-mesh
returns-then-not-some-clause-mesh g c =
    let mesh = g.S.Surface.mesh in
    let depth = c.args.depth in
    let vs = c.args.vs.now in
    let m = mesh c.loop-turn.mesh in
    let said = c.in_ok-some.ensures in
    let none : does_some depth vs m ≡ false = sym said.some ∙ c.if-not-some.true in
    round_last depth m vs c.loop-turn._turn-index c.loop-turn-test.true (mesh c.try_round.new.mesh) said.mesh (after_rounds vs depth vs (mesh c.args.mesh.now)) none c.loop-turn.invariant.mesh

pub returns-then-not-some-clause-done : goal.returns-then-not-some-clause-done
returns-then-not-some-clause-done g c =
    let mesh = g.S.Surface.mesh in
    let depth = c.args.depth in
    let vs = c.args.vs.now in
    let m = mesh c.loop-turn.mesh in
    let said = c.in_ok-some.ensures in
    let none : does_some depth vs m ≡ false = sym said.some ∙ c.if-not-some.true in
    done_last depth m vs c.loop-turn._turn-index c.loop-turn-test.true (mesh c.try_round.new.mesh) said.mesh (c.args.done.now ++ done_in_rounds vs depth vs (mesh c.args.mesh.now)) c.loop-turn.done c.try_round.new.done said.done none c.loop-turn.invariant.done

pub try_round-requires-clause-closed : goal.try_round-requires-clause-closed
try_round-requires-clause-closed g c = c.loop-turn.invariant.closed

pub try_round-requires-clause-clear : goal.try_round-requires-clause-clear
try_round-requires-clause-clear g c = c.loop-turn.invariant.clear

pub returns-in_err-some-clause-marks : goal.returns-in_err-some-clause-marks
returns-in_err-some-clause-marks g c =
    let kept = g.S.Surface.kept in
    begins_along (kept c.try_round.new.mesh) (kept c.loop-turn.mesh) (kept c.args.mesh.now) c.try_round.ensures.marks c.loop-turn.invariant.marks

pub returns-then-not-some-clause-marks : goal.returns-then-not-some-clause-marks
returns-then-not-some-clause-marks g c =
    let kept = g.S.Surface.kept in
    begins_along (kept c.try_round.new.mesh) (kept c.loop-turn.mesh) (kept c.args.mesh.now) c.try_round.ensures.marks c.loop-turn.invariant.marks
