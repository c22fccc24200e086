use Rattle.std.proofs.Common.{◌≡◌, refl, ap, get_or, ◌∙◌}
use Rattle.mesh_play.specs.Play.{PlayState, play_state, start_of, after, answer_of}
use Rattle.mesh_play.proofs.Plays.{made_more, told_more, left_more, lawful_more, stopped_here}
use Rattle.mesh_play.proofs.call_sequence.play.Goals as goal

pub returns-in_err-reserve-clause-err : goal.returns-in_err-reserve-clause-err
returns-in_err-reserve-clause-err g c =
    let now : PlayState = play_state g.S.Surface.mesh g.S.Surface.kept c.loop-call.surface c.loop-call.marks.items in
    stopped_here c.from_residual.result (g.S.Surface.mesh c.args.surface.now) now c.args.calls.now c.loop-call.call-index _ c.loop-call-test.true refl c.loop-call.invariant.made

pub returns-in_err-play_one-clause-err : goal.returns-in_err-play_one-clause-err
returns-in_err-play_one-clause-err g c =
    let now : PlayState = play_state g.S.Surface.mesh g.S.Surface.kept c.loop-call.surface c.loop-call.marks.items in
    stopped_here c.from_residual-in_err-play_one.result (g.S.Surface.mesh c.args.surface.now) now c.args.calls.now c.loop-call.call-index _ c.loop-call-test.true c.in_err-play_one.ensures.err.0 c.loop-call.invariant.made

pub loop-call-preserved : goal.loop-call-preserved
loop-call-preserved g c =
    let now : PlayState = play_state g.S.Surface.mesh g.S.Surface.kept c.loop-call.surface c.loop-call.marks.items in
    let next : PlayState = play_state g.S.Surface.mesh g.S.Surface.kept c.play_one.new.surface c.play_one.new.marks.items in
    let start : PlayState = start_of (g.S.Surface.mesh c.args.surface.now) in
    let calls = c.args.calls.now in
    let i = c.loop-call.call-index in
    let call = c.call-item.result in
    let inside = c.loop-call-test.true in
    let new : next ≡ after now (get_or calls i call) = c.in_ok-play_one.ensures.after ∙ ap (λ it. after now it) c.call-item.is in
    let answered : c.in_ok-play_one.field-0 ≡ answer_of now (get_or calls i call) = c.in_ok-play_one.ensures.answer ∙ ap (λ it. answer_of now it) c.call-item.is in
    record {
      told = told_more start now next calls i call c.loop-call.answers.items _ _ _ inside new answered c.reserve.ensures.items c.push_reserved.ensures.items c.loop-call.invariant.told;
      left = left_more start now next calls i call inside new c.loop-call.invariant.left;
      lawful = lawful_more now next calls i call inside new c.loop-call.invariant.lawful;
      made = made_more start now next calls i call inside new c.loop-call.invariant.made;
      marks = c.in_ok-play_one.ensures.marks;
    }
