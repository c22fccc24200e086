use Rattle.std.proofs.Common.{◌++◌, ap, ◌∙◌}
use Rattle.track_engine.specs.Effects.{edited_answers}
use Rattle.topo_library.specs.Codes.{tracker_state}
use Rattle.topo_library.proofs.Answered.{answers_fit}
use Rattle.topo_library.proofs.edit_calls.ask.Goals as goal

pub put_answers-requires : goal.put_answers-requires
put_answers-requires c =
    let s = tracker_state c.args.tracker.now in
    answers_fit c.args.asked.now s c.as_slice-then-code-eq-DONE.result.now c.args.into.now
    (c.as_slice-then-code-eq-DONE.ensures ∙ c.edits-code.ensures.answers c.if-code-eq-DONE.true ∙ ap (λ l. l ++ edited_answers c.as_slice.result.now s) c.new-answers.ensures ∙ ap (λ a. edited_answers a s) c.as_slice.ensures)
    c.requires
