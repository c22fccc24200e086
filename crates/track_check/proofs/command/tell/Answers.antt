use Rattle.std.proofs.Common.{◌≡◌, Ok, slice_get, option_map, ap, ◌∙◌}
use Rattle.obj_text.specs.Views.{lists_view}
use Rattle.track_check.specs.Check.{faults_in, refusal_of, report_of, text_told, ending_told}
use Rattle.track_check.proofs.Listed.{first_taken}
use Rattle.track_check.proofs.Ended.{told}
use Rattle.track_check.proofs.command.tell.Goals as goal

pub returns-clause-ends : goal.returns-clause-ends
returns-clause-ends g c =
    let scale = c.args.scale in
    let lists = lists_view c.args.lists.now in
    let text : c.deref-2.result.now ≡ text_told scale (Ok lists) = c.deref-2.ensures.value ∙ c.in_ok-text.ensures ∙ ap (report_of lists) (c.deref.ensures.value ∙ c.in_ok-faults.ensures) in
    let first : c.first_of.result ≡ ending_told scale (Ok lists) = c.first_of.ensures ∙ ap (λ l. option_map refusal_of (slice_get l 0)) (c.deref-3.ensures.value ∙ c.in_ok-faults.ensures) ∙ ap (option_map refusal_of) (first_taken 999999 (faults_in scale lists)) in
    told scale lists c.deref-2.result.now text (g.O.Outside.around c.args.outside.now) _ c.first_of.result first c.in_ok-put.ensures
