use Rattle.std.proofs.Common.{◌≡◌, ◌∙◌, ap, map, false}
use Rattle.log_run.specs.Steps.{still_at}
use Rattle.log_run.proofs.StepMoves.{rests}
use Rattle.log_run.proofs.step_lines.step_at_rest.Goals as goal

pub returns-clause-holds : goal.returns-clause-holds
returns-clause-holds g c =
    let m = g.S.Surface.mesh c.args.mesh.now in
    rests m _ c.new.ensures
    (c.in_ok-shifts.ensures ∙ ap (map still_at) (c.as_slice.ensures ∙ c.in_ok-ids.ensures))
    (c.in_ok-named.ensures ∙ ap (map (λ v. false)) (c.as_slice-2.ensures ∙ c.in_ok-ids.ensures))
