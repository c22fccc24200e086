use Rattle.std.proofs.Common.{List, ℕ, ap, ◌∙◌}
use Rattle.track_held.specs.Folds.{crowded_among}
use Rattle.track_held.proofs.Crowded.{finds_crowded}
use Rattle.track_held.proofs.folds.first_crowded.Goals as goal

pub returns-clause-none : goal.returns-clause-none
returns-clause-none g c =
    let m = g.S.Surface.mesh c.args.mesh.now in
    let faces = c.as_slice.ensures.value ∙ c.in_ok-faces_at.ensures.ok in
    finds_crowded m c.args.v _ (c.crowded_among.ensures ∙ ap (λ (fs : List ℕ). crowded_among m c.args.v fs) faces)
