use Rattle.std.proofs.Common.{◌≡◌, ap, ◌∙◌}
use Rattle.track_held.specs.Given.{point_in}
use Rattle.track_held.specs.Numbered.{numbered_point}
use Rattle.track_held.proofs.numbered_tracker.vertex_of.Goals as goal

pub returns : goal.returns
returns c =
    let stands : c.point_of.result ≡ point_in (numbered_point c.args.row.now) = c.point_of.ensures ∙ ap point_in c.numbered_point.ensures in
    λ i. record { id = c.args.row.now.id; at = stands i }
