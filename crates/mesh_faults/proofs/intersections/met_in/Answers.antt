use Rattle.std.proofs.Common.{take, ap, ◌∙◌}
use Rattle.pair_scan.proofs.Scans.{told_met}
use Rattle.mesh_faults.proofs.intersections.met_in.Goals as goal

pub returns : goal.returns
returns g c = c.in_ok-found.ensures ∙ ap (take c.args.most) (told_met (g.S.Surface.mesh c.args.mesh.now))
