use Rattle.edit_base.specs.Scaffold.{motion_by}
use Rattle.motion_proof.proofs.AcceptanceLaws.{IsAccepted-clear}
use Rattle.motion_proof.proofs.AcceptSteps.{accepted_only, is_accepted}
use Rattle.edit_proof.proofs.local.accepts_near.Goals as goal

pub returns-clause-accepted : goal.returns-clause-accepted
returns-clause-accepted g c =
    let m = g.S.Surface.mesh c.args.mesh.now in
    let w = motion_by m c.args.ways.now in
    let p = c.args.proof.now in
    let is = c.verdict_of.ensures in
    (is_accepted m w p.claim p.entries c.verdict_of.result is, λ accepted. accepted_only m w p.claim p.entries c.verdict_of.result accepted is)

pub returns-clause-clear : goal.returns-clause-clear
returns-clause-clear g c =
    let m = g.S.Surface.mesh c.args.mesh.now in
    let w = motion_by m c.args.ways.now in
    let p = c.args.proof.now in
    λ e. IsAccepted-clear m w p.claim p.entries (is_accepted m w p.claim p.entries c.verdict_of.result c.verdict_of.ensures e)
