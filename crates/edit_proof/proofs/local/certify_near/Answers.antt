use Rattle.edit_base.specs.Scaffold.{motion_by}
use Rattle.pair_paths.proofs.Boxed.{if_ok}
use Rattle.motion_proof.proofs.MakeSteps.{made_accepted}
use Rattle.edit_proof.proofs.local.certify_near.Goals as goal

pub returns-clause-accepted : goal.returns-clause-accepted
returns-clause-accepted g c =
    let m = g.S.Surface.mesh c.args.mesh.now in
    if_ok c.made_of.result (made_accepted m (motion_by m c.args.ways.now) c.args.claim (g.met.S.Surface.sound c.args.mesh.now)) c.made_of.ensures
