use Rattle.std.proofs.Common.{sym, ap, ◌∙◌}
use Rattle.std.specs.FinMap as finite
use Rattle.edit_check.specs.Reach.{faces_in_reach}
use Rattle.edit_proof.proofs.Kept.{kept_none}
use Rattle.edit_proof.proofs.near.find_near.Goals as goal

pub returns-in-None : goal.returns-in-None
returns-in-None g c =
    let m = g.S.Surface.mesh c.args.mesh.now in
    c.clear.ensures.items ∙ sym (kept_none (finite.keys m.faces)) ∙ sym (ap (faces_in_reach m) c.in-None.is)
