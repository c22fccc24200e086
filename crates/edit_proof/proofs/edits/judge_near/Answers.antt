use Rattle.std.proofs.Common.{◌≡◌, rules}
use Rattle.std.proofs.lemmas.Result.{IfOk-weaker}
use Rattle.edit_base.specs.Scaffold.{motion_by}
use Rattle.motion_proof.specs.Verdicts.{IsVerdict}
use Rattle.edit_proof.specs.Certified.{IsFound}
use Rattle.edit_proof.proofs.Certifying.{verdict_found}
use Rattle.edit_proof.proofs.edits.judge_near.Goals as goal

pub returns : goal.returns
returns g c =
    let m = g.S.Surface.mesh c.args.mesh.now in
    let w = motion_by m c.args.ways.now in
    let due = c.args.claim in
    let p = c.args.proof.now in
    let same : p.claim ≡ due = search rules in
    IfOk-weaker c.accepts_near.result (IsVerdict m w p.claim p.entries) (IsFound m w due p.claim p.entries) (λ v is. verdict_found m w due p.claim p.entries v same is) c.accepts_near.ensures.exact
