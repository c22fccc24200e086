use Rattle.track_prove.proofs.Prepare.{gives_no_texts, gives_texts}
use Rattle.track_prove.proofs.inputs.read_all.Goals as goal

pub returns-in-No : goal.returns-in-No
returns-in-No c = gives_no_texts c.args.scale c.args.decimals c.args.mesh.items c.args.log.items c.args.proof.items c.in_ok-why.field-0 c.in_ok-why.ensures c.in-No.why c.in-No.is

pub returns-in-Yes : goal.returns-in-Yes
returns-in-Yes c = gives_texts c.args.scale c.args.decimals c.args.mesh.items c.args.log.items c.args.proof.items c.in_ok-why.field-0 c.in_ok-why.ensures c.in-Yes.lists c.in-Yes.lines c.in-Yes.is c.read_proof_of.result c.read_proof_of.ensures
