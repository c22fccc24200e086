use Rattle.track_prove.proofs.Prepare.{gives_meeting, gives_all}
use Rattle.track_prove.proofs.inputs.test_inputs.Goals as goal

pub returns-in-No : goal.returns-in-No
returns-in-No c = gives_meeting c.args.scale c.args.lists.now c.args.lines c.args.proofs c.in_ok-why.field-0 c.in_ok-why.ensures c.in-No.why c.in-No.is

pub returns-in-Yes : goal.returns-in-Yes
returns-in-Yes c = gives_all c.args.scale c.args.lists.now c.args.lines c.args.proofs c.in_ok-why.field-0 c.in_ok-why.ensures c.in-Yes.mesh c.in-Yes.lines c.in-Yes.is c.requires.few c.requires.order
