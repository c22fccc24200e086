use Rattle.proof_text.specs.Views.{state_view}
use Rattle.proof_text.proofs.CertificatesAhead.{passes_line}
use Rattle.proof_text.proofs.first_fault.pass_line.Goals as goal

pub returns : goal.returns
returns c whole = passes_line whole (state_view c.args.state) c.args.number c.args.ended c.args.text.now c.new-found.result c.add_line.new.motions c.new-found.ensures c.add_line.result c.add_line.ensures
