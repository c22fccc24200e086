use Rattle.std.proofs.Common.{sym, ◌∙◌}
use Rattle.proof_text.specs.Views.{state_view}
use Rattle.proof_text.proofs.CertificatesAhead.{checked_last}
use Rattle.proof_text.proofs.first_fault.check_last.Goals as goal

pub returns : goal.returns
returns c whole = checked_last whole (state_view c.args.state) c.args.last.now c.args.number (sym c.is_empty.ensures ∙ c.if-is_empty.false) c.in_ok-state.state (c.in_ok-state.ensures whole) c.check_closed-2.result c.check_closed-2.ensures
