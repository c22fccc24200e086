use Rattle.std.proofs.Common.{◌≡◌, false, ap, ◌∙◌}
use Rattle.mesh_journal.specs.Journal.{mesh_in, kept_in}
use Rattle.log_run.specs.States.{LogState}
use Rattle.log_run.proofs.CertifiedLines.{still_holds, same_state}
use Rattle.log_run.proofs.run.LogRun.certify.Goals as goal

pub invariant_of-self : goal.invariant_of-self
invariant_of-self c =
    let old = c.self.inside in
    let new = c.certify_line.new.mesh in
    still_holds 1 (mesh_in old.mesh) (mesh_in new) (kept_in old.mesh) (kept_in new) old.at c.certify_line.ensures.same c.certify_line.ensures.marks old.spent c.self.invariant

pub returns-clause-same : goal.returns-clause-same
returns-clause-same c =
    let old = c.self.inside in
    let new = c.certify_line.new.mesh in
    let unspent : old.spent ≡ false = ap (λ (s : LogState). s.is_spent) c.self.view_is ∙ c.requires.unspent in
    same_state 1 (mesh_in old.mesh) (mesh_in new) (kept_in old.mesh) (kept_in new) old.at c.certify_line.ensures.same c.certify_line.ensures.marks old.taken old.spent unspent c.self.invariant
    ∙ c.self.view_is
