use Rattle.track_prove.proofs.Endings.{one_proved, one_verified}
use Rattle.track_prove.proofs.OneText.{one_proof, one_verdict_text}
use Rattle.track_prove.proofs.laws.one_ending.Goals as goal

pub returns-clause-proves : goal.returns-clause-proves
returns-clause-proves c = one_proved

pub returns-clause-verifies : goal.returns-clause-verifies
returns-clause-verifies c = one_verified

pub returns-clause-proof : goal.returns-clause-proof
returns-clause-proof c = one_proof

pub returns-clause-verdict : goal.returns-clause-verdict
returns-clause-verdict c = one_verdict_text
