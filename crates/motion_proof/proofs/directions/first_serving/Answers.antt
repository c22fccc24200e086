use Rattle.std.proofs.Common.{subst}
use Rattle.motion_proof.specs.Trees.{Serves, IsFirstOrNone}
use Rattle.motion_proof.proofs.directions.first_serving.Goals as goal

pub returns-clause-first : goal.returns-clause-first
returns-clause-first c = subst (λ ns. IsFirstOrNone (Serves c.args.claim c.args.s.now c.args.t.now) ns c.first_of.result) c.directions-ns.ensures.value c.first_of.ensures.first
