use Rattle.std.proofs.Common.{subst}
use Rattle.pair_candidates.specs.Slabs.{IsSoundIf}
use Rattle.pair_candidates.proofs.slab_tree.joined_if.Goals as goal

pub returns-in_ok-joined-in-Some-second-clause-sound : goal.returns-in_ok-joined-in-Some-second-clause-sound
returns-in_ok-joined-in-Some-second-clause-sound c = λ across faces a b.
    c.in_ok-joined-in-Some-second.ensures.sound across faces (subst (IsSoundIf across faces) c.in-Some.is a) (subst (IsSoundIf across faces) c.in-Some-second.is b)
