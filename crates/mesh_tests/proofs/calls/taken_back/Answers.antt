use Rattle.mesh_base.proofs.MarksHold.{holds_along}
use Rattle.mesh_tests.proofs.calls.taken_back.Goals as goal

pub back_to-requires : goal.back_to-requires
back_to-requires g c =
    let kept = g.S.Surface.kept in
    holds_along g.S.Surface.beyond (kept c.added-made.new.mesh) (kept c.mark.new.self) c.in_ok-mark.mark c.added-made.ensures c.in_ok-mark.ensures.holds
