use Rattle.mesh_measure.proofs.ComponentSteps.{IsListing}
use Rattle.mesh_measure.proofs.measured.each_component.Given as goal

-- the components that begin with the faces so far are listed
abbrev pub invariant-loop-f : goal.invariant-loop-f
invariant-loop-f g l = IsListing (g.S.Surface.mesh l.mesh) l.met l.all l.f-index
