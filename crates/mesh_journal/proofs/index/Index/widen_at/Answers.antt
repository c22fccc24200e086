use Rattle.std.proofs.Common.{◌∙◌, All, subst}
use Rattle.mesh_base.specs.Sides.{faces_at}
use Rattle.mesh_journal.specs.Boxed.{Holds}
use Rattle.mesh_journal.proofs.index.Index.widen_at.Goals as goal

pub returns-clause-at : goal.returns-clause-at
returns-clause-at g c =
    subst (λ t. All (λ f. Holds c.widen_all.new.self.grid f t) (faces_at (g.B.Surface.mesh c.args.mesh.now) c.args.v)) c.doubled.ensures.value
    (subst (All (λ f. Holds c.widen_all.new.self.grid f c.doubled.result)) (c.deref.ensures.value ∙ c.in-Ok.ensures.ok) c.widen_all.ensures.at)
