use Rattle.mesh_journal.proofs.index.Index.settle.Goals as goal

pub loop-e-preserved : goal.loop-e-preserved
loop-e-preserved g c = λ h. c.drop_dropped.ensures (c.loop-e.invariant h)
