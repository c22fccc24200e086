use Rattle.std.proofs.Common.{◌+◌, ◌∙◌}
use Rattle.mesh_base.specs.Limits.{are_over}
use Rattle.edit_split.proofs.PutSplit.{counts_of_split}
use Rattle.edit_split.proofs.acts.is_split_over.Goals as goal

pub returns-clause-counts : goal.returns-clause-counts
returns-clause-counts g c = c.are_over.ensures ∙ (λ i. are_over (c.limits.ensures i) (c.vertices.ensures i + 1) (c.faces.ensures i + 2) (c.next_vertex.ensures i + 1) (c.next_face.ensures i + 4))

pub returns-clause-over : goal.returns-clause-over
returns-clause-over g c s at closed edge = returns-clause-counts g c ∙ counts_of_split (g.S.Surface.mesh c.args.mesh.now) s at (g.met.S.Surface.sound c.args.mesh.now) closed edge
