use Rattle.std.proofs.Common.{ap, sym, ◌∙◌, slice_get}
use Rattle.mesh_base.specs.Sides.{above}
use Rattle.half_mesh.proofs.Vertices.{keys-points}
use Rattle.half_mesh.specs.States.{Ledger}
use Rattle.half_mesh.proofs.tables.Tables.vertex_after.Goals as goal

pub returns-in-Some : goal.returns-in-Some
returns-in-Some c = rw (← ap (λ (x : Ledger). x.state.mesh) c.self.view_is) (c.in-Some.ensures ∙ ap (λ ks. slice_get (above c.args.v ks) 0) (sym (keys-points c.self.inside.fans.woven.fans)))

pub returns-in-None : goal.returns-in-None
returns-in-None c = rw (← ap (λ (x : Ledger). x.state.mesh) c.self.view_is) (c.in-None.ensures ∙ ap (λ ks. slice_get (above c.args.v ks) 0) (sym (keys-points c.self.inside.fans.woven.fans)))
