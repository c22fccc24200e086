use Rattle.std.proofs.Common.{sym, subst}
use Rattle.mesh_base.specs.Mesh.{Mesh, IsLiveVertex}
use Rattle.mesh_base.proofs.Finite.{live_inserted}
use Rattle.edit_collapse.proofs.changes.place.Goals as goal

pub make_solid-requires : goal.make_solid-requires
make_solid-requires g c = subst (λ (n : Mesh). IsLiveVertex n c.args.v) (sym c.in_ok-place.ensures.ok) (live_inserted (g.S.Surface.mesh c.args.mesh.now).points c.args.v c.args.at)
