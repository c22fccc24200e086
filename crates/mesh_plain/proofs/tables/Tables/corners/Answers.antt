use Rattle.std.proofs.Common.{ap}
use Rattle.std.specs.Option.{option_map}
use Rattle.mesh_base.specs.Changes.{corner_list}
use Rattle.mesh_base.proofs.Ordered.{get_made}
use Rattle.mesh_plain.proofs.tables.Tables.corners.Goals as goal

pub returns-in-Some : goal.returns-in-Some
returns-in-Some c = rw (← c.self.view_is, ← c.f.view_is, get_made) (rw c.list.ensures (ap (option_map corner_list) c.in-Some.ensures.value))

pub returns-in-None : goal.returns-in-None
returns-in-None c = rw (← c.self.view_is, ← c.f.view_is, get_made) (ap (option_map corner_list) c.in-None.ensures.value)
