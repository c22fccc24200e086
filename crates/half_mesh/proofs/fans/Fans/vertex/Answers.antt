use Rattle.std.proofs.Common.{ap}
use Rattle.std.specs.Option.{option_map}
use Rattle.half_mesh.specs.Walks.{fan_of}
use Rattle.half_mesh.specs.Fans.{Fan}
use Rattle.half_mesh.specs.Ground.{Ground}
use Rattle.half_mesh.proofs.Mapped.{get-map_values}
use Rattle.half_mesh.proofs.fans.Fans.vertex.Goals as goal

pub returns-in-Some : goal.returns-in-Some
returns-in-Some c = rw (← (ap (λ (x : Ground). x.woven) c.self.view_is), get-map_values) (ap (λ o. option_map (λ (f : Fan). f.vertex) (option_map (fan_of c.self.inside.halves) o)) c.in-Some.ensures)

pub returns-in-None : goal.returns-in-None
returns-in-None c = rw (← (ap (λ (x : Ground). x.woven) c.self.view_is), get-map_values) (ap (λ o. option_map (λ (f : Fan). f.vertex) (option_map (fan_of c.self.inside.halves) o)) c.in-None.ensures)
