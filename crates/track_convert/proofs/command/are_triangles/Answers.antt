use Rattle.track_convert.proofs.Stored.{triangles}
use Rattle.track_convert.proofs.command.are_triangles.Goals as goal

pub returns : goal.returns
returns c = triangles c.args.faces.now c.told-faces
