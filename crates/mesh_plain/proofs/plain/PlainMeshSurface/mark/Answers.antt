use Rattle.std.proofs.Common.{sym, subst}
use Rattle.mesh_base.specs.Mesh.{IsSound}
use Rattle.mesh_shape.proofs.Outcomes.{All-stored}
use Rattle.std.specs.Result.{is_ok}
use Rattle.mesh_plain.proofs.plain.PlainMeshSurface.mark.Goals as goal

pub invariant_of-self : goal.invariant_of-self
invariant_of-self c = record {
  now_sound = c.args.self.now.now_sound;
  before_sound = All-stored IsSound (is_ok c.push.result) c.args.self.now.before.items c.push.new.self.items c.in_ok-copy.copy c.push.ensures.items c.args.self.now.before_sound (subst IsSound (sym c.in_ok-copy.ensures) c.args.self.now.now_sound);
}
