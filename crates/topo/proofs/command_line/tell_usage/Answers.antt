use Rattle.topo.specs.Texts.{usage}
use Rattle.topo.proofs.command_line.tell_usage.Goals as goal

pub returns : goal.returns
unfolding usage
returns g c = c.tell.ensures
