use Rattle.topo.specs.Texts.{version_line}
use Rattle.topo.proofs.command_line.tell_version.Goals as goal

pub returns : goal.returns
unfolding version_line
returns g c = c.tell.ensures
