use Rattle.std.proofs.Common.{arith, rules}
use Rattle.topo_library.proofs.settings.settings_at.Goals as goal

pub returns : goal.returns
returns c = (record { depth_fits = omega arith; passes_fits = omega arith; zones_fits = omega arith; halvings_fits = omega arith }, search rules)
