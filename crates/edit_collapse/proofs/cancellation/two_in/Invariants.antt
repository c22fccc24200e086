use Rattle.std.proofs.Common.{◌≡◌, drop}
use Rattle.std.specs.Prelude.{slice_get}
use Rattle.std.specs.Option.{option_map}
use Rattle.std.specs.List.{filter_map}
use Rattle.edit_collapse.specs.Tried.{opposite_in, two_in}
use Rattle.edit_collapse.proofs.cancellation.two_in.Given as goal

abbrev pub invariant-loop-e : goal.invariant-loop-e
invariant-loop-e l = slice_get (filter_map (λ e. option_map (λ opposite. (e.0, opposite)) (opposite_in l.faces e.1)) (drop l.e-index l.faces)) 0 ≡ two_in l.faces
