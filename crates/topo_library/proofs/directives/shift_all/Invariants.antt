use Rattle.std.proofs.Common.{ℕ, drop}
use Rattle.topo_library.specs.declared.fault.TopoFault.{TopoFault}
use Rattle.topo_library.specs.declared.tracker.Tracker.{Tracker}
use Rattle.topo_library.specs.Codes.{HasShiftedEach}
use Rattle.topo_library.proofs.directives.shift_all.Given as goal

-- whatever the rest comes to from here on, all of them come to from the beginning on
abbrev pub invariant-loop-row : goal.invariant-loop-row
invariant-loop-row l = (t : Tracker) (after : TopoFault) (code : ℕ) → HasShiftedEach (drop l.row-index l.rows) l.tracker t l.fault after code → HasShiftedEach l.rows l.initial.tracker t l.initial.fault after code
