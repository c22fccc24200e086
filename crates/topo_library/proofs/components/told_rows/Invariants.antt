use Rattle.std.proofs.Common.{◌≡◌, ◌++◌, map, drop}
use Rattle.topo_library.specs.Components.{told_component}
use Rattle.topo_library.proofs.components.told_rows.Given as goal

-- the rows so far and those to come are all
abbrev pub invariant-loop-component : goal.invariant-loop-component
invariant-loop-component l = l.rows ++ map told_component (drop l.component-index l.components) ≡ map told_component l.components
